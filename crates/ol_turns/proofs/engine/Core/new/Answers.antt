use Rattle.std.specs.Prelude.{List, None, Option, [], length, ℕ, ◌-◌, ◌≡◌}
use Rattle.std.proofs.Common.{ap, subst, sym, ◌∙◌}
use Rattle.ol_values.specs.declared.history.Entry.{Entry}
use Rattle.ol_values.specs.declared.record.Rid.{Rid}
use Rattle.ol_engine.specs.Parts.{HasTurns, Shows, last_in}
use Rattle.ol_free_slots.specs.declared.hints.Hints.{Hints}
use Rattle.ol_free_slots.specs.Filled.{AreFull}
use Rattle.ol_loglog.specs.RingValue.{RingValue}
use Rattle.ol_model.specs.Machine.{Machine}
use Rattle.ol_model.specs.History.{Steps, state_at}
use Rattle.ol_running.specs.Running.{none_running}
use Rattle.ol_session_turns.specs.Pending.{ArePending}
use Rattle.ol_turns.proofs.Begins.{no_pending, none_full, none_numbered, none_up}
use Rattle.ol_turns.specs.Cores.{AreCounts, IsLow, IsTold, is_there}
use Rattle.ol_turns.specs.declared.state.State.{State}
use Rattle.ol_txn.specs.Seats.{Seat, no_locks}
use Rattle.ol_turns.proofs.engine.Core.new.Goals as goal

pub returns-clause-whole : goal.returns-clause-whole
returns-clause-whole g c none =
    let v = c.args.storage.now in
    let opened : c.next_position-opened.result - 1 ≡ last_in v = ap (λ (n : ℕ). n - 1) (c.next_position-opened.ensures.value ∙ ap (λ (r : RingValue). r.state.next) c.log.ensures) in
    record {
      going = c.requires.going;
      turns = subst (λ (n : ℕ). HasTurns n v c.new.result) (sym opened) (subst (λ (l : List Seat). HasTurns (last_in v) v l) (sym c.new.ensures) c.requires.turns);
      places = subst (λ (l : List Seat). ArePending (is_there v) l) (sym c.new.ensures) (no_pending (is_there v));
      up = none_up v.anchor;
      numbers = none_numbered;
      low = subst (λ (h : List Entry). IsLow (length h) v) (sym c.new-4.ensures.entries) c.requires.low;
      table = c.requires.table;
      counts = subst (λ (f : ℕ → ℕ). AreCounts f c.fault_counts-counts.result) (ap g.D.Disk.fault_counts c.disk.ensures) c.fault_counts-counts.ensures;
    }

pub returns-clause-runs : goal.returns-clause-runs
returns-clause-runs g c tells earlier m shows archives stored regular roomy going =
    let v = c.args.storage.now in
    let opened : c.next_position-opened.result - 1 ≡ last_in v = ap (λ (n : ℕ). n - 1) (c.next_position-opened.ensures.value ∙ ap (λ (r : RingValue). r.state.next) c.log.ensures) in
    let s : State = record { table = c.args.table; locks = c.new.result; registers = c.new-2.result; archives = none_running; hints = c.new-3.result; opened = c.next_position-opened.result - 1; stopped = None; entries = c.new-4.result; counts = c.fault_counts-counts.result } in
    let here : state_at [] m c.new-4.result.entries ≡ m = ap (λ (h : List Entry). state_at [] m h) c.new-4.ensures.entries in
    record {
      steps = subst (λ (h : List Entry). Steps [] m 1 h) (sym c.new-4.ensures.entries) tt;
      stopped = ap (λ (k : Machine). k.stopped) here ∙ going;
      told = λ none. subst (λ (k : Machine). IsTold earlier (g.D.Disk.past c.args.storage.disk) v s k) (sym here) (record {
        shown = record {
          shows = subst (λ (n : ℕ). Shows n v c.new.result c.new-2.result m) (sym opened) (subst (λ (l : List Seat). Shows (last_in v) v l c.new-2.result m) (sym c.new.ensures) (subst (λ (l : List (List (Option Rid))). Shows (last_in v) v no_locks l m) (sym c.new-2.ensures) shows));
          archives = archives;
          stored = stored;
          full = subst (λ (h : Hints). AreFull h m) (sym c.new-3.ensures) (none_full m);
          going = going;
        };
        regular = regular;
        roomy = roomy;
      });
    }
