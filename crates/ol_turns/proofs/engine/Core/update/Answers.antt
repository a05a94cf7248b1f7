use Rattle.std.specs.Prelude.{IfOk, List, Some, nat_le, true, [], length, ℕ, ◌+◌, ◌≡◌, ◌≤◌}
use Rattle.std.proofs.Common.{ap, arith, refl, subst, sym}
use Rattle.ol_values.specs.declared.event.Event.TheVariants.{Update}
use Rattle.ol_values.specs.declared.history.Actor.{Actor}
use Rattle.ol_values.specs.declared.row.Row.{Row}
use Rattle.ol_engine.specs.Turns.{Answers}
use Rattle.ol_model.specs.Machine.{seat_of}
use Rattle.ol_model.specs.SessionTurns.{change_turn}
use Rattle.ol_model.specs.Turns.{number_of, turn_of}
use Rattle.ol_row_turns.proofs.Changes.{none_found}
use Rattle.ol_rules.specs.Sound.{is_value}
use Rattle.ol_storage.specs.Causes.{HasStorageCause}
use Rattle.ol_storage.specs.Installation.{config_of}
use Rattle.ol_turns.specs.Cores.{AreCounts, HasReplyCause, IsShown, Runs, history_of, machine_of}
use Rattle.ol_turns.specs.declared.state.State.{State}
use Rattle.ol_turns.proofs.Changing.{change_calm, reserved_going, short_row, taken_runs, taken_whole}
use Rattle.ol_turns.proofs.Goes.{calm_answer, reserved_runs, stopped_runs}
use Rattle.ol_turns.proofs.engine.Core.update.Goals as goal

pub returns-in-Some-clause-runs : goal.returns-in-Some-clause-runs
returns-in-Some-clause-runs g c tells earlier begun runs =
    let row : Row = c.copy.result in
    let s : State = record c.args.self.now.state { entries = c.reserve.new.self } in
    let past = g.D.Disk.past c.args.self.now.storage.disk in
    subst (λ (x : State). Runs earlier begun past c.args.self.now.storage.now x) (sym c.refuse.ensures.state)
    (stopped_runs earlier begun past c.args.self.now.storage.now s c.args.by (Update c.args.target row) _ _ c.in-Some.entry c.in-Some.is
    (reserved_runs earlier begun past c.args.self.now.storage.now c.args.self.now.state c.reserve.new.self c.in-Ok.ensures.entries runs))

pub change_target-answered-requires-clause-going : goal.change_target-answered-requires-clause-going
change_target-answered-requires-clause-going g c =
    let old = c.args.self.now.state in
    reserved_going (g.D.Disk.fault_counts c.args.self.now.storage.disk) c.args.self.now.storage.now old c.reserve.new.self c.in-Ok.ensures.entries (c.requires.whole (none_found old.stopped c.in_default.not-Some))

pub returns-clause-whole : goal.returns-clause-whole
returns-clause-whole g c =
    let row : Row = c.copy.result in
    let s : State = record c.args.self.now.state { entries = c.reserve.new.self } in
    let u = c.change_target-answered in
    taken_whole (g.D.Disk.fault_counts c.args.self.now.storage.disk) (g.D.Disk.fault_counts u.new.storage.disk) u.new.storage.now s u.new.state c.args.by (Update c.args.target row) _ _ u.result c.finish.result c.finish.new.self u.ensures.entries u.ensures.going u.ensures.starved
    c.finish.ensures.told c.finish.ensures.ok c.finish.ensures.err

pub returns-clause-runs : goal.returns-clause-runs
returns-clause-runs g c tells earlier begun runs =
    let row : Row = c.copy.result in
    let old = c.args.self.now.state in
    let s : State = record old { entries = c.reserve.new.self } in
    let v = c.args.self.now.storage.now in
    let u = c.change_target-answered in
    let past = g.D.Disk.past c.args.self.now.storage.disk in
    let none = none_found old.stopped c.in_default.not-Some in
    let reserved = reserved_runs earlier begun past v old c.reserve.new.self c.in-Ok.ensures.entries runs in
    let m = machine_of begun s in
    let k = c.session_in-session.result in
    let n : ℕ = length (history_of s) + 1 in
    let seat = seat_of m k in
    let answer = subst (λ (x : Row). Answers m (λ i. IsShown earlier (g.D.Disk.past u.new.storage.disk) u.new.storage.now u.new.state i) (change_turn m n k seat seat.txn c.args.target (Some x)) u.result) (sym c.copy.ensures) (u.ensures.answer tells earlier m (reserved.told none)) in
    taken_runs earlier begun past (g.D.Disk.past u.new.storage.disk) v u.new.storage.now s u.new.state c.args.by (Update c.args.target row) _ _ (change_turn m n k seat seat.txn c.args.target (Some row)) u.result c.finish.result c.finish.new.self
    reserved none u.ensures.entries u.ensures.stopped
    (λ given. ap (λ (a : Actor). turn_of [] given m n (number_of a) (Update c.args.target row)) c.session_in-session.ensures.actor) (change_calm m n k seat seat.txn c.args.target (Some row)) (subst (λ (x : Row). is_value (Some x) ≡ true) (sym c.copy.ensures) (short_row c.args.row c.as_slice.ensures.limit))
    answer c.finish.ensures.told c.finish.ensures.ok c.finish.ensures.err

pub returns-clause-cause : goal.returns-clause-cause
returns-clause-cause g c tells earlier begun runs =
    let row : Row = c.copy.result in
    let old = c.args.self.now.state in
    let s : State = record old { entries = c.reserve.new.self } in
    let v = c.args.self.now.storage.now in
    let u = c.change_target-answered in
    let none = none_found old.stopped c.in_default.not-Some in
    let reserved = reserved_runs earlier begun (g.D.Disk.past c.args.self.now.storage.disk) v old c.reserve.new.self c.in-Ok.ensures.entries runs in
    let m = machine_of begun s in
    let k = c.session_in-session.result in
    let n : ℕ = length (history_of s) + 1 in
    let seat = seat_of m k in
    let faults = g.D.Disk.fault_counts c.args.self.now.storage.disk in
    let now : g.D.Disk.fault_counts c.disk-2.result.now ≡ g.D.Disk.fault_counts u.new.storage.disk = ap g.D.Disk.fault_counts c.disk-2.ensures in
    let answer = subst (λ (x : Row). Answers m (λ i. IsShown earlier (g.D.Disk.past u.new.storage.disk) u.new.storage.now u.new.state i) (change_turn m n k seat seat.txn c.args.target (Some x)) u.result) (sym c.copy.ensures) (u.ensures.answer tells earlier m (reserved.told none)) in
    let counts = subst (λ (l : List ℕ). AreCounts faults l) (sym u.ensures.counts) (c.requires.whole none).counts in
    subst (λ (f : ℕ → ℕ). IfOk c.finish.result (HasReplyCause faults f)) now
    (c.finish.ensures.cause (config_of v) faults counts (omega (arith, c.is_stopped.ensures.ring.config.chunks)) (subst (λ (f : ℕ → ℕ). HasStorageCause (config_of v) faults f u.result) (sym now) u.ensures.cause)
    (calm_answer m (λ x. IsShown earlier (g.D.Disk.past u.new.storage.disk) u.new.storage.now u.new.state x) (change_turn m n k seat seat.txn c.args.target (Some row)) u.result (change_calm m n k seat seat.txn c.args.target (Some row)) answer))
