-- A log file that is closed: what is left of room, and what the parts show.
use Rattle.std.specs.Prelude.{List, None, Option, Some, false, nat_lt, true, ℕ, ◌+◌, ◌<◌, ◌≡◌, ◌≤◌}
use Rattle.std.proofs.Common.{ap, arith, refl, subst, sym, ◌∙◌}
use Rattle.std.proofs.lemmas.Bool.Decides.{nat_tests}
use Rattle.ol_values.specs.Config.{Config}
use Rattle.ol_values.specs.declared.event.Reply.{Reply}
use Rattle.ol_values.specs.declared.event.Reply.TheVariants.{LogsFull, Switched}
use Rattle.ol_rules.specs.Ring.{Reuse, Ring, Use, blocker, free, free_after_switch, switched_off, use_numbered}
use Rattle.ol_rules.specs.Ring.{flushed as flushed_ring}
use Rattle.ol_model.specs.LogTurns.{can_switch, switch_turn}
use Rattle.ol_model.specs.Machine.{Machine, config_of, formatted, last_of, owed_in, reuse_of, with_ring}
use Rattle.ol_model.specs.Steps.{flush}
use Rattle.ol_turn_laws.proofs.SwitchLaws.{switched_free}
use Rattle.ol_log_state.specs.RingState.{ring_of}
use Rattle.ol_loglog.proofs.Readies.{flushed_empty}
use Rattle.ol_storage.proofs.LogSteps.{flushed_first}
use Rattle.ol_storage.specs.Installation.{Installation, IsGoing, closed}
use Rattle.ol_storage.specs.Installation.{config_of as config_in, last_of as last_behind}
use Rattle.ol_txn.specs.Seats.{Seat}
use Rattle.ol_engine.specs.Parts.{HasRisen, HasTurns, Registers, Shows, ShowsStorage, free_of, lasting_in, owed_of, touched_in}
use Rattle.ol_engine.proofs.Rooms.{finds}
use Rattle.ol_engine.proofs.Seats.{same_shows}
use Rattle.ol_engine.proofs.Steps.{empty_room, flushed_reuse, flushed_uniq}
use Rattle.ol_log_turns.specs.Closing.{may_close, may_close_use}

same_use : (m : Machine) (o : Option Use) → may_close_use (config_of m) m.log.ring o ≡ can_switch m o
same_use m None = refl
same_use m (Some u) = refl

-- whether the current file may be closed is the machine's test
pub may_close_is : (v : Installation) (m : Machine) → ShowsStorage v m → may_close v.ring ≡ can_switch m (use_numbered m.log.ring m.log.ring.uniq)
may_close_is v m is =
    ap (λ (c : Config). may_close_use c (ring_of v.ring.state) (use_numbered (ring_of v.ring.state) v.ring.state.files.uniq)) is.config
    ∙ ap (λ (r : Ring). may_close_use (config_of m) r (use_numbered r r.uniq)) is.ring
    ∙ same_use m (use_numbered m.log.ring m.log.ring.uniq)

-- the machine behind it
abbrev pub switched_machine : Machine → Machine
switched_machine m = with_ring (switched_off (flush m).log.ring) (flush m)

module _ (opened : ℕ) (v : Installation) (seats : List Seat) (registers : Registers) (m : Machine) (shows : Shows opened v seats registers m) (going : IsGoing v) (may : may_close v.ring ≡ true) where
  can : can_switch m (use_numbered m.log.ring m.log.ring.uniq) ≡ true
  can = sym (may_close_is v m shows.storage) ∙ may

  reuse_is : v.ring.state.reuse ≡ reuse_of m
  reuse_is =
      going.reuse
      ∙ ap (λ (b : ℕ). let r : Reuse = record { backed = b; need = v.anchor.need } in r) (ap (λ l. l.backed) shows.storage.lasting)
      ∙ ap (λ (n : ℕ). let r : Reuse = record { backed = m.lasting.backed; need = n } in r) shows.storage.need

  after_is : free_after_switch (config_in v) v.ring.state.reuse (ring_of v.ring.state) ≡ free_after_switch (config_of m) (reuse_of m) m.log.ring
  after_is =
      ap (λ (c : Config). free_after_switch c v.ring.state.reuse (ring_of v.ring.state)) shows.storage.config
      ∙ ap (λ (u : Reuse). free_after_switch (config_of m) u (ring_of v.ring.state)) reuse_is
      ∙ ap (λ (r : Ring). free_after_switch (config_of m) (reuse_of m) r) shows.storage.ring

  owed_is : owed_of seats ≡ owed_in m
  owed_is = (finds opened v seats registers m shows going).owed

  pub switch_refused : (uniq : ℕ) → uniq ≡ blocker (config_in v) v.ring.state.reuse (ring_of v.ring.state) → free_after_switch (config_in v) v.ring.state.reuse (ring_of v.ring.state) < owed_of seats → switch_turn m ≡ (LogsFull uniq, m)
  switch_refused uniq is low =
      let full : nat_lt (free_after_switch (config_of m) (reuse_of m) m.log.ring) (owed_in m) ≡ true = grind (arith, nat_tests, low, after_is, owed_is) in
      let same : blocker (config_of m) (reuse_of m) m.log.ring ≡ uniq = sym (is ∙ (finds opened v seats registers m shows going).blocker) in
      rw (can, full) (ap (λ n. let r : Reply × Machine = (LogsFull n, m) in r) same)

  pub switch_is : owed_of seats ≤ free_after_switch (config_in v) v.ring.state.reuse (ring_of v.ring.state) → switch_turn m ≡ (Switched m.log.ring.uniq, switched_machine m)
  switch_is room =
      let free : nat_lt (free_after_switch (config_of m) (reuse_of m) m.log.ring) (owed_in m) ≡ false = grind (arith, nat_tests, room, after_is, owed_is) in
      rw (can, free) refl

  pub switch_shown : (w : Installation) → w ≡ closed v w.ring.gates → ring_of w.ring.state ≡ switched_off (flushed_ring (config_in v) (ring_of v.ring.state) (last_behind v)) → Shows opened w seats registers (switched_machine m)
  switch_shown w step ring =
      let is = shows.storage in
      let last : last_behind v ≡ last_of m = omega (arith, is.next) in
      record {
        storage = record {
          config = ap (λ (x : Installation). x.ring.config) step ∙ is.config;
          ring =
              ring
              ∙ ap (λ (c : Config). switched_off (flushed_ring c (ring_of v.ring.state) (last_behind v))) is.config
              ∙ ap (λ (r : Ring). switched_off (flushed_ring (config_of m) r (last_behind v))) is.ring
              ∙ ap (λ (n : ℕ). switched_off (flushed_ring (config_of m) m.log.ring n)) last;
          next = ap (λ (x : Installation). x.ring.state.next) step ∙ (flushed_first v.ring.state).1 ∙ is.next;
          reached = ap (λ (x : Installation). x.reached) step ∙ is.reached;
          position = ap (λ (x : Installation). x.anchor.position) step ∙ is.position;
          need = ap (λ (x : Installation). x.anchor.need) step ∙ is.need;
          touched = ap (λ (x : Installation). touched_in x.store.log.places) step ∙ is.touched;
          lasting = ap (λ (x : Installation). lasting_in (config_of m) x.anchor) step ∙ is.lasting;
        };
        sessions = same_shows seats registers m (switched_machine m) refl shows.sessions;
        since = shows.since;
      }

-- a machine with this ring and this reuse, for laws of rings
abbrev ring_machine : Config → Reuse → Ring → Machine
ring_machine c u r = record (formatted c) {
  lasting = record (formatted c).lasting { backed = u.backed };
  log = record (formatted c).log { ring = r };
  checkpoint = record (formatted c).checkpoint { need = u.need };
}

same_test : (c : Config) (u : Reuse) (r : Ring) (o : Option Use) → can_switch (ring_machine c u r) o ≡ may_close_use c r o
same_test c u r None = refl
same_test c u r (Some x) = refl

-- behind the switch as much is free as was told before it
pub switch_free : (v w : Installation) → may_close v.ring ≡ true → w ≡ closed v w.ring.gates → ring_of w.ring.state ≡ switched_off (flushed_ring (config_in v) (ring_of v.ring.state) (last_behind v)) → free_after_switch (config_in v) v.ring.state.reuse (ring_of v.ring.state) ≤ free_of w
switch_free v w may step ring =
    let c = v.ring.config in
    let u = v.ring.state.reuse in
    let r = ring_of v.ring.state in
    let config : w.ring.config ≡ c = ap (λ (x : Installation). x.ring.config) step in
    let reuse : w.ring.state.reuse ≡ u = ap (λ (x : Installation). x.ring.state.reuse) step ∙ flushed_reuse v.ring.state in
    let is : free_of w ≡ free c u (switched_off (flushed_ring c r (last_behind v))) =
    ap (λ (d : Config). free d w.ring.state.reuse (ring_of w.ring.state)) config ∙ ap (λ (k : Reuse). free c k (ring_of w.ring.state)) reuse ∙ ap (λ (q : Ring). free c u q) ring in
    let law = switched_free (ring_machine c u r) (last_behind v) (same_test c u r (use_numbered r r.uniq) ∙ may) in
    omega (arith, is, law)

pub switch_turns : (opened : ℕ) (v w : Installation) (seats : List Seat) → may_close v.ring ≡ true → owed_of seats ≤ free_after_switch (config_in v) v.ring.state.reuse (ring_of v.ring.state) → w ≡ closed v w.ring.gates
    → ring_of w.ring.state ≡ switched_off (flushed_ring (config_in v) (ring_of v.ring.state) (last_behind v)) → HasTurns opened v seats → HasTurns opened w seats
switch_turns opened v w seats may room step ring is =
    let next : w.ring.state.next ≡ v.ring.state.next = ap (λ (x : Installation). x.ring.state.next) step ∙ (flushed_first v.ring.state).1 in
    let need : w.anchor.need ≡ v.anchor.need = ap (λ (x : Installation). x.anchor.need) step in
    let reached : w.reached ≡ v.reached = ap (λ (x : Installation). x.reached) step in
    record {
      room = empty_room w (ap (λ (x : Installation). x.ring.state.buffer) step ∙ flushed_empty v.ring.state);
      log = omega (arith, room, switch_free v w may step ring);
      records = omega (arith, is.records, next);
      positions = omega (arith, is.positions, next);
      at_end = omega (arith, is.at_end, next, reached);
      need = omega (arith, is.need, next, need);
      numbers = λ i h e. let both = is.numbers i h e in (omega (arith, both.0, need), omega (arith, both.1, next));
    }

pub switch_rises : (v w : Installation) → w ≡ closed v w.ring.gates → HasRisen 1 v w
switch_rises v w step = record {
  uniq = subst (λ (x : Installation). x.ring.state.files.uniq ≤ v.ring.state.files.uniq + 1) (sym step) (flushed_uniq v.ring.state);
  serial = subst (λ (x : Installation). x.anchor.serial ≤ v.anchor.serial + 1) (sym step) (omega arith);
  generation = subst (λ (x : Installation). x.anchor.generation ≤ v.anchor.generation + 1) (sym step) (omega arith);
  archive = subst (λ (x : Installation). x.anchor.next_archive ≤ v.anchor.next_archive + 1) (sym step) (omega arith);
}
