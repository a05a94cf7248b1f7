-- Room for turns, behind operations.
use Rattle.std.specs.Prelude.{Bool, List, None, Option, Some, [], false, if◌then◌else◌, is_none, length, nat_le, nat_lt, slice_get, true, ℕ, ◌++◌, ◌+◌, ◌-◌, ◌<◌, ◌^◌, ◌||◌, ◌∷◌, ◌≡◌, ◌≤◌}
use Rattle.std.proofs.lemmas.Bool.Decides.{nat_tests}
use Rattle.std.proofs.Common.{ap, arith, inl, inr, refl, subst, sym, ◌∙◌}
use Rattle.std.proofs.lemmas.Bool.{or_parts}
use Rattle.ol_values.specs.declared.event.Reply.{Reply}
use Rattle.ol_values.specs.declared.event.Reply.TheVariants.{JournalFull, LogsFull}
use Rattle.ol_values.specs.declared.record.Record.{Record}
use Rattle.ol_values.specs.Config.{Config}
use Rattle.ol_values.specs.LogPages.{log_room, record_length, records_length}
use Rattle.ol_rules.specs.Locks.{Holding, owed_by_holding}
use Rattle.ol_rules.specs.Ring.{Reuse, Ring, blocker, free, logged, room, written}
use Rattle.ol_rules.specs.Ring.{flushed as flushed_ring, held as held_pages}
use Rattle.ol_turn_laws.proofs.RoomLaws.{flushed_free, more_free, written_room}
use Rattle.ol_log_state.specs.RingState.{ring_of}
use Rattle.ol_loglog.proofs.Readies.{flushed_empty}
use Rattle.ol_loglog.specs.RingValue.{HasRoom, RingValue}
use Rattle.ol_storage.proofs.LogSteps.{flushed_first, logged_goes}
use Rattle.ol_storage.specs.Installation.{Installation, IsGoing, appended, checkpointed, flushed, flushed_of, with_store}
use Rattle.ol_storage.specs.Installation.{config_of as config_in, last_of as last_behind}
use Rattle.ol_txn.specs.Seats.{Seat, table_of}
use Rattle.ol_txn.specs.Telling.{held}
use Rattle.ol_engine.specs.Parts.{HasRisen, HasTurns, IsBeside, MayFollow, free_of, last_in, need_of, owed_of}
use Rattle.ol_engine.specs.Turns.{HasMore, is_journal_full, is_log_full, no_room_of}
use Rattle.ol_engine.proofs.Lows.{need_least, need_within}
use Rattle.ol_engine.proofs.Steps.{append_free, empty_room, flush_free, flushed_reuse, flushed_uniq, logged_uniq}

-- ---- what is not refused

pub has_more : (opened : ℕ) (v : Installation) (seats : List Seat) → no_room_of opened v seats ≡ None → HasMore opened v seats
has_more opened v seats none = by_case (is_journal_full opened v seats) refl
  where
    by_log : (b : Bool) → is_journal_full opened v seats ≡ false → is_log_full v seats ≡ b → HasMore opened v seats
    by_log true j e = absurd (let is : no_room_of opened v seats ≡ Some (LogsFull (blocker (config_in v) v.ring.state.reuse (ring_of v.ring.state))) = rw (j, e) refl in let c : None ≡ Some (LogsFull (blocker (config_in v) v.ring.state.reuse (ring_of v.ring.state))) = sym none ∙ is in cc)
    by_log false j e =
        let parts = or_parts (nat_lt 1048576 (last_in v - opened + owed_of seats + 2)) (nat_lt (2 ^ 62) (last_in v + 1 + owed_of seats + 2)) j in
        record {
          log = grind (arith, nat_tests, e);
          records = grind (arith, nat_tests, parts.0);
          positions = grind (arith, nat_tests, parts.1);
        }

    by_case : (b : Bool) → is_journal_full opened v seats ≡ b → HasMore opened v seats
    by_case false e = by_log (is_log_full v seats) e refl
    by_case true e = absurd (let is : no_room_of opened v seats ≡ Some JournalFull = rw e refl in let c : None ≡ Some JournalFull = sym none ∙ is in cc)

-- ---- one page for what is buffered

abbrev pages_of : List Record → ℕ
pages_of buffer = if is_none (slice_get buffer 0) then 0 else 1

held_or_not : (buffer : List Record) → pages_of buffer ≤ 1
held_or_not [] = omega arith
held_or_not (r ∷ buffer) = omega arith

held_most : (r : Ring) → held_pages r ≤ 1
held_most r = held_or_not r.buffer

held_by_bytes : (buffer : List Record) → 0 < records_length buffer → pages_of buffer ≡ 1
held_by_bytes [] some = absurd (omega (arith, some))
held_by_bytes (r ∷ buffer) some = refl

-- where a page is free, a record leaves room for the page of what is buffered
logged_room : (c : Config) (m : Reuse) (r : Ring) (last : ℕ) (rec : Record) → record_length rec ≤ log_room → 1 ≤ free c m r → held_pages (logged c r last rec) ≤ room c m (logged c r last rec)
logged_room c m r last rec small some = by_case (nat_le (records_length r.buffer + record_length rec) log_room) refl
  where
    by_case : (b : Bool) → nat_le (records_length r.buffer + record_length rec) log_room ≡ b → held_pages (logged c r last rec) ≤ room c m (logged c r last rec)
    by_case true e = rw e (omega (arith, some, held_most (record r { buffer = r.buffer ++ rec ∷ [] })))
    by_case false e =
        let over : log_room < records_length r.buffer + record_length rec = grind (arith, nat_tests, e) in
        let one : held_pages r ≡ 1 = held_by_bytes r.buffer (omega (arith, over, small)) in
        rw e (omega (arith, some, one, written_room c m r last, held_most (record (written c r last) { buffer = rec ∷ [] })))

pub append_room : (v w : Installation) (r : Record) → record_length r ≤ log_room → 1 ≤ free_of v → length v.ring.state.buffer < v.ring.state.next → w ≡ appended v r w.ring.gates → ring_of w.ring.state ≡ logged (config_in v) (ring_of v.ring.state) (last_behind v) r → HasRoom w.ring.config w.ring.state
append_room v w r small some long step ring =
    let reuse : w.ring.state.reuse ≡ v.ring.state.reuse = ap (λ (x : Installation). x.ring.state.reuse) step ∙ (logged_goes r v.ring.state long).reuse in
    let config : w.ring.config ≡ v.ring.config = ap (λ (x : Installation). x.ring.config) step in
    let after : Ring = logged (config_in v) (ring_of v.ring.state) (last_behind v) r in
    let rooms : room w.ring.config w.ring.state.reuse (ring_of w.ring.state) ≡ room v.ring.config v.ring.state.reuse after =
    ap (λ (c : Config). room c w.ring.state.reuse (ring_of w.ring.state)) config ∙ ap (λ (m : Reuse). room v.ring.config m (ring_of w.ring.state)) reuse ∙ ap (λ (q : Ring). room v.ring.config v.ring.state.reuse q) ring in
    let pages : held_pages (ring_of w.ring.state) ≡ held_pages after = ap held_pages ring in
    omega (arith, rooms, pages, logged_room v.ring.config v.ring.state.reuse (ring_of v.ring.state) (last_behind v) r small some)

-- ---- room behind the steps

-- a record that leaves this owed, where each open transaction was open before or began with it
pub append_turns : (opened : ℕ) (v w : Installation) (seats now : List Seat) (r : Record) → record_length r ≤ log_room → length v.ring.state.buffer < v.ring.state.next → w ≡ appended v r w.ring.gates → ring_of w.ring.state ≡ logged (config_in v) (ring_of v.ring.state) (last_behind v) r
    → HasTurns opened v seats → 1 ≤ free_of v → owed_of now + 1 ≤ free_of v → last_in v - opened + 1 + owed_of now ≤ 1048576 → last_in v + 2 + owed_of now ≤ 2 ^ 62
    → ((i : ℕ) (h : Holding) → held (table_of now) i ≡ Some h → (v.anchor.need ≤ h.number) × (h.number ≤ v.ring.state.next)) → HasTurns opened w now
append_turns opened v w seats now r small long step ring is some log records positions numbers =
    let next : w.ring.state.next ≡ v.ring.state.next + 1 = ap (λ (x : Installation). x.ring.state.next) step ∙ (logged_goes r v.ring.state long).next in
    let need : w.anchor.need ≡ v.anchor.need = ap (λ (x : Installation). x.anchor.need) step in
    let reached : w.reached ≡ v.reached + 1 = ap (λ (x : Installation). x.reached) step in
    record {
      room = append_room v w r small some long step ring;
      log = omega (arith, log, append_free v w r small long step ring);
      records = omega (arith, records, next, long);
      positions = omega (arith, positions, next, long);
      at_end = omega (arith, is.at_end, next, reached);
      need = omega (arith, is.need, next, need);
      numbers = λ i h e. let both = numbers i h e in (omega (arith, both.0, need), omega (arith, both.1, next));
    }

-- a record with a table that may stand behind it
pub follow_turns : (opened : ℕ) (v w u : Installation) (seats now : List Seat) (r : Record) → record_length r ≤ log_room → length w.ring.state.buffer < w.ring.state.next → u ≡ with_store (appended w r u.ring.gates) u.store → ring_of u.ring.state ≡ logged (config_in w) (ring_of w.ring.state) (last_behind w) r
    → IsBeside v w → HasTurns opened w seats → MayFollow opened v seats now → HasTurns opened u now
follow_turns opened v w u seats now r small long step ring beside is may =
    let plain : Installation = appended w r u.ring.gates in
    let parts = append_turns opened w plain seats now r small long refl (ap (λ (x : Installation). ring_of x.ring.state) (sym step) ∙ ring) is (omega (arith, may.log, beside.free)) (omega (arith, may.log, beside.free)) (omega (arith, may.records, beside.next)) (omega (arith, may.positions, beside.next))
    (λ i h e. let found = may.numbers i h e in let both = is.numbers found.0 found.1 found.2 in (omega (arith, both.0, found.3), omega (arith, both.1, found.3))) in
    let same : u.ring ≡ plain.ring = ap (λ (x : Installation). x.ring) step in
    let next : u.ring.state.next ≡ plain.ring.state.next = ap (λ (x : RingValue). x.state.next) same in
    let need : u.anchor.need ≡ plain.anchor.need = ap (λ (x : Installation). x.anchor.need) step in
    let reached : u.reached ≡ plain.reached = ap (λ (x : Installation). x.reached) step in
    record {
      room = subst (λ (x : RingValue). HasRoom x.config x.state) (sym same) parts.room;
      log = subst (λ (x : RingValue). owed_of now ≤ free x.config x.state.reuse (ring_of x.state)) (sym same) parts.log;
      records = omega (arith, next, parts.records);
      positions = omega (arith, next, parts.positions);
      at_end = omega (arith, next, reached, parts.at_end);
      need = omega (arith, next, need, parts.need);
      numbers = λ i h e. let both = parts.numbers i h e in (omega (arith, need, both.0), omega (arith, next, both.1));
    }

pub flush_turns : (opened : ℕ) (v w : Installation) (seats : List Seat) → w ≡ flushed v w.ring.gates → ring_of w.ring.state ≡ flushed_ring (config_in v) (ring_of v.ring.state) (last_behind v) → HasTurns opened v seats → HasTurns opened w seats
flush_turns opened v w seats step ring is =
    let next : w.ring.state.next ≡ v.ring.state.next = ap (λ (x : Installation). x.ring.state.next) step ∙ (flushed_first v.ring.state).1 in
    let need : w.anchor.need ≡ v.anchor.need = ap (λ (x : Installation). x.anchor.need) step in
    let reached : w.reached ≡ v.reached = ap (λ (x : Installation). x.reached) step in
    record {
      room = empty_room w (ap (λ (x : Installation). x.ring.state.buffer) step ∙ flushed_empty v.ring.state);
      log = omega (arith, is.log, flush_free v w step ring);
      records = omega (arith, is.records, next);
      positions = omega (arith, is.positions, next);
      at_end = omega (arith, is.at_end, next, reached);
      need = omega (arith, is.need, next, need);
      numbers = λ i h e. let both = is.numbers i h e in (omega (arith, both.0, need), omega (arith, both.1, next));
    }

-- a checkpoint leaves as much free
pub checkpoint_free : (opened : ℕ) (v w : Installation) (seats : List Seat) → 1 ≤ v.ring.state.next → IsGoing v → w ≡ checkpointed v (need_of v seats) v.anchor.next_archive w.ring.gates → ring_of w.ring.state ≡ flushed_ring (config_in v) (ring_of v.ring.state) (last_behind v) → HasTurns opened v seats → free_of v ≤ free_of w
checkpoint_free opened v w seats some going step ring is =
    let bounds = need_within opened v seats some is in
    let config : w.ring.config ≡ v.ring.config = ap (λ (x : Installation). x.ring.config) step in
    let before : v.ring.state.reuse ≡ (let m : Reuse = record { backed = v.anchor.backed; need = v.anchor.need } in m) = going.reuse in
    let reuse : w.ring.state.reuse ≡ (let m : Reuse = record { backed = v.anchor.backed; need = need_of v seats } in m) =
    ap (λ (x : Installation). x.ring.state.reuse) step ∙ ap (λ (m : Reuse). let n : Reuse = record { backed = m.backed; need = need_of v seats } in n) (flushed_reuse v.ring.state ∙ before) in
    let old : Reuse = record { backed = v.anchor.backed; need = v.anchor.need } in
    let new : Reuse = record { backed = v.anchor.backed; need = need_of v seats } in
    let after : Ring = flushed_ring (config_in v) (ring_of v.ring.state) (last_behind v) in
    let first : free_of v ≡ free v.ring.config old (ring_of v.ring.state) = ap (λ (m : Reuse). free v.ring.config m (ring_of v.ring.state)) before in
    let last : free_of w ≡ free v.ring.config new after =
    ap (λ (c : Config). free c w.ring.state.reuse (ring_of w.ring.state)) config ∙ ap (λ (m : Reuse). free v.ring.config m (ring_of w.ring.state)) reuse ∙ ap (λ (q : Ring). free v.ring.config new q) ring in
    let raised = more_free v.ring.config old new (ring_of v.ring.state) (omega arith) bounds.0 in
    let kept = flushed_free v.ring.config new (ring_of v.ring.state) (last_behind v) in
    omega (arith, first, last, raised, kept)

pub checkpoint_turns : (opened : ℕ) (v w : Installation) (seats : List Seat) → 1 ≤ v.ring.state.next → IsGoing v → w ≡ checkpointed v (need_of v seats) v.anchor.next_archive w.ring.gates → ring_of w.ring.state ≡ flushed_ring (config_in v) (ring_of v.ring.state) (last_behind v) → HasTurns opened v seats → HasTurns opened w seats
checkpoint_turns opened v w seats some going step ring is =
    let next : w.ring.state.next ≡ v.ring.state.next = ap (λ (x : Installation). x.ring.state.next) step ∙ (flushed_first v.ring.state).1 in
    let need : w.anchor.need ≡ need_of v seats = ap (λ (x : Installation). x.anchor.need) step in
    let reached : w.reached ≡ v.reached = ap (λ (x : Installation). x.reached) step in
    let bounds = need_within opened v seats some is in
    let more = checkpoint_free opened v w seats some going step ring is in
    record {
      room = empty_room w (ap (λ (x : Installation). x.ring.state.buffer) step ∙ flushed_empty v.ring.state);
      log = omega (arith, is.log, more);
      records = omega (arith, is.records, next);
      positions = omega (arith, is.positions, next);
      at_end = omega (arith, is.at_end, next, reached);
      need = omega (arith, bounds.1, next, need);
      numbers = λ i h e. (omega (arith, need_least v seats i h e, need), omega (arith, (is.numbers i h e).1, next));
    }

-- ---- numbers rise little

pub append_rises : (v w : Installation) (r : Record) → w ≡ appended v r w.ring.gates → HasRisen 1 v w
append_rises v w r step = record {
  uniq = subst (λ (x : Installation). x.ring.state.files.uniq ≤ v.ring.state.files.uniq + 1) (sym step) (logged_uniq r v.ring.state);
  serial = subst (λ (x : Installation). x.anchor.serial ≤ v.anchor.serial + 1) (sym step) (omega arith);
  generation = subst (λ (x : Installation). x.anchor.generation ≤ v.anchor.generation + 1) (sym step) (omega arith);
  archive = subst (λ (x : Installation). x.anchor.next_archive ≤ v.anchor.next_archive + 1) (sym step) (omega arith);
}

pub flush_rises : (v w : Installation) → w ≡ flushed v w.ring.gates → HasRisen 1 v w
flush_rises v w step = record {
  uniq = subst (λ (x : Installation). x.ring.state.files.uniq ≤ v.ring.state.files.uniq + 1) (sym step) (flushed_uniq v.ring.state);
  serial = subst (λ (x : Installation). x.anchor.serial ≤ v.anchor.serial + 1) (sym step) (omega arith);
  generation = subst (λ (x : Installation). x.anchor.generation ≤ v.anchor.generation + 1) (sym step) (omega arith);
  archive = subst (λ (x : Installation). x.anchor.next_archive ≤ v.anchor.next_archive + 1) (sym step) (omega arith);
}

pub checkpoint_rises : (v w : Installation) (need : ℕ) → w ≡ checkpointed v need v.anchor.next_archive w.ring.gates → HasRisen 1 v w
checkpoint_rises v w need step = record {
  uniq = subst (λ (x : Installation). x.ring.state.files.uniq ≤ v.ring.state.files.uniq + 1) (sym step) (flushed_uniq v.ring.state);
  serial = subst (λ (x : Installation). x.anchor.serial ≤ v.anchor.serial + 1) (sym step) (omega arith);
  generation = subst (λ (x : Installation). x.anchor.generation ≤ v.anchor.generation + 1) (sym step) (omega arith);
  archive = subst (λ (x : Installation). x.anchor.next_archive ≤ v.anchor.next_archive + 1) (sym step) (omega arith);
}

-- one rise behind another
pub risen_both : (a b : ℕ) (v w u : Installation) → HasRisen a v w → HasRisen b w u → HasRisen (a + b) v u
risen_both a b v w u first second = record {
  uniq = omega (arith, first.uniq, second.uniq);
  serial = omega (arith, first.serial, second.serial);
  generation = omega (arith, first.generation, second.generation);
  archive = omega (arith, first.archive, second.archive);
}

-- a change raises as little as its record
pub change_rises : (w u : Installation) (r : Record) → u ≡ with_store (appended w r u.ring.gates) u.store → HasRisen 1 w u
change_rises w u r step =
    let plain : Installation = appended w r u.ring.gates in
    let is = append_rises w plain r refl in
    record {
      uniq = subst (λ (x : Installation). x.ring.state.files.uniq ≤ w.ring.state.files.uniq + 1) (sym step) is.uniq;
      serial = subst (λ (x : Installation). x.anchor.serial ≤ w.anchor.serial + 1) (sym step) is.serial;
      generation = subst (λ (x : Installation). x.anchor.generation ≤ w.anchor.generation + 1) (sym step) is.generation;
      archive = subst (λ (x : Installation). x.anchor.next_archive ≤ w.anchor.next_archive + 1) (sym step) is.archive;
    }

-- what a checkpoint leaves beside it
pub checkpoint_beside : (v w : Installation) (need : ℕ) → w ≡ checkpointed v need v.anchor.next_archive w.ring.gates → free_of v ≤ free_of w → IsBeside v w
checkpoint_beside v w need step more = record {
  config = ap (λ (x : Installation). x.ring.config) step;
  states = ap (λ (x : Installation). x.anchor.states) step;
  frames = ap (λ (x : Installation). x.store.pool.spaces) step;
  before = ap (λ (x : Installation). x.store.before) step;
  next = ap (λ (x : Installation). x.ring.state.next) step ∙ (flushed_first v.ring.state).1;
  free = more;
  flushed = subst (λ (x : Installation). flushed_of v ≤ flushed_of x) (sym step) (omega (arith, (flushed_first v.ring.state).0));
}

-- the same ring, anchor and pages leave the same room
pub turns_beside : (opened : ℕ) (v w : Installation) (seats : List Seat) → w.ring ≡ v.ring → w.anchor ≡ v.anchor → w.reached ≡ v.reached → HasTurns opened v seats → HasTurns opened w seats
turns_beside opened v w seats ring anchor reached is =
    let next : w.ring.state.next ≡ v.ring.state.next = ap (λ (r : RingValue). r.state.next) ring in
    let need : w.anchor.need ≡ v.anchor.need = ap (λ a. a.need) anchor in
    record {
      room = subst (λ (r : RingValue). HasRoom r.config r.state) (sym ring) is.room;
      log = subst (λ (r : RingValue). owed_of seats ≤ free r.config r.state.reuse (ring_of r.state)) (sym ring) is.log;
      records = omega (arith, next, is.records);
      positions = omega (arith, next, is.positions);
      at_end = omega (arith, next, reached, is.at_end);
      need = omega (arith, next, need, is.need);
      numbers = λ i h e. let both = is.numbers i h e in (omega (arith, need, both.0), omega (arith, next, both.1));
    }
