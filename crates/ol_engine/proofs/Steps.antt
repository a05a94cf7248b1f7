-- What the storage shows, and the room that is left, behind its operations.
use Rattle.std.specs.Prelude.{Bool, List, [], false, if◌then◌else◌, is_none, is_some, length, nat_le, slice_get, true, ℕ, ◌++◌, ◌∷◌, ◌+◌, ◌-◌, ◌<◌, ◌^◌, ◌≡◌, ◌≤◌}
use Rattle.std.proofs.Common.{ap, arith, length-append, refl, subst, sym, ◌∙◌}
use Rattle.ol_values.specs.LogPages.{log_room, record_length, records_length}
use Rattle.ol_values.specs.declared.record.Record.{Record}
use Rattle.ol_values.specs.Config.{Config}
use Rattle.ol_rules.specs.Ring.{Reuse, Ring, free, held as held_pages, logged, room}
use Rattle.ol_rules.specs.Ring.{flushed as flushed_ring}
use Rattle.ol_model.specs.Machine.{Machine, config_of, last_of, low_in}
use Rattle.ol_model.specs.Steps.{append, flush, make_checkpoint}
use Rattle.ol_turn_laws.proofs.RoomLaws.{flushed_free, logged_free}
use Rattle.ol_log_state.specs.RingState.{RingState, ring_of}
use Rattle.ol_loglog.proofs.Steps.{number_between}
use Rattle.ol_loglog.specs.RingValue.{HasRoom, flushed_state, logged_state}
use Rattle.ol_storage.proofs.LogSteps.{flushed_first, logged_goes}
use Rattle.ol_storage.specs.Installation.{Installation, appended, checkpointed, flushed, with_store}
use Rattle.ol_storage.specs.Installation.{config_of as config_in, last_of as last_behind}
use Rattle.ol_engine.specs.Parts.{ShowsStorage, free_of, lasting_in, touched_in}

-- ---- the ring's state

-- where no record is buffered no page is held
pub empty_room : (w : Installation) → w.ring.state.buffer ≡ [] → HasRoom w.ring.config w.ring.state
empty_room w e =
    let none : held_pages (ring_of w.ring.state) ≡ 0 = ap (λ (l : List Record). (let n : ℕ = if is_none (slice_get l 0) then 0 else 1 in n)) e in
    omega (arith, none)

-- a flush begins at most the next file
pub flushed_uniq : (s : RingState) → (flushed_state s).files.uniq ≤ s.files.uniq + 1
flushed_uniq s = by_case (is_some (slice_get s.buffer 0)) refl
  where
    by_case : (b : Bool) → is_some (slice_get s.buffer 0) ≡ b → (flushed_state s).files.uniq ≤ s.files.uniq + 1
    by_case true e = rw e ((number_between s.files).1)
    by_case false e = rw e (omega arith)

pub logged_uniq : (r : Record) (s : RingState) → (logged_state r s).files.uniq ≤ s.files.uniq + 1
logged_uniq r s = by_case (nat_le (records_length s.buffer + record_length r) log_room) refl
  where
    by_case : (b : Bool) → nat_le (records_length s.buffer + record_length r) log_room ≡ b → (logged_state r s).files.uniq ≤ s.files.uniq + 1
    by_case true e = rw e (omega arith)
    by_case false e = rw e (flushed_uniq s)

-- and leaves what may be reused
pub flushed_reuse : (s : RingState) → (flushed_state s).reuse ≡ s.reuse
flushed_reuse s = by_case (is_some (slice_get s.buffer 0)) refl
  where
    by_case : (b : Bool) → is_some (slice_get s.buffer 0) ≡ b → (flushed_state s).reuse ≡ s.reuse
    by_case true e = rw e refl
    by_case false e = rw e refl

length_more : (records : List Record) (r : Record) → length (records ++ r ∷ []) ≡ length records + 1
length_more records r = length-append records (r ∷ [])

-- ---- the storage shows the machine

-- the ring behind a flush is the machine's
flushed_is : (v : Installation) (m : Machine) → last_behind v ≡ last_of m → ShowsStorage v m → flushed_ring (config_in v) (ring_of v.ring.state) (last_behind v) ≡ flushed_ring (config_of m) m.log.ring (last_of m)
flushed_is v m last is =
    ap (λ (c : Config). flushed_ring c (ring_of v.ring.state) (last_behind v)) is.config
    ∙ ap (λ (q : Ring). flushed_ring (config_of m) q (last_behind v)) is.ring
    ∙ ap (λ (n : ℕ). flushed_ring (config_of m) m.log.ring n) last

pub append_shows : (v w : Installation) (r : Record) (m : Machine) → length v.ring.state.buffer < v.ring.state.next → w ≡ appended v r w.ring.gates → ring_of w.ring.state ≡ logged (config_in v) (ring_of v.ring.state) (last_behind v) r → ShowsStorage v m → ShowsStorage w (append r m)
append_shows v w r m long step ring is =
    let goes = logged_goes r v.ring.state long in
    let last : last_behind v ≡ last_of m = omega (arith, is.next) in
    record {
      config = ap (λ (x : Installation). x.ring.config) step ∙ is.config;
      ring =
          ring
          ∙ ap (λ (c : Config). logged c (ring_of v.ring.state) (last_behind v) r) is.config
          ∙ ap (λ (q : Ring). logged (config_of m) q (last_behind v) r) is.ring
          ∙ ap (λ (n : ℕ). logged (config_of m) m.log.ring n r) last;
      next = ap (λ (x : Installation). x.ring.state.next) step ∙ goes.next ∙ omega (arith, is.next, length_more m.work.records r);
      reached = ap (λ (x : Installation). x.reached) step ∙ omega (arith, is.reached, length_more m.work.records r);
      position = ap (λ (x : Installation). x.anchor.position) step ∙ is.position;
      need = ap (λ (x : Installation). x.anchor.need) step ∙ is.need;
      touched = ap (λ (x : Installation). touched_in x.store.log.places) step ∙ is.touched;
      lasting = ap (λ (x : Installation). lasting_in (config_of m) x.anchor) step ∙ is.lasting;
    }

pub flush_shows : (v w : Installation) (m : Machine) → w ≡ flushed v w.ring.gates → ring_of w.ring.state ≡ flushed_ring (config_in v) (ring_of v.ring.state) (last_behind v) → ShowsStorage v m → ShowsStorage w (flush m)
flush_shows v w m step ring is =
    let last : last_behind v ≡ last_of m = omega (arith, is.next) in
    record {
      config = ap (λ (x : Installation). x.ring.config) step ∙ is.config;
      ring = ring ∙ flushed_is v m last is;
      next = ap (λ (x : Installation). x.ring.state.next) step ∙ (flushed_first v.ring.state).1 ∙ is.next;
      reached = ap (λ (x : Installation). x.reached) step ∙ is.reached;
      position = ap (λ (x : Installation). x.anchor.position) step ∙ is.position;
      need = ap (λ (x : Installation). x.anchor.need) step ∙ is.need;
      touched = ap (λ (x : Installation). touched_in x.store.log.places) step ∙ is.touched;
      lasting = ap (λ (x : Installation). lasting_in (config_of m) x.anchor) step ∙ is.lasting;
    }

pub checkpoint_shows : (v w : Installation) (need : ℕ) (m : Machine) → w ≡ checkpointed v need v.anchor.next_archive w.ring.gates → ring_of w.ring.state ≡ flushed_ring (config_in v) (ring_of v.ring.state) (last_behind v) → need ≡ low_in m → ShowsStorage v m → ShowsStorage w (make_checkpoint m)
checkpoint_shows v w need m step ring low is =
    let last : last_behind v ≡ last_of m = omega (arith, is.next) in
    record {
      config = ap (λ (x : Installation). x.ring.config) step ∙ is.config;
      ring = ring ∙ flushed_is v m last is;
      next = ap (λ (x : Installation). x.ring.state.next) step ∙ (flushed_first v.ring.state).1 ∙ is.next;
      reached = ap (λ (x : Installation). x.reached) step ∙ is.reached;
      position = ap (λ (x : Installation). x.anchor.position) step ∙ is.reached;
      need = ap (λ (x : Installation). x.anchor.need) step ∙ low;
      touched = ap (λ (x : Installation). touched_in x.store.log.places) step;
      lasting = ap (λ (x : Installation). lasting_in (config_of m) x.anchor) step ∙ is.lasting;
    }

-- ---- what is free

-- what is free of the ring that a step leaves
pub free_is : (v w : Installation) (r : Ring) → w.ring.config ≡ v.ring.config → w.ring.state.reuse ≡ v.ring.state.reuse → ring_of w.ring.state ≡ r → free_of w ≡ free v.ring.config v.ring.state.reuse r
free_is v w r config reuse ring =
    ap (λ (c : Config). free c w.ring.state.reuse (ring_of w.ring.state)) config ∙ ap (λ (m : Reuse). free v.ring.config m (ring_of w.ring.state)) reuse ∙ ap (λ (q : Ring). free v.ring.config v.ring.state.reuse q) ring

-- a flush leaves as much free
pub flush_free : (v w : Installation) → w ≡ flushed v w.ring.gates → ring_of w.ring.state ≡ flushed_ring (config_in v) (ring_of v.ring.state) (last_behind v) → free_of v ≤ free_of w
flush_free v w step ring =
    let reuse : w.ring.state.reuse ≡ v.ring.state.reuse = ap (λ (x : Installation). x.ring.state.reuse) step ∙ flushed_reuse v.ring.state in
    let config : w.ring.config ≡ v.ring.config = ap (λ (x : Installation). x.ring.config) step in
    omega (arith, free_is v w _ config reuse ring, flushed_free v.ring.config v.ring.state.reuse (ring_of v.ring.state) (last_behind v))

-- a record takes at most one page
pub append_free : (v w : Installation) (r : Record) → record_length r ≤ log_room → length v.ring.state.buffer < v.ring.state.next → w ≡ appended v r w.ring.gates → ring_of w.ring.state ≡ logged (config_in v) (ring_of v.ring.state) (last_behind v) r → free_of v ≤ free_of w + 1
append_free v w r small long step ring =
    let reuse : w.ring.state.reuse ≡ v.ring.state.reuse = ap (λ (x : Installation). x.ring.state.reuse) step ∙ (logged_goes r v.ring.state long).reuse in
    let config : w.ring.config ≡ v.ring.config = ap (λ (x : Installation). x.ring.config) step in
    omega (arith, free_is v w _ config reuse ring, logged_free v.ring.config v.ring.state.reuse (ring_of v.ring.state) (last_behind v) r small)

-- ---- a page that came into memory

pub loaded_shows : (v w : Installation) (m : Machine) → w ≡ with_store v w.store → w.store.log ≡ v.store.log → ShowsStorage v m → ShowsStorage w m
loaded_shows v w m step log is = record {
  config = ap (λ (x : Installation). x.ring.config) step ∙ is.config;
  ring = ap (λ (x : Installation). ring_of x.ring.state) step ∙ is.ring;
  next = ap (λ (x : Installation). x.ring.state.next) step ∙ is.next;
  reached = ap (λ (x : Installation). x.reached) step ∙ is.reached;
  position = ap (λ (x : Installation). x.anchor.position) step ∙ is.position;
  need = ap (λ (x : Installation). x.anchor.need) step ∙ is.need;
  touched = ap (λ l. touched_in l.places) log ∙ is.touched;
  lasting = ap (λ (x : Installation). lasting_in (config_of m) x.anchor) step ∙ is.lasting;
}
