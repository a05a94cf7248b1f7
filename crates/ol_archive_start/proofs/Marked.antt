-- What the storage shows behind the checkpoint at which an archive starts, and the room that is left.
use Rattle.std.specs.Prelude.{List, ℕ, ◌+◌, ◌≡◌, ◌≤◌}
use Rattle.std.proofs.Common.{ap, arith, refl, subst, sym, ◌∙◌}
use Rattle.ol_rules.specs.Lasting.{Lasting}
use Rattle.ol_rules.specs.Ring.{flushed as flushed_ring}
use Rattle.ol_model.specs.Machine.{Machine, low_in, with_lasting}
use Rattle.ol_model.specs.Steps.{make_checkpoint}
use Rattle.ol_log_state.specs.RingState.{ring_of}
use Rattle.ol_storage.specs.Installation.{Installation, IsGoing, checkpointed, with_anchor}
use Rattle.ol_storage.specs.Installation.{config_of as config_in, last_of as last_behind}
use Rattle.ol_txn.specs.Seats.{Seat}
use Rattle.ol_engine.specs.Parts.{HasRisen, HasTurns, ShowsStorage, need_of}
use Rattle.ol_engine.proofs.Steps.{checkpoint_shows}
use Rattle.ol_engine.proofs.Turns.{checkpoint_rises, checkpoint_turns}
use Rattle.ol_archive_start.specs.Starting.{checkpoint_started}

-- the next archive gets the next number
abbrev numbered : Installation → Installation
numbered x = with_anchor x (record x.anchor { next_archive = x.anchor.next_archive + 1 })

abbrev next_numbered : Lasting → Lasting
next_numbered l = record l { next_archive = l.next_archive + 1 }

numbered_shows : (x : Installation) (n : Machine) → ShowsStorage x n → ShowsStorage (numbered x) (with_lasting (next_numbered n.lasting) n)
numbered_shows x n is = record {
  config = is.config;
  ring = is.ring;
  next = is.next;
  reached = is.reached;
  position = is.position;
  need = is.need;
  touched = is.touched;
  lasting = ap next_numbered is.lasting;
}

numbered_turns : (opened : ℕ) (x : Installation) (seats : List Seat) → HasTurns opened x seats → HasTurns opened (numbered x) seats
numbered_turns opened x seats is = record { room = is.room; log = is.log; records = is.records; positions = is.positions; at_end = is.at_end; need = is.need; numbers = is.numbers }

-- the same checkpoint without it
abbrev plain : Installation → ℕ → Installation → Installation
plain v need w = checkpointed v need v.anchor.next_archive w.ring.gates

plain_ring : (v w : Installation) (need : ℕ) → w ≡ checkpointed v need (v.anchor.next_archive + 1) w.ring.gates → ring_of w.ring.state ≡ flushed_ring (config_in v) (ring_of v.ring.state) (last_behind v) → ring_of (plain v need w).ring.state ≡ flushed_ring (config_in v) (ring_of v.ring.state) (last_behind v)
plain_ring v w need step ring = sym (ap (λ (x : Installation). ring_of x.ring.state) step) ∙ ring

pub marked_shows : (v w : Installation) (need : ℕ) (m : Machine) → w ≡ checkpointed v need (v.anchor.next_archive + 1) w.ring.gates → ring_of w.ring.state ≡ flushed_ring (config_in v) (ring_of v.ring.state) (last_behind v) → need ≡ low_in m → ShowsStorage v m → ShowsStorage w (checkpoint_started m)
marked_shows v w need m step ring low is =
    subst (λ (x : Installation). ShowsStorage x (checkpoint_started m)) (sym step) (numbered_shows (plain v need w) (make_checkpoint m) (checkpoint_shows v (plain v need w) need m refl (plain_ring v w need step ring) low is))

pub marked_turns : (opened : ℕ) (v w : Installation) (seats : List Seat) → 1 ≤ v.ring.state.next → IsGoing v → w ≡ checkpointed v (need_of v seats) (v.anchor.next_archive + 1) w.ring.gates → ring_of w.ring.state ≡ flushed_ring (config_in v) (ring_of v.ring.state) (last_behind v)
    → HasTurns opened v seats → HasTurns opened w seats
marked_turns opened v w seats some going step ring is =
    let x = plain v (need_of v seats) w in
    subst (λ (y : Installation). HasTurns opened y seats) (sym step) (numbered_turns opened x seats (checkpoint_turns opened v x seats some going refl (plain_ring v w (need_of v seats) step ring) is))

pub marked_rises : (v w : Installation) (need : ℕ) → w ≡ checkpointed v need (v.anchor.next_archive + 1) w.ring.gates → HasRisen 1 v w
marked_rises v w need step =
    let plain_rises = checkpoint_rises v (plain v need w) need refl in
    record {
      uniq = subst (λ (x : Installation). x.ring.state.files.uniq ≤ v.ring.state.files.uniq + 1) (sym step) plain_rises.uniq;
      serial = subst (λ (x : Installation). x.anchor.serial ≤ v.anchor.serial + 1) (sym step) plain_rises.serial;
      generation = subst (λ (x : Installation). x.anchor.generation ≤ v.anchor.generation + 1) (sym step) plain_rises.generation;
      archive = subst (λ (x : Installation). x.anchor.next_archive ≤ v.anchor.next_archive + 1) (sym step) (omega arith);
    }
