-- The seats of the other sessions, through each turn.
use Rattle.std.specs.Prelude.{List, refl, slice_index_or, ℕ, ◌-◌, ◌≡◌, ◌≢◌, ◌≤◌}
use Rattle.std.proofs.Common.{ap, ◌∙◌}
use Rattle.ol_values.specs.declared.event.Event.{Event}
use Rattle.ol_values.specs.declared.history.Actor.TheVariants.{Session}
use Rattle.ol_values.specs.declared.record.Record.{Record}
use Rattle.ol_values.specs.declared.record.Rid.{Rid}
use Rattle.ol_rules.specs.Shelf.{Shelf}
use Rattle.ol_model.specs.ArchiveTurns.{cancel_at, end_at, start_at, take_at}
use Rattle.ol_model.specs.Machine.{Machine, Seat, Work, archive_of, no_seat, seat_of}
use Rattle.ol_model.specs.Steps.{change_row}
use Rattle.ol_model.specs.Turns.{Given, turn}
use Rattle.ol_turn_laws.proofs.KeptLaws.{Stays, cancel_beside, change_sessions, end_beside, other_seat, start_beside, take_beside}
use Rattle.ol_turn_laws.proofs.SteadyLaws.{KeptByArchiver, Steady, turn_steady, unwarmed}

-- the seat of session j stays
abbrev Sits : ℕ → Machine → Machine → Type 0
Sits j m n = seat_of n j ≡ seat_of m j

row_changed : (j n : ℕ) (rid : Rid) (r : Record) (m : Machine) → Sits j m (change_row n rid r m)
row_changed j n rid r m = ap (λ (l : List Seat). slice_index_or l (j - 1) no_seat) (change_sessions n rid r m)

by_stays : (j : ℕ) (m n : Machine) → Stays m n → Sits j m n
by_stays j m n same = ap (λ (w : Work). slice_index_or w.sessions (j - 1) no_seat) same.work

-- a turn of session k leaves the seat of each other session as it was
pub turn_sits : (shelf : Shelf) (g : Given) (m : Machine) (n k j : ℕ) (event : Event) → 1 ≤ k → 1 ≤ j → j ≢ k → seat_of (turn shelf g m n (Session k) event).1 j ≡ seat_of m j
turn_sits shelf g m n k j event from_k from_j differ = turn_steady (Sits j m) shelf g m n (Session k) event steps by_archiver (unwarmed (Sits j m) shelf m (λ x y fixed work incarnation archives h. ap (λ (w : Work). slice_index_or w.sessions (j - 1) no_seat) work ∙ h) (λ w of. refl) refl) refl
  where
    steps : Steady (Sits j m) k
    steps = record {
      rests = λ a b rests h. by_stays j a b rests.stays ∙ h;
      seat = λ s a h. other_seat a k j s from_j from_k differ ∙ h;
      add = λ r a h. h;
      row = λ i rid r a h. row_changed j i rid r a ∙ h;
    }

    by_archiver : KeptByArchiver (Sits j m) m k
    by_archiver = record {
      start = λ level names. by_stays j m (start_at m k level names (archive_of m k)).1 (start_beside m k level names (archive_of m k)).stays;
      take = by_stays j m (take_at m k (archive_of m k)).1 (take_beside m k (archive_of m k)).stays;
      finish = by_stays j m (end_at m k (archive_of m k)).1 (end_beside m k (archive_of m k)).stays;
      cancel = λ count why. by_stays j m (cancel_at count m k why (archive_of m k)).1 (cancel_beside count m k why (archive_of m k)).stays;
    }
