-- What a row that changes leaves as it was: the archives are those, and the places of changes are there.
use Rattle.std.specs.List.{All}
use Rattle.std.specs.Option.{option_map}
use Rattle.std.specs.Prelude.{Bool, List, None, Option, Some, [], false, length, slice_index_or, slice_set, suc, true, zero, ℕ, ◌-◌, ◌<◌, ◌∷◌, ◌≡◌}
use Rattle.std.proofs.Common.{ap, arith, inl, inr, refl, subst, sym, ◌∙◌}
use Rattle.std.proofs.lemmas.Bool.{cases_Bool}
use Rattle.std.proofs.lemmas.Bool.Decides.{eqb_tells}
use Rattle.std.proofs.lemmas.List.{get_or-set_other, get_or-set_same}
use Rattle.std.proofs.lemmas.List.Elements.{All-cons, All-drop}
use Rattle.ol_values.specs.declared.record.Rid.{Rid}
use Rattle.ol_values.specs.declared.row.Row.{Row}
use Rattle.ol_rules.specs.Locks.{Holding, owns}
use Rattle.ol_cursor.specs.declared.cursor.Cursor.{Cursor}
use Rattle.ol_running.specs.declared.running.Running.{Running}
use Rattle.ol_running.specs.Running.{broken_by, running_of}
use Rattle.ol_row_turns.specs.declared.images.Images.{Images}
use Rattle.ol_row_turns.specs.declared.images.Images.TheVariants.{Break, Capture, Stay}
use Rattle.ol_row_turns.specs.Images.{archives_behind, broken_at}
use Rattle.ol_row_turns.specs.Turns.{SameCursors, cursor_in}
use Rattle.ol_session_turns.proofs.Places.{set_pending}
use Rattle.ol_session_turns.specs.Pending.{ArePending}
use Rattle.ol_txn.specs.Seats.{IsSession, Seat, changing, noted_seat, owned_more, owning, reserved_seat, undoing, undone_seat}
use Rattle.ol_txn.specs.Seats.{seat_of as locks_of, with_seat as with_locks}

-- ---- the archives

some_within : (l : List (Option Running)) (i : ℕ) (r : Running) → slice_index_or l i None ≡ Some r → i < length l
some_within [] i r e = absurd (let c : None ≡ Some r = e in cc)
some_within (x ∷ l) zero r e = omega arith
some_within (x ∷ l) (suc i) r e = omega (arith, some_within l i r e)

-- one that is broken keeps its cursor
broken_cursor : (entry place k : ℕ) (l : List (Option Running)) (r : Running) → slice_index_or l place None ≡ Some r → cursor_in (slice_index_or (slice_set l place (Some (broken_by entry r))) k None) ≡ cursor_in (slice_index_or l k None)
broken_cursor entry place k l r is = elim (eqb_tells k place) [
  | inl here ↦ subst (λ (i : ℕ). cursor_in (slice_index_or (slice_set l place (Some (broken_by entry r))) i None) ≡ cursor_in (slice_index_or l i None)) (sym here.1)
      (ap cursor_in (get_or-set_same l place (Some (broken_by entry r)) None (some_within l place r is)) ∙ sym (ap cursor_in is))
  | inr there ↦ ap cursor_in (get_or-set_other l place k (Some (broken_by entry r)) None (λ same. there.1 same))
]

broken_cursors : (entry place : ℕ) (l : List (Option Running)) (o : Option Running) → slice_index_or l place None ≡ o → SameCursors l (broken_at entry place o l)
broken_cursors entry place l None is k = refl
broken_cursors entry place l (Some r) is k = broken_cursor entry place (k - 1) l r is

pub same_cursors : (images : Images) (entry : ℕ) (l : List (Option Running)) → SameCursors l (archives_behind images entry l)
same_cursors Stay entry l k = refl
same_cursors Capture entry l k = refl
same_cursors (Break place) entry l k = broken_cursors entry place l (slice_index_or l place None) refl k

-- ---- the places of changes

module _ (test : Rid → Bool) (seats : List Seat) (k : ℕ) (session : IsSession k) (sixteen : length seats ≡ 16) (are : ArePending test seats) where
  -- the changes of a seat
  abbrev AreHere : Option Holding → Type 0
  AreHere o = (h : Holding) → o ≡ Some h → All (λ (p : Rid × Option Row). test p.0 ≡ true) h.pending

  mapped : (step : Holding → Holding) (o : Option Holding) → ((h : Holding) → All (λ (p : Rid × Option Row). test p.0 ≡ true) h.pending → All (λ (p : Rid × Option Row). test p.0 ≡ true) (step h).pending) → AreHere o → AreHere (option_map step o)
  mapped step None keeps here h e = absurd (let c : None ≡ Some h = e in cc)
  mapped step (Some g) keeps here h e = (let same : step g ≡ h = (let c : Some (step g) ≡ Some h = e in cc) in subst (λ (x : Holding). All (λ (p : Rid × Option Row). test p.0 ≡ true) x.pending) same (keeps g (here g refl)))

  owned_here : (rid : Rid) → AreHere (owned_more rid (locks_of seats k)).holding
  owned_here rid = elim (cases_Bool (owns rid (locks_of seats k).holding)) [ inl e ↦ rw e (are k) | inr e ↦ rw e (mapped (owning rid) (locks_of seats k).holding (λ h all. all) (are k)) ]

  -- a slot is owned, and its change noted
  pub noted_pending : (rid : Rid) (before : Option Row) → test rid ≡ true → ArePending test (with_locks seats k (noted_seat (rid, before) (owned_more rid (locks_of seats k))))
  noted_pending rid before there = set_pending test seats k session sixteen are (noted_seat (rid, before) (owned_more rid (locks_of seats k)))
      (mapped (changing (rid, before)) (owned_more rid (locks_of seats k)).holding (λ h all. All-cons (λ (p : Rid × Option Row). test p.0 ≡ true) (rid, before) h.pending there all) (owned_here rid))

  -- the newest is taken back
  pub undone_pending : ArePending test (with_locks seats k (undone_seat (locks_of seats k)))
  undone_pending = set_pending test seats k session sixteen are (undone_seat (locks_of seats k))
      (mapped undoing (locks_of seats k).holding (λ h all. All-drop (λ (p : Rid × Option Row). test p.0 ≡ true) 1 h.pending all) (are k))

  -- there is memory for more
  pub reserved_pending : (n : ℕ) → ArePending test (with_locks seats k (reserved_seat n (locks_of seats k)))
  reserved_pending n = set_pending test seats k session sixteen are (reserved_seat n (locks_of seats k)) (are k)
