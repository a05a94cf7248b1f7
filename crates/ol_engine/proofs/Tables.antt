-- The lock table with another seat of one session.
use Rattle.std.specs.Prelude.{List, None, Option, Some, length, map, slice_set, ℕ, ◌+◌, ◌-◌, ◌<◌, ◌≡◌, ◌≤◌, ◌⊎◌}
use Rattle.std.proofs.Common.{ap, arith, inl, inr, subst, sym, ◌∙◌}
use Rattle.std.proofs.lemmas.Bool.Decides.{eqb_tells}
use Rattle.std.proofs.lemmas.List.{get_or-set_other, get_or-set_same, length-map, map-set}
use Rattle.std.proofs.lemmas.List.Sums.{sum_by-set}
use Rattle.std.proofs.Math.ListN.{get_or-map}
use Rattle.ol_rules.specs.Locks.{Holding, owed_by_holding, owed_in}
use Rattle.ol_txn.specs.Seats.{IsSession, Seat, empty_seat, seat_of, table_of, with_seat}
use Rattle.ol_txn.specs.Telling.{held}
use Rattle.ol_engine.specs.Parts.{owed_of}

within : (seats : List Seat) (k : ℕ) → length seats ≡ 16 → IsSession k → k - 1 < length (table_of seats)
within seats k long is = omega (arith, long, is.0, is.1, length-map seats (λ (s : Seat). s.holding))

-- what a session holds stands in the table
pub held_seat : (seats : List Seat) (k : ℕ) → held (table_of seats) (k - 1) ≡ (seat_of seats k).holding
held_seat seats k = get_or-map (λ (s : Seat). s.holding) seats (k - 1) empty_seat

-- as much more is owed as the session owes more
pub owed_set : (seats : List Seat) (k : ℕ) (s : Seat) → length seats ≡ 16 → IsSession k → owed_of (with_seat seats k s) + owed_by_holding (seat_of seats k).holding ≡ owed_of seats + owed_by_holding s.holding
owed_set seats k s long is =
    let whole = ap owed_in (map-set (λ (u : Seat). u.holding) seats (k - 1) s) in
    let part = ap owed_by_holding (held_seat seats k) in
    let kept = sum_by-set owed_by_holding (table_of seats) (k - 1) s.holding None (within seats k long is) in
    omega (arith, whole, part, kept)

-- what stands in the table is the session's own or stood there before
pub held_set : (seats : List Seat) (k i : ℕ) (s : Seat) (h : Holding) → length seats ≡ 16 → IsSession k → held (table_of (with_seat seats k s)) i ≡ Some h → (s.holding ≡ Some h) ⊎ (held (table_of seats) i ≡ Some h)
held_set seats k i s h long is e =
    let same : held (slice_set (table_of seats) (k - 1) s.holding) i ≡ Some h = ap (λ (l : List (Option Holding)). held l i) (sym (map-set (λ (u : Seat). u.holding) seats (k - 1) s)) ∙ e in
    elim (eqb_tells i (k - 1)) [
      | inl here ↦ inl (sym (get_or-set_same (table_of seats) (k - 1) s.holding None (within seats k long is)) ∙ ap (λ j. held (slice_set (table_of seats) (k - 1) s.holding) j) (sym here.1) ∙ same)
      | inr there ↦ inr (sym (get_or-set_other (table_of seats) (k - 1) i s.holding None there.1) ∙ same)
    ]
