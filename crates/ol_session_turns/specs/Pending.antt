-- The changes that open transactions have not taken back.
use Rattle.std.specs.List.{All}
use Rattle.std.specs.Prelude.{Bool, List, Option, Some, [], true, ℕ, ◌≡◌, ◌⊎◌}
use Rattle.ol_values.specs.declared.record.Rid.{Rid}
use Rattle.ol_values.specs.declared.row.Row.{Row}
use Rattle.ol_rules.specs.Locks.{Holding}
use Rattle.ol_txn.specs.Seats.{Seat}
use Rattle.ol_txn.specs.Seats.{seat_of as locks_of}

-- each place of a change that is not taken back passes the test
abbrev pub ArePending : (Rid → Bool) → List Seat → Type 0
ArePending test seats = (k : ℕ) (h : Holding) → (locks_of seats k).holding ≡ Some h → All (λ (p : Rid × Option Row). test p.0 ≡ true) h.pending

-- what a session holds now has no change, or is what it held before: so ArePending is kept (pending_kept in proofs/Places.antt)
abbrev pub HoldsNoMore : List Seat → List Seat → Type 0
HoldsNoMore before now = (k : ℕ) (h : Holding) → (locks_of now k).holding ≡ Some h → (h.pending ≡ []) ⊎ ((locks_of before k).holding ≡ Some h)
