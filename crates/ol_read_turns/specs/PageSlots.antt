-- The slots of a page: which are full, as places and as bits, and which session owns one.
use Rattle.std.specs.List.{filter, list_any, range_with_len}
use Rattle.std.specs.Int.{bit_at}
use Rattle.std.specs.Prelude.{Bool, List, None, Option, Some, false, map, min, sum_by, true, ℕ, ◌==◌, ◌^◌}
use Rattle.ol_values.specs.declared.record.Rid.{Rid}
use Rattle.ol_values.specs.Pages.{rid_of}
use Rattle.ol_rules.specs.Locks.{Holding, holding_of, least_other, owns}
use Rattle.ol_txn.specs.Seats.{Seat, shared_more}

-- those of so many slots of a page that are full
unfoldable pub full_among : (Rid → Bool) → ℕ → ℕ → ℕ → List Rid
full_among full space page count = filter full (map (rid_of space page) (range_with_len 0 count))

-- the number in which the bits of these slots are set
abbrev pub bits_of : List Rid → ℕ
bits_of rids = sum_by (λ (r : Rid). 2 ^ r.slot) rids

-- whether the bit of a slot is set
abbrev pub is_set : ℕ → Rid → Bool
is_set bits rid = bit_at bits rid.slot == 1

-- the least session beside session k that owns one of so many slots of a page
unfoldable pub page_owner : List (Option Holding) → ℕ → ℕ → ℕ → ℕ → Option ℕ
page_owner table k space page count = least_other (λ j. list_any (λ rid. owns rid (holding_of table j)) (map (rid_of space page) (range_with_len 0 count))) k

-- the lesser of two sessions, where there are both
abbrev pub lesser : Option ℕ → Option ℕ → Option ℕ
lesser None b = b
lesser (Some a) None = Some a
lesser (Some a) (Some b) = Some (min a b)

-- a slot is shared where it is full
abbrev pub shared_if : Bool → Rid → Seat → Seat
shared_if true rid s = shared_more rid s
shared_if false rid s = s
