-- Row locks: what the sessions hold of transactions and slots, and which of them stands in another's way.
use Rattle.std.specs.List.{list_any, range_with_len}
use Rattle.std.specs.Prelude.{Bool, List, None, Option, Some, false, find, fold, length, min, not, slice_index_or, sum_by, ℕ, ◌&&◌, ◌+◌, ◌-◌, ◌==◌, ◌||◌}
use Rattle.ol_values.specs.declared.record.Rid.{Rid}
use Rattle.ol_values.specs.declared.row.Row.{Row}
use Rattle.ol_rules.specs.Journal.{same_place}

-- what a session with an open transaction holds: the transaction's number, its changes not taken back, the newest first, whether one was taken back, and the slots that it shares and owns
pub record Holding : Type 0 where
  pub number : ℕ
  pub pending : List (Rid × Option Row)
  pub undone : Bool
  pub shared : List Rid
  pub owned : List Rid

-- whether a slot is among these
abbrev pub is_among : Rid → List Rid → Bool
is_among rid rids = list_any (same_place rid) rids

abbrev pub owns : Rid → Option Holding → Bool
owns rid None = false
owns rid (Some h) = is_among rid h.owned

abbrev pub shares : Rid → Option Holding → Bool
shares rid None = false
shares rid (Some h) = is_among rid h.shared

-- whether a session stands in the way of another that would own the slot, or else share it
abbrev pub in_way : Bool → Rid → Option Holding → Bool
in_way own rid held = owns rid held || (own && shares rid held)

-- what session k holds, from 1; nothing where it has no open transaction
abbrev pub holding_of : List (Option Holding) → ℕ → Option Holding
holding_of table k = slice_index_or table (k - 1) None

-- the least of the 16 sessions, beside session k, of which this holds
unfoldable pub least_other : (ℕ → Bool) → ℕ → Option ℕ
least_other test k = find (λ j. not (j == k) && test j) (range_with_len 1 16)

-- the least session in conflict with session k, which would own the slot, or else share it
abbrev pub holder_of : List (Option Holding) → ℕ → Rid → Bool → Option ℕ
holder_of table k rid own = least_other (λ j. in_way own rid (holding_of table j)) k

-- whether an open transaction shares or owns the slot
abbrev pub is_locked : List (Option Holding) → Rid → Bool
is_locked table rid = list_any (λ h. owns rid h || shares rid h) table

-- one record for the transaction's end, and one for each change not taken back
abbrev pub owed_by_holding : Option Holding → ℕ
owed_by_holding None = 0
owed_by_holding (Some h) = 1 + length h.pending

-- what the open transactions owe
abbrev pub owed_in : List (Option Holding) → ℕ
owed_in table = sum_by owed_by_holding table

abbrev pub lesser : Option ℕ → Option Holding → Option ℕ
lesser best None = best
lesser None (Some h) = Some h.number
lesser (Some n) (Some h) = Some (min n h.number)

-- the least number of an open transaction
abbrev pub low_in : List (Option Holding) → Option ℕ
low_in table = fold lesser None table
