-- The effects of a journal: the changes of its committed transactions, in the order of the log.
use Rattle.std.specs.List.{list_any}
use Rattle.std.specs.Prelude.{Bool, List, None, Option, false, fold, if◌then◌else◌, ℕ, ◌&&◌, ◌==◌}
use Rattle.ol_values.specs.declared.record.Record.{Record}
use Rattle.ol_values.specs.declared.record.Record.TheVariants.{Change, Commit as CommitRecord}
use Rattle.ol_values.specs.declared.record.Rid.{Rid}
use Rattle.ol_values.specs.declared.row.Row.{Row}
use Rattle.ol_rules.specs.Journal.{same_place}

-- whether a record commits the transaction of this number
abbrev pub commits : ℕ → Record → Bool
commits n (CommitRecord txn) = txn == n
commits n _ = false

-- whether the journal commits it
abbrev pub is_committed : List Record → ℕ → Bool
is_committed journal n = list_any (commits n) journal

-- what a place holds after a record, where the changes of these transactions alone count
abbrev pub effect_after : (ℕ → Bool) → Rid → Option Row → Record → Option Row
effect_after counts place held (Change n rid before after) = if counts n && same_place rid place then after else held
effect_after counts place held _ = held

-- the same after these records
abbrev pub effect_from : (ℕ → Bool) → Option Row → List Record → Rid → Option Row
effect_from counts held records place = fold (effect_after counts place) held records

-- what a place holds by the committed transactions of the journal alone
abbrev pub effect_at : List Record → Rid → Option Row
effect_at journal place = effect_from (is_committed journal) None journal place
