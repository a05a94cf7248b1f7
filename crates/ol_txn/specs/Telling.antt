-- That the sessions hold what the journal's open transactions are.
use Rattle.std.specs.List.{list_any}
use Rattle.std.specs.Prelude.{List, None, Option, Some, [], false, is_some, slice_index_or, slice_set, true, ℕ, ◌||◌, ◌∷◌, ◌≡◌}
use Rattle.ol_values.specs.declared.record.Rid.{Rid}
use Rattle.ol_values.specs.declared.row.Row.{Row}
use Rattle.ol_values.specs.Config.{Config, has_place}
use Rattle.ol_rules.specs.Journal.{same_place}
use Rattle.ol_rules.specs.Locks.{Holding, holder_of, is_among}
use Rattle.ol_rules.specs.Sound.{Before, is_value}
use Rattle.ol_rules.specs.Transactions.{Txn}

-- a session holds this transaction, and owns the places that it changed
pub record IsOf (h : Holding) (t : Txn) : Type 0 where
  pub number : h.number ≡ t.number
  pub pending : h.pending ≡ t.pending
  pub undone : h.undone ≡ t.undone
  pub owned : (rid : Rid) → is_among rid h.owned ≡ list_any (same_place rid) t.changed

-- what is held at an index of the table, which is a session less 1
abbrev pub held : List (Option Holding) → ℕ → Option Holding
held table i = slice_index_or table i None

-- no session has an open transaction
abbrev pub IsIdle : List (Option Holding) → Type 0
IsIdle table = (i : ℕ) → held table i ≡ None

-- each of these transactions is held by a session of its own, and no session holds another
abbrev pub Tells : List Txn → List (Option Holding) → Type 0
Tells [] table = IsIdle table
Tells (t ∷ txns) table = (i : ℕ) × (h : Holding) × (held table i ≡ Some h) × IsOf h t × Tells txns (slice_set table i None)

-- the number of the first of these transactions
abbrev pub first_number : List Txn → Option ℕ
first_number [] = None
first_number (t ∷ txns) = Some t.number

-- session k, which holds this, may change the slot so
pub record MayChange (c : Config) (b : Before) (table : List (Option Holding)) (k : ℕ) (h : Holding) (rid : Rid) (before after : Option Row) : Type 0 where
  pub forward : h.undone ≡ false
  pub alone : holder_of table k rid true ≡ None
  pub held : before ≡ b.row rid
  pub something : (is_some before || is_some after) ≡ true
  pub value : is_value after ≡ true
  pub there : has_place c rid ≡ true
