-- A table of what sessions hold that tells the same as the machine's sessions and open transactions.
use Rattle.std.specs.Prelude.{List, None, Option, Some, [], length, map, option_map, ℕ, ◌≡◌, ◌≤◌}
use Rattle.ol_values.specs.declared.record.Rid.{Rid}
use Rattle.ol_rules.specs.Locks.{Holding, holding_of, is_among}
use Rattle.ol_rules.specs.Transactions.{Txn}
use Rattle.ol_model.specs.Machine.{Machine, all_sessions, seat_of, txn_at}

-- a session holds this transaction, owns the slots that it changed, and shares these
pub record IsHolding (h : Holding) (t : Txn) (shares : List Rid) : Type 0 where
  pub number : h.number ≡ t.number
  pub pending : h.pending ≡ t.pending
  pub undone : h.undone ≡ t.undone
  pub owned : (rid : Rid) → is_among rid h.owned ≡ is_among rid t.changed
  pub shared : (rid : Rid) → is_among rid h.shared ≡ is_among rid shares

-- a session holds its open transaction, and where it has none nothing, and then it shares nothing
abbrev pub IsHeld : Option Holding → Option Txn → List Rid → Type 0
IsHeld None None shares = shares ≡ []
IsHeld (Some h) (Some t) shares = IsHolding h t shares
IsHeld _ _ shares = ⊥

-- the table has what each of the 16 sessions holds
pub record TellsSessions (m : Machine) (table : List (Option Holding)) : Type 0 where
  pub sixteen : length table ≡ 16
  pub sessions : (k : ℕ) → 1 ≤ k → k ≤ 16 → IsHeld (holding_of table k) (txn_at m k) (seat_of m k).shares

abbrev pub holding_with : List Rid → Txn → Holding
holding_with shares t = record { number = t.number; pending = t.pending; undone = t.undone; shared = shares; owned = t.changed }

-- the table of the machine's own sessions
abbrev pub table_in : Machine → List (Option Holding)
table_in m = map (λ k. option_map (holding_with (seat_of m k).shares) (txn_at m k)) all_sessions
