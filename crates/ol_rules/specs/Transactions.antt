-- Open transactions, what they owe, and the records that take them back.
use Rattle.std.specs.Prelude.{All, Bool, List, Option, [], drop, false, filter, find, flat_map, fold, if◌then◌else◌, length, map, nat_le, not, sum_by, true, ℕ, ◌++◌, ◌+◌, ◌<◌, ◌==◌, ◌∷◌, ◌≤◌}
use Rattle.ol_values.specs.declared.record.Record.{Record}
use Rattle.ol_values.specs.declared.record.Record.TheVariants.{Begin as BeginRecord, Change, Commit as CommitRecord, Rolled, Undo}
use Rattle.ol_values.specs.declared.record.Rid.{Rid}
use Rattle.ol_values.specs.declared.row.Row.{Row}

-- an open transaction: its number, its changes not taken back, the newest first, with what was there before, all places that it changed, and whether one was taken back
pub record Txn : Type 0 where
  pub number : ℕ
  pub pending : List (Rid × Option Row)
  pub changed : List Rid
  pub undone : Bool

abbrev pub begun : ℕ → Txn
begun n = record { number = n; pending = []; changed = []; undone = false }

-- one change more
abbrev pub with_change : Rid → Option Row → Txn → Txn
with_change rid before t = record t { pending = let p : Rid × Option Row = (rid, before) in p ∷ t.pending; changed = rid ∷ t.changed }

-- the newest pending change is taken back
abbrev pub with_undo : Txn → Txn
with_undo t = record t { pending = drop 1 t.pending; undone = true }

-- the transaction of this number becomes another
abbrev pub at_txn : ℕ → (Txn → Txn) → List Txn → List Txn
at_txn n f txns = map (λ (t : Txn). if t.number == n then f t else t) txns

abbrev pub without_txn : ℕ → List Txn → List Txn
without_txn n txns = filter (λ (t : Txn). not (t.number == n)) txns

-- the open transactions after a record
abbrev pub txns_after : List Txn → Record → List Txn
txns_after txns (BeginRecord n) = txns ++ begun n ∷ []
txns_after txns (Change n rid before after) = at_txn n (with_change rid before) txns
txns_after txns (Undo n rid value) = at_txn n with_undo txns
txns_after txns (CommitRecord n) = without_txn n txns
txns_after txns (Rolled n) = without_txn n txns

-- the open transactions after these records
abbrev pub txns_from : List Txn → List Record → List Txn
txns_from txns records = fold txns_after txns records

-- the transactions that the journal leaves open, in ascending number
abbrev pub open_at : List Record → List Txn
open_at journal = txns_from [] journal

-- the transaction of this number
abbrev pub txn_numbered : ℕ → List Txn → Option Txn
txn_numbered n txns = find (λ (t : Txn). t.number == n) txns

-- the least number of an open transaction, else the position after the last
abbrev pub low_of : List Txn → ℕ → ℕ
low_of [] last = last + 1
low_of (t ∷ txns) last = t.number

abbrev pub low_at : List Record → ℕ
low_at journal = low_of (open_at journal) (length journal)

-- ---- roll back

-- one record for the transaction's end, and one for each change not taken back
abbrev pub owed_by : Txn → ℕ
owed_by t = 1 + length t.pending

-- what these transactions owe
abbrev pub owed : List Txn → ℕ
owed txns = sum_by owed_by txns

-- the records that take a transaction back: its changes, the newest first, and its end
abbrev pub back_of : Txn → List Record
back_of t = map (λ (p : Rid × Option Row). Undo t.number p.0 p.1) t.pending ++ Rolled t.number ∷ []

-- the records that take these transactions back, one after the other
abbrev pub back : List Txn → List Record
back txns = flat_map back_of txns

-- the journal with its open transactions taken back
abbrev pub rolled_back : List Record → List Record
rolled_back journal = journal ++ back (open_at journal)

-- ---- in order

-- each of these transactions has a lesser number than those behind it
abbrev pub Ascending : List Txn → Type 0
Ascending [] = Unit {0}
Ascending (t ∷ txns) = All (λ (u : Txn). t.number < u.number) txns × Ascending txns

-- ---- from a number on

-- the transactions from a number on
abbrev pub numbered_from : ℕ → List Txn → List Txn
numbered_from low txns = filter (λ (t : Txn). nat_le low t.number) txns

-- where a record begins a transaction, its number is at least this
abbrev pub BeginsFrom : ℕ → Record → Type 0
BeginsFrom low (BeginRecord n) = low ≤ n
BeginsFrom low _ = Unit {0}

-- all transactions that these records begin have at least this number
abbrev pub AllBegin : ℕ → List Record → Type 0
AllBegin low records = All (BeginsFrom low) records
