-- Open transactions as a roll forward keeps them: in the end these are the losers, which are taken back.
use Rattle.std.specs.Prelude.{Bool, List, None, Option, Some, [], drop, false, find, if◌then◌else◌, length, not, sum_by, true, ℕ, ◌&&◌, ◌++◌, ◌+◌, ◌==◌, ◌∷◌, bytes_eq}
use Rattle.ol_values.specs.declared.record.Record.{Record}
use Rattle.ol_values.specs.declared.record.Record.TheVariants.{Begin as BeginRecord, Change, Commit as CommitRecord, Rolled, Undo}
use Rattle.ol_values.specs.declared.record.Rid.{Rid}
use Rattle.ol_values.specs.declared.row.Row.{Row}
use Rattle.ol_rules.specs.Journal.{same_place}

-- an open transaction: its number, its changes not taken back, the newest first, each with its place and what was there before, and whether one was taken back
pub record Loser : Type 0 where
  pub txn : ℕ
  pub changes : List (Rid × Option Row)
  pub undone : Bool

abbrev pub begun : ℕ → Loser
begun n = record { txn = n; changes = []; undone = false }

-- one change more
abbrev pub with_change : Rid → Option Row → Loser → Loser
with_change rid before t = record { txn = t.txn; changes = let p : Rid × Option Row = (rid, before) in p ∷ t.changes; undone = t.undone }

-- the newest change is taken back
abbrev pub with_undo : Loser → Loser
with_undo t = record { txn = t.txn; changes = drop 1 t.changes; undone = true }

-- ---- all of them

-- the transaction of this number
abbrev pub loser_numbered : ℕ → List Loser → Option Loser
loser_numbered n losers = find (λ (t : Loser). t.txn == n) losers

-- the transaction of this number becomes another
abbrev pub at_loser : ℕ → (Loser → Loser) → List Loser → List Loser
at_loser n f [] = []
at_loser n f (t ∷ losers) = if t.txn == n then f t ∷ losers else t ∷ at_loser n f losers

abbrev pub without_loser : ℕ → List Loser → List Loser
without_loser n [] = []
without_loser n (t ∷ losers) = if t.txn == n then losers else t ∷ without_loser n losers

-- the open transactions after a record
abbrev pub losers_after : List Loser → Record → List Loser
losers_after losers (BeginRecord n) = losers ++ begun n ∷ []
losers_after losers (Change n rid before after) = at_loser n (with_change rid before) losers
losers_after losers (Undo n rid value) = at_loser n with_undo losers
losers_after losers (CommitRecord n) = without_loser n losers
losers_after losers (Rolled n) = without_loser n losers

-- one record for a transaction's end, and one for each change not taken back
abbrev pub owed_by : Loser → ℕ
owed_by t = 1 + length t.changes

-- what all of them owe
abbrev pub owed_of : List Loser → ℕ
owed_of losers = sum_by owed_by losers

-- what one owes, if there is one
abbrev pub owed_by_one : Option Loser → ℕ
owed_by_one None = 0
owed_by_one (Some t) = owed_by t

-- ---- tests of one

-- whether there is a transaction, and it passes a test
abbrev pub is_one : Option Loser → (Loser → Bool) → Bool
is_one None test = false
is_one (Some t) test = test t

-- whether two slots hold the same
abbrev pub same_value : Option Row → Option Row → Bool
same_value None None = true
same_value (Some one) (Some other) = bytes_eq one other
same_value _ _ = false

-- whether the first of these changes is of this place, with this before value
abbrev pub begins_with : Rid → Option Row → List (Rid × Option Row) → Bool
begins_with rid value [] = false
begins_with rid value (p ∷ changes) = same_place p.0 rid && same_value p.1 value

-- whether the newest change not taken back is of this place, with this before value
abbrev pub is_newest : Rid → Option Row → Loser → Bool
is_newest rid value t = begins_with rid value t.changes

-- whether nothing was taken back yet
abbrev pub is_forward : Loser → Bool
is_forward t = not t.undone

-- whether all is taken back
abbrev pub is_taken_back : Loser → Bool
is_taken_back t = length t.changes == 0
