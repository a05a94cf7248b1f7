-- Sound journals: each record meets the rules of its kind against what precedes it.
use Rattle.std.specs.List.{list_all, list_any}
use Rattle.std.specs.Prelude.{All, Bool, List, None, Option, Some, [], false, fold, is_some, length, nat_le, not, slice_get, true, ℕ, ◌+◌, ◌<◌, ◌==◌, ◌^◌, ◌||◌, ◌∷◌, ◌≡◌, ◌≤◌}
use Rattle.ol_values.specs.declared.record.Record.{Record}
use Rattle.ol_values.specs.declared.record.Record.TheVariants.{Begin as BeginRecord, Change, Commit as CommitRecord, Rolled, Undo}
use Rattle.ol_values.specs.declared.record.Rid.{Rid}
use Rattle.ol_values.specs.declared.row.Row.{Row}
use Rattle.ol_values.specs.Config.{Config, has_place, log_pages}
use Rattle.ol_rules.specs.Journal.{row_after, same_place}
use Rattle.ol_rules.specs.Transactions.{Txn, owed, txn_numbered, txns_after}

-- ---- what precedes a record

-- what precedes a record: what each place holds, the open transactions, and the last position
pub record Before : Type 0 where
  pub row : Rid → Option Row
  pub txns : List Txn
  pub last : ℕ

-- before the first record
abbrev pub start : Before
start = record { row = λ place. None; txns = []; last = 0 }

-- after a record
abbrev pub after : Before → Record → Before
after b r = record { row = λ place. row_after place (b.row place) r; txns = txns_after b.txns r; last = b.last + 1 }

-- after these records
abbrev pub afterwards : Before → List Record → Before
afterwards b records = fold after b records

-- ---- the rules

-- there is a transaction, and this holds of it
abbrev pub IsOne : Option Txn → (Txn → Type 0) → Type 0
IsOne None P = ⊥
IsOne (Some t) P = P t

-- the transaction of this number is open, and this holds of it
abbrev pub IsOpen : Before → ℕ → (Txn → Type 0) → Type 0
IsOpen b n P = IsOne (txn_numbered n b.txns) P

-- no open transaction but this changed the place
abbrev pub is_free_for : Before → ℕ → Rid → Bool
is_free_for b n rid = list_all (λ (t : Txn). (t.number == n) || not (list_any (same_place rid) t.changed)) b.txns

-- nothing, or a row of at most 63 bytes
abbrev pub is_value : Option Row → Bool
is_value None = true
is_value (Some row) = nat_le (length row) 63

-- a change has as its before value what the place holds, changes something, leaves nothing or a row, is its transaction's before any undo, and alone at its place, which is there
pub record IsNewChange (c : Config) (b : Before) (n : ℕ) (rid : Rid) (before after : Option Row) (t : Txn) : Type 0 where
  pub held : before ≡ b.row rid
  pub something : (is_some before || is_some after) ≡ true
  pub value : is_value after ≡ true
  pub forward : t.undone ≡ false
  pub alone : is_free_for b n rid ≡ true
  pub there : has_place c rid ≡ true

-- an undo has the place and the before value of its transaction's newest change not taken back, and the place is there
pub record IsNewUndo (c : Config) (rid : Rid) (value : Option Row) (t : Txn) : Type 0 where
  pub newest : slice_get t.pending 0 ≡ Some (rid, value)
  pub there : has_place c rid ≡ true

-- a record meets the rules of its kind: a begin's number is its position, and each other record belongs to an open transaction
abbrev pub Meets : Config → Before → Record → Type 0
Meets c b (BeginRecord n) = (n ≡ b.last + 1) × (length b.txns < 16)
Meets c b (Change n rid before after) = IsOpen b n (IsNewChange c b n rid before after)
Meets c b (Undo n rid value) = IsOpen b n (IsNewUndo c rid value)
Meets c b (CommitRecord n) = IsOpen b n (λ t. t.undone ≡ false)
Meets c b (Rolled n) = IsOpen b n (λ t. t.pending ≡ [])

-- what is owed after a record fits the log files, and the positions do not end
abbrev pub HasRoom : Config → Before → Record → Type 0
HasRoom c b r = let due = owed (txns_after b.txns r) in (due ≤ log_pages c) × (b.last + 1 + due < 2 ^ 62)

-- each of these records is sound after those before it
abbrev pub SoundFrom : Config → Before → List Record → Type 0
SoundFrom c b [] = Unit {0}
SoundFrom c b (r ∷ records) = Meets c b r × HasRoom c b r × SoundFrom c (after b r) records

-- each record of the journal is sound after those before it
abbrev pub Sound : Config → List Record → Type 0
Sound c journal = SoundFrom c start journal

-- ---- where some spaces are up

-- alike at the places of the spaces that are up, and in all else
pub record IsAlike (up : ℕ → Bool) (a b : Before) : Type 0 where
  pub rows : (place : Rid) → up place.space ≡ true → a.row place ≡ b.row place
  pub txns : a.txns ≡ b.txns
  pub last : a.last ≡ b.last

-- where a record is a change, its space is up
abbrev pub ChangesIn : (ℕ → Bool) → Record → Type 0
ChangesIn up (Change n rid before after) = up rid.space ≡ true
ChangesIn up _ = Unit {0}

-- each change among these records is in a space that is up
abbrev pub AllChangesIn : (ℕ → Bool) → List Record → Type 0
AllChangesIn up records = All (ChangesIn up) records
