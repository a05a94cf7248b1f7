-- The one spelling of each log record. Numbers are big-endian.
use Rattle.std.specs.Prelude.{IfSome, IsTrue, List, None, Option, Some, [], flat_map, is_some, length, ℕ, ◌++◌, ◌+◌, ◌<◌, ◌^◌, ◌||◌, ◌∷◌, ◌≤◌}
use Rattle.std.specs.Int.{w16, w64, to_be_bytes}
use Rattle.ol_values.specs.declared.record.Record.{Record}
use Rattle.ol_values.specs.declared.record.Record.TheVariants.{Begin, Change, Commit, Rolled, Undo}
use Rattle.ol_values.specs.declared.record.Rid.{Rid}
use Rattle.ol_values.specs.declared.row.Row.{Row}

-- what a slot holds: the byte 0 for nothing, or the row's length plus 1 and the row
abbrev pub value_bytes : Option Row → List ℕ
value_bytes None = 0 ∷ []
value_bytes (Some row) = (length row + 1) ∷ row

-- the place of a row: space, page and slot
abbrev pub place_bytes : Rid → List ℕ
place_bytes rid = rid.space ∷ to_be_bytes w16 rid.page ++ (rid.slot ∷ [])

-- the spelling of a record: its kind, its transaction, and what it says of a slot
unfoldable pub record_bytes : Record → List ℕ
record_bytes (Begin txn) = 1 ∷ to_be_bytes w64 txn
record_bytes (Change txn rid before after) =
    2 ∷ to_be_bytes w64 txn ++ place_bytes rid ++ value_bytes before ++ value_bytes after
record_bytes (Undo txn rid value) = 3 ∷ to_be_bytes w64 txn ++ place_bytes rid ++ value_bytes value
record_bytes (Commit txn) = 4 ∷ to_be_bytes w64 txn
record_bytes (Rolled txn) = 5 ∷ to_be_bytes w64 txn

-- records, one after the other
abbrev pub records_bytes : List Record → List ℕ
records_bytes records = flat_map record_bytes records

-- a place as its fields can hold it, with one of the 31 slots of a page
pub record IsPlace (rid : Rid) : Type 0 where
  pub space : rid.space < 2 ^ 8
  pub page : rid.page < 2 ^ 16
  pub slot : rid.slot ≤ 30

-- nothing, or a row of at most 63 bytes
abbrev pub IsValue : Option Row → Type 0
IsValue value = IfSome value (λ row. length row ≤ 63)

-- the slot held a row before the change, or holds one after it
abbrev pub IsChange : Option Row → Option Row → Type 0
IsChange before after = IsTrue (is_some before || is_some after)

-- a record of the grammar
abbrev pub IsRecord : Record → Type 0
IsRecord (Begin txn) = txn < 2 ^ 64
IsRecord (Change txn rid before after) =
    (txn < 2 ^ 64) × IsPlace rid × IsValue before × IsValue after × IsChange before after
IsRecord (Undo txn rid value) = (txn < 2 ^ 64) × IsPlace rid × IsValue value
IsRecord (Commit txn) = txn < 2 ^ 64
IsRecord (Rolled txn) = txn < 2 ^ 64

-- what the fields of a record leave open of the grammar: one of the 31 slots, and a change that changes something
abbrev pub KeepsRules : Record → Type 0
KeepsRules (Begin txn) = Unit {0}
KeepsRules (Change txn rid before after) = (rid.slot ≤ 30) × IsChange before after
KeepsRules (Undo txn rid value) = rid.slot ≤ 30
KeepsRules (Commit txn) = Unit {0}
KeepsRules (Rolled txn) = Unit {0}
