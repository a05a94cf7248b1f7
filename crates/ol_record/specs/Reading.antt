-- Reading from left to right: each reader gives a value and the bytes behind it, or nothing.
use Rattle.std.specs.Prelude.{Bool, List, None, Option, Some, [], drop, false, if◌then◌else◌, is_some, length, nat_lt, suc, take, zero, ℕ, ◌-◌, ◌==◌, ◌||◌, ◌∷◌}
use Rattle.std.specs.Int.{Width, w16, w64, byte_len, from_be_bytes}
use Rattle.ol_bytes.specs.Reading.{◌>>=◌}
use Rattle.ol_values.specs.declared.record.Record.{Record}
use Rattle.ol_values.specs.declared.record.Record.TheVariants.{Begin, Change, Commit, Rolled, Undo}
use Rattle.ol_values.specs.declared.record.Rid.{Rid}
use Rattle.ol_values.specs.declared.row.Row.{Row}

-- a number of this width
abbrev pub number_at : Width → List ℕ → Option (ℕ × List ℕ)
number_at w bytes =
    if nat_lt (length bytes) (byte_len w)
    then None
    else Some (from_be_bytes w (take (byte_len w) bytes), drop (byte_len w) bytes)

-- a place, whose slot is at most 30
unfoldable pub place_at : List ℕ → Option (Rid × List ℕ)
place_at (space ∷ high ∷ low ∷ slot ∷ rest) =
    if nat_lt 30 slot
    then None
    else Some (record { space = space; page = from_be_bytes w16 (high ∷ low ∷ []); slot = slot }, rest)
place_at _ = None

-- a row of so many bytes
abbrev pub row_at : ℕ → List ℕ → Option (Option Row × List ℕ)
row_at n bytes = if nat_lt (length bytes) n then None else Some (Some (take n bytes), drop n bytes)

-- nothing, or a row of at most 63 bytes
unfoldable pub value_at : List ℕ → Option (Option Row × List ℕ)
value_at [] = None
value_at (n ∷ rest) =
    if n == 0 then Some (None, rest) else (if nat_lt 64 n then None else row_at (n - 1) rest)

-- a change behind its transaction, with a row before it or after it
unfoldable pub change_at : ℕ → List ℕ → Option (Record × List ℕ)
change_at txn bytes = do
  rid ← place_at bytes
  before ← value_at rid.1
  after ← value_at before.1
  if is_some before.0 || is_some after.0 then Some (Change txn rid.0 before.0 after.0, after.1) else None

-- an undo behind its transaction
unfoldable pub undo_at : ℕ → List ℕ → Option (Record × List ℕ)
undo_at txn bytes = do
  rid ← place_at bytes
  value ← value_at rid.1
  Some (Undo txn rid.0 value.0, value.1)

-- the rest of a record of this kind
unfoldable pub kind_at : ℕ → ℕ → List ℕ → Option (Record × List ℕ)
kind_at kind txn bytes =
    if kind == 1 then Some (Begin txn, bytes)
    else (if kind == 2 then change_at txn bytes
    else (if kind == 3 then undo_at txn bytes
    else (if kind == 4 then Some (Commit txn, bytes)
    else (if kind == 5 then Some (Rolled txn, bytes) else None))))

-- a record of any kind
unfoldable pub record_at : List ℕ → Option (Record × List ℕ)
record_at [] = None
record_at (kind ∷ rest) = do
  txn ← number_at w64 rest
  kind_at kind txn.0 txn.1

-- ---- several records

-- the test of what stands behind a record, where there is one
abbrev pub whole_behind : (List ℕ → Bool) → Option (Record × List ℕ) → Bool
whole_behind rest None = false
whole_behind rest (Some x) = rest x.1

-- whether the bytes are so many records and no more
unfoldable pub whole_in : ℕ → List ℕ → Bool
whole_in zero bytes = length bytes == 0
whole_in (suc n) bytes = whole_behind (whole_in n) (record_at bytes)

-- a record, and those behind it
abbrev pub records_behind : (List ℕ → List Record) → Option (Record × List ℕ) → List Record
records_behind rest None = []
records_behind rest (Some x) = x.0 ∷ rest x.1

-- the records at the front, up to so many
unfoldable pub records_in : ℕ → List ℕ → List Record
records_in zero bytes = []
records_in (suc n) bytes = records_behind (records_in n) (record_at bytes)
