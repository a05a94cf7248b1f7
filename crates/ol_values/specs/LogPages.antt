-- Log pages as values, and how many bytes the records in them take.
use Rattle.std.specs.Prelude.{List, None, Option, Some, drop, length, sum_by, take, ℕ, ◌+◌, ◌-◌}
use Rattle.ol_values.specs.declared.record.Record.{Record}
use Rattle.ol_values.specs.declared.record.Record.TheVariants.{Begin as BeginRecord, Change, Commit as CommitRecord, Rolled, Undo}
use Rattle.ol_values.specs.declared.row.Row.{Row}

-- a log page: its place in its file from 0, the unique number of the file's use, the incarnation, the position of its first record, and its records in order
pub record LogPage : Type 0 where
  pub index : ℕ
  pub uniq : ℕ
  pub incarnation : ℕ
  pub first : ℕ
  pub records : List Record

-- the position of its last record
abbrev pub last_in : LogPage → ℕ
last_in p = p.first + length p.records - 1

-- the bytes that nothing or a row takes: its length is told by one byte
abbrev pub value_length : Option Row → ℕ
value_length None = 1
value_length (Some row) = 1 + length row

-- the bytes of a record
abbrev pub record_length : Record → ℕ
record_length (BeginRecord txn) = 9
record_length (Change txn rid before after) = 13 + value_length before + value_length after
record_length (Undo txn rid value) = 13 + value_length value
record_length (CommitRecord txn) = 9
record_length (Rolled txn) = 9

-- the bytes of records, one after the other
abbrev pub records_length : List Record → ℕ
records_length records = sum_by record_length records

-- the bytes that a log page has for records
abbrev pub log_room : ℕ
log_room = 2012

-- so many records from a position on, of which the first has this position
abbrev pub records_at : ℕ → List Record → ℕ → ℕ → List Record
records_at first records position count = take count (drop (position - first) records)
