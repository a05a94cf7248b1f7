-- The spelling of a record has the record's length.
use Rattle.std.proofs.Common.{◌≡◌, List, [], ◌∷◌, ◌++◌, length, Option, Some, None, refl, ap, arith}
use Rattle.std.specs.Int.{w64, to_be_bytes}
use Rattle.std.proofs.lemmas.List.{length-append}
use Rattle.std.proofs.lemmas.List.Sums.{sum_by-cons}
use Rattle.std.proofs.lemmas.List.Concat.{flat_map-cons}
use Rattle.ol_values.specs.declared.record.Record.{Record}
use Rattle.ol_values.specs.declared.record.Record.TheVariants.{Begin, Change, Commit, Rolled, Undo}
use Rattle.ol_values.specs.declared.row.Row.{Row}
use Rattle.ol_values.specs.LogPages.{record_length, records_length, value_length}
use Rattle.ol_values.specs.Spelling.{place_bytes, record_bytes, records_bytes, value_bytes}

value_is : (value : Option Row) → length (value_bytes value) ≡ value_length value
value_is None = refl
value_is (Some row) = omega arith

pub record_is : (r : Record) → length (record_bytes r) ≡ record_length r
unfolding record_bytes
record_is (Begin txn) = omega arith
record_is (Change txn rid before after) =
    omega (arith, value_is before, value_is after, length-append ((2 ∷ to_be_bytes w64 txn) ++ place_bytes rid ++ value_bytes before) (value_bytes after), length-append ((2 ∷ to_be_bytes w64 txn) ++ place_bytes rid) (value_bytes before))
record_is (Undo txn rid value) = omega (arith, value_is value, length-append ((3 ∷ to_be_bytes w64 txn) ++ place_bytes rid) (value_bytes value))
record_is (Commit txn) = omega arith
record_is (Rolled txn) = omega arith

pub records_are : (records : List Record) → length (records_bytes records) ≡ records_length records
records_are [] = refl
records_are (r ∷ rs) =
    omega (arith, records_are rs, record_is r, ap length (flat_map-cons record_bytes r rs), length-append (record_bytes r) (records_bytes rs), sum_by-cons record_length r rs)
