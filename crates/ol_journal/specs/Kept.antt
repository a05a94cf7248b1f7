-- The kept records as a value.
use Rattle.std.specs.Prelude.{List, ℕ}
use Rattle.ol_values.specs.declared.record.Record.{Record}

-- the position of the first record, the records in order, and how many more can be pushed without memory
pub record Kept : Type 0 where
  pub first : ℕ
  pub records : List Record
  pub spare : ℕ
