-- What contracts see of a history that grows.
use Rattle.std.specs.Prelude.{List, ℕ}
use Rattle.ol_values.specs.declared.history.Entry.{Entry}

-- its entries, and how many there is room for
pub record Noted : Type 0 where
  pub entries : List Entry
  pub spare : ℕ
