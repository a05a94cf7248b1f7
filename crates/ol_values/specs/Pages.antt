-- Data pages as values.
use Rattle.std.specs.Prelude.{List, None, Option, replicate, ℕ}
use Rattle.ol_values.specs.declared.record.Rid.{Rid}
use Rattle.ol_values.specs.declared.row.Row.{Row}

-- a data page: its stamp, which is the position of the last record that changed it, and what its 31 slots hold
pub record Page : Type 0 where
  pub stamp : ℕ
  pub slots : List (Option Row)

-- a page that was never changed
abbrev pub blank : Page
blank = record { stamp = 0; slots = replicate 31 None }

abbrev pub rid_of : ℕ → ℕ → ℕ → Rid
rid_of space page slot = record { space = space; page = page; slot = slot }
