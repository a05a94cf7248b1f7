-- An archive head as the value of the parts that it is made of.
use Rattle.std.specs.Prelude.{List, map, ℕ}
use Rattle.ol_values.specs.Blocks.{ArchiveHead}
use Rattle.ol_values.specs.Blocks.{Saved}

-- a space of an archive, given as its number, its parent's number and its base
abbrev pub saved_of : ℕ × ℕ × ℕ → Saved
saved_of s = record { space = s.0; parent = s.1; base = s.2 }

-- the archive head of spaces in this order, and of a configuration's text
abbrev pub archive_head_of : List (ℕ × ℕ × ℕ) → List ℕ → ArchiveHead
archive_head_of spaces text = record { spaces = map saved_of spaces; text = text }
