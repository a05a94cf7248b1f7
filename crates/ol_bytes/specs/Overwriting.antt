-- A write into the middle of a list.
use Rattle.std.specs.Prelude.{List, drop, length, take, ℕ, ◌++◌, ◌+◌}

-- the list with these bytes over those from an index on
abbrev pub overwritten : ℕ → List ℕ → List ℕ → List ℕ
overwritten at bytes all = take at all ++ (bytes ++ drop (at + length bytes) all)
