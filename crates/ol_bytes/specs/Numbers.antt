-- Numbers of 8 bytes each.
use Rattle.std.specs.List.{flat_map}
use Rattle.std.specs.Prelude.{List, drop, take, ℕ, ◌*◌}
use Rattle.std.specs.Int.{from_be_bytes, to_be_bytes, w64}

-- the numbers one after the other
unfoldable pub numbers_bytes : List ℕ → List ℕ
numbers_bytes numbers = flat_map (to_be_bytes w64) numbers

-- the number at an index
abbrev pub number_in : List ℕ → ℕ → ℕ
number_in bytes k = from_be_bytes w64 (take 8 (drop (8 * k) bytes))
