-- The pieces of a text between separators, and numbers in decimal.
use Rattle.std.specs.Char.{is_ascii_digit}
use Rattle.std.specs.List.{list_all, slice_split}
use Rattle.std.specs.Str.Parse.{digits_value}
use Rattle.std.specs.Prelude.{Bool, List, None, Option, Some, [], if◌then◌else◌, nat_le, nat_lt, slice_index, ℕ, ◌&&◌, ◌==◌, ◌∷◌}
use denote.Ref.{Bor}

-- ---- pieces

-- the pieces of a text that stand behind a separator, if there is one
abbrev pub pieces_behind : ℕ → Option (Bor (List ℕ)) → List (List ℕ)
pieces_behind separator None = []
pieces_behind separator (Some rest) = slice_split (λ b. b == separator) rest.now

-- ---- numbers

-- digits without a leading zero, of a number from 1 to a limit
abbrev pub is_number : ℕ → List ℕ → Bool
is_number most word = list_all is_ascii_digit word && (nat_lt 48 (slice_index word 0) && nat_le (digits_value 10 word) most)

-- the number that a word is in decimal
abbrev pub number_up_to : ℕ → List ℕ → Option ℕ
number_up_to most word = if is_number most word then Some (digits_value 10 word) else None

-- a number in front of numbers, where there are both
abbrev pub with_number : Option ℕ → Option (List ℕ) → Option (List ℕ)
with_number None numbers = None
with_number (Some n) None = None
with_number (Some n) (Some numbers) = Some (n ∷ numbers)

-- the numbers that words are, where each is one
abbrev pub numbers_up_to : ℕ → List (List ℕ) → Option (List ℕ)
numbers_up_to most [] = Some []
numbers_up_to most (word ∷ words) = with_number (number_up_to most word) (numbers_up_to most words)
