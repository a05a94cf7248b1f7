-- The words of a line that stand behind a blank, if there is one, and the numbers that they are.
use Rattle.std.specs.Prelude.{List, Option, Some, length, ℕ, ◌<◌, ◌≡◌}
use denote.Ref.{Bor}
use Rattle.ol_words.specs.Words.{pieces_behind}

-- the words of a line behind a blank
abbrev pub words_behind : Option (Bor (List ℕ)) → List (List ℕ)
words_behind rest = pieces_behind 32 rest

-- no numbers, or more than all spaces have chunks
abbrev pub IsNoneOrMany : Option (List ℕ) → Type 0
IsNoneOrMany given = (numbers : List ℕ) → given ≡ Some numbers → 31 < length numbers
