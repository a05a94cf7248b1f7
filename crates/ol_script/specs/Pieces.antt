-- A text in pieces: lines round line feeds, words round blanks.
use Rattle.std.specs.List.{slice_split}
use Rattle.std.specs.Prelude.{List, None, Option, Some, [], length, ℕ, ◌+◌, ◌==◌, ◌∷◌}
use denote.Ref.{Bor}

-- the pieces of a text round a byte that parts them, one more than the text has of that byte
abbrev pub pieces_of : ℕ → List ℕ → List (List ℕ)
pieces_of mark text = slice_split (λ b. b == mark) text

-- how many bytes are behind a piece, the byte that parts them counted
abbrev pub count_behind : Option (Bor (List ℕ)) → ℕ
count_behind None = 0
count_behind (Some text) = 1 + length text.now

-- the first piece, and those behind it
abbrev pub first_piece : List (List ℕ) → Option (List ℕ × List (List ℕ))
first_piece [] = None
first_piece (piece ∷ pieces) = Some (piece, pieces)

-- the only piece
abbrev pub one_of : List (List ℕ) → Option (List ℕ)
one_of (piece ∷ []) = Some piece
one_of _ = None

-- both of two pieces
abbrev pub two_of : List (List ℕ) → Option (List ℕ × List ℕ)
two_of (a ∷ b ∷ []) = Some (a, b)
two_of _ = None

-- all of three pieces
abbrev pub three_of : List (List ℕ) → Option (List ℕ × List ℕ × List ℕ)
three_of (a ∷ b ∷ c ∷ []) = Some (a, b, c)
three_of _ = None
