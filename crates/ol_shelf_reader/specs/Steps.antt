-- One step of a reader.
use Rattle.std.specs.Prelude.{ℕ, ◌≡◌, ◌+◌, List, [], ◌∷◌, Bool, None, Option, Some, false, true}
use Rattle.ol_ports.specs.Shelf.{HasBlock}
use Rattle.ol_shelf_reader.specs.Streams.{Position, given_last, places_left}

-- where a reader stands that has just given a place
abbrev pub behind : Position → ℕ × ℕ → Position
behind at p = record at { volume = p.0; block = p.1 + 1 }

-- what a reader gives next: nothing where no place is left, else the place of a block, which the others follow
abbrev pub IsNext : List (List ℕ) → Position → Option (ℕ × ℕ) → Type 0
IsNext shape at None = places_left shape at ≡ []
IsNext shape at (Some p) = HasBlock shape at.drive p.0 p.1 × (places_left shape at ≡ p ∷ places_left shape (behind at p))

-- a reader gave the first of the places that were left, or it stays, at the end of all places
abbrev pub Steps : List (List ℕ) → Position → Position → Bool → Type 0
Steps shape old new true = places_left shape old ≡ given_last new ∷ places_left shape new
Steps shape old new false = (places_left shape old ≡ []) × (new ≡ old)
