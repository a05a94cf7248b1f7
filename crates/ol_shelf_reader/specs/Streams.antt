-- The blocks of a drive as a reader gives them, one after the other.
use Rattle.std.specs.Prelude.{ℕ, ◌+◌, ◌-◌, List, [], ◌∷◌, ◌++◌, drop, map}
use Rattle.std.specs.List.{range_with_len}
use Rattle.std.proofs.Common.{get_or}

-- where a reader stands: its drive, and the volume and the block that it looks at next, counted from 1 and from 0
pub record Position : Type 0 where
  pub drive : ℕ
  pub volume : ℕ
  pub block : ℕ

-- where a reader of a drive begins
abbrev pub first_of : ℕ → Position
first_of drive = record { drive = drive; volume = 1; block = 0 }

-- the volume and the block that a reader gave last; before the first they are 1 and 0
abbrev pub given_last : Position → ℕ × ℕ
given_last at = (at.volume, at.block - 1)

-- the places of a volume of so many blocks, from a block on
abbrev pub places_in : ℕ → ℕ → ℕ → List (ℕ × ℕ)
places_in volume block count = map (λ b. (volume, b)) (range_with_len block (count - block))

-- the places of volumes of so many blocks, of which the first has a number, and is told from a block on
abbrev pub places_from : ℕ → ℕ → List ℕ → List (ℕ × ℕ)
places_from volume block [] = []
places_from volume block (count ∷ counts) = places_in volume block count ++ places_from (volume + 1) 0 counts

-- the places of a drive's blocks, as volume and block, in order
abbrev pub places_of : List (List ℕ) → ℕ → List (ℕ × ℕ)
places_of shape drive = places_from 1 0 (get_or shape drive [])

-- the places that a reader has still to give
abbrev pub places_left : List (List ℕ) → Position → List (ℕ × ℕ)
places_left shape at = places_from at.volume at.block (drop (at.volume - 1) (get_or shape at.drive []))
