-- What a shelf shows of the tapes that its drives wrote.
use Rattle.std.specs.Prelude.{ℕ, ◌-◌, ◌<◌, ◌≤◌, List, [], length, map, slice_index}
use Rattle.std.proofs.Common.{get_or}

-- how many volumes a drive has, where of each volume the number of its blocks is given
abbrev pub volume_count : List (List ℕ) → ℕ → ℕ
volume_count shape drive = length (get_or shape drive [])

-- how many blocks a volume has; volumes are counted from 1
abbrev pub block_count : List (List ℕ) → ℕ → ℕ → ℕ
block_count shape drive volume = slice_index (get_or shape drive []) (volume - 1)

-- the volume is there
abbrev pub HasVolume : List (List ℕ) → ℕ → ℕ → Type 0
HasVolume shape drive volume = (0 < volume) × (volume ≤ volume_count shape drive)

-- the block is there; blocks are counted from 0
abbrev pub HasBlock : List (List ℕ) → ℕ → ℕ → ℕ → Type 0
HasBlock shape drive volume block = HasVolume shape drive volume × (block < block_count shape drive volume)

-- how many blocks each volume of each drive has
abbrev pub shape_of : List (List (List (List ℕ))) → List (List ℕ)
shape_of tapes = map (λ volumes. map (λ volume. length volume) volumes) tapes

-- the volumes of a drive
abbrev pub volumes_at : List (List (List (List ℕ))) → ℕ → List (List (List ℕ))
volumes_at tapes drive = get_or tapes drive []

-- the blocks of a volume, which is counted from 1
abbrev pub blocks_at : List (List (List (List ℕ))) → ℕ → ℕ → List (List ℕ)
blocks_at tapes drive volume = get_or (volumes_at tapes drive) (volume - 1) []

-- the bytes of a block
abbrev pub block_at : List (List (List (List ℕ))) → ℕ → ℕ → ℕ → List ℕ
block_at tapes drive volume block = get_or (blocks_at tapes drive volume) block []
