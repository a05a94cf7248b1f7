-- The volumes of drives and of a shelf in memory.
use Rattle.std.specs.Prelude.{ℕ, ◌-◌, ◌^◌, ◌<◌, List, [], ◌∷◌, ◌++◌, length, Some, replicate, slice_index, slice_set}
use Rattle.std.proofs.Common.{get_or}
use Rattle.ol_ports.specs.Drive.{Tape}
use Rattle.ol_ports.specs.Shelf.{volumes_at}

-- a drive of so many volumes of so many blocks each, of which none was mounted
abbrev pub fresh : ℕ → ℕ → Tape
fresh blocks volumes = record { mounted = 0; room = 0; rooms = replicate volumes blocks; volumes = Some []; synced = 0 }

-- each volume has no more blocks than a u32 counts
abbrev pub BlocksFit : List (List (List ℕ)) → Type 0
BlocksFit [] = Unit {0}
BlocksFit (v ∷ volumes) = (length v < 2 ^ 32) × BlocksFit volumes

-- the blocks of the last volume
abbrev pub last_length : List (List (List ℕ)) → ℕ
last_length [] = 0
last_length (v ∷ []) = length v
last_length (v ∷ w ∷ volumes) = last_length (w ∷ volumes)

-- these volumes behind those of the drive
abbrev pub with_volumes : List (List (List (List ℕ))) → ℕ → List (List (List ℕ)) → List (List (List (List ℕ)))
with_volumes tapes drive volumes = slice_set tapes drive (volumes_at tapes drive ++ volumes)

-- all bits of one byte are turned
abbrev pub flipped : List ℕ → ℕ → List ℕ
flipped bytes byte = slice_set bytes byte (255 - slice_index bytes byte)

-- and so in one volume, counted from 0
abbrev pub flipped_in : List (List (List ℕ)) → ℕ → ℕ → ℕ → List (List (List ℕ))
flipped_in volumes volume block byte =
    let blocks = get_or volumes volume [] in slice_set volumes volume (slice_set blocks block (flipped (get_or blocks block []) byte))

-- and on the shelf, where volumes are counted from 1
abbrev pub with_flip : List (List (List (List ℕ))) → ℕ → ℕ → ℕ → ℕ → List (List (List (List ℕ)))
with_flip tapes drive volume block byte = slice_set tapes drive (flipped_in (volumes_at tapes drive) (volume - 1) block byte)

-- no drive has more volumes than a u32 counts
abbrev pub VolumesFit : List (List (List (List ℕ))) → Type 0
VolumesFit [] = Unit {0}
VolumesFit (volumes ∷ tapes) = (length volumes < 2 ^ 32) × VolumesFit tapes
