-- What contracts see of devices that are files.
use Rattle.std.specs.Global.{Global}
use Rattle.std.specs.Prelude.{ℕ, ◌≡◌, ◌-◌, ◌^◌, Bool, if◌then◌else◌, List, None, Option, Vec, map, min, slice_index, slice_index_or, slice_set}
use Rattle.ol_ports.specs.Causes.{risen}
use Rattle.ol_ports.specs.Drive.{Tape}

-- the pages of a chunk, which are a u32, where those of each are given
abbrev pub pages_at : List ℕ → ℕ → ℕ
pages_at sizes c = min (slice_index sizes c) (2 ^ 32 - 1)

-- how often a chunk has failed, where the count of each is given
abbrev pub faults_at : List ℕ → ℕ → ℕ
faults_at counts c = slice_index counts c

-- the chunk's file is not open, where those that are stand in this list
abbrev pub IsMissing : {X : Type 0} → List (Option X) → ℕ → Type 0
IsMissing files c = slice_index_or files c None ≡ None

-- a call on a chunk more, which is one fault more of this chunk where it failed
abbrev pub after_chunk_call : Bool → ℕ → List ℕ → List ℕ
after_chunk_call failed c counts = if failed then slice_set counts c (risen (faults_at counts c)) else counts

-- a call more, which is one fault more where it failed
abbrev pub count_after : Bool → ℕ → ℕ
count_after failed count = if failed then risen count else count

pub record FileDriveState : Type 0 where
  -- the folder that has its folder
  pub dir : List ℕ
  -- its number
  pub number : ℕ
  -- its volumes, of which it tells no block
  pub tape : Tape
  -- whether its volumes could not be counted
  pub uncounted : Bool
  -- whether a sync has failed
  pub lost : Bool
  -- how often a call has failed
  pub count : ℕ

-- the drive of the same folder and number
abbrev pub IsSameDrive : FileDriveState → FileDriveState → Type 0
IsSameDrive old new = (new.dir ≡ old.dir) × (new.number ≡ old.number) × (new.uncounted ≡ old.uncounted)

-- of each drive how many blocks each volume has
abbrev pub block_counts : List (Vec ℕ Global) → List (List ℕ)
block_counts drives = map (λ volumes. volumes.items) drives
