-- What a writer of a tape did to its drive.
use Rattle.std.specs.Prelude.{ℕ, ◌+◌, ◌<◌, ◌≡◌, ◌⊎◌, List, [], ◌∷◌, ◌++◌, Option}
use Rattle.std.specs.Option.{option_map}
use Rattle.ol_ports.specs.Causes.{Rose}
use Rattle.ol_ports.specs.Drive.{Tape, capacity, without_room, stream_of}
use Rattle.ol_volume.specs.declared.writer.TapeEnd.{TapeEnd}
use Rattle.ol_volume.specs.declared.writer.TapeEnd.TheVariants.{TapeFault, OutOfTape}

-- what contracts see of a writer
pub record Written : Type 0 where
  pub tape : Tape
  pub faults : ℕ
  pub number : ℕ

-- the stream with a block more
abbrev pub and_block : Option (List (List ℕ)) → List ℕ → Option (List (List ℕ))
and_block stream block = option_map (λ blocks. blocks ++ block ∷ []) stream

-- a block was put: it stands at the end of the stream, on a new volume where the mounted one takes no more, and the drive takes one less
pub record Puts (old : Written) (block : List ℕ) (new : Written) : Type 0 where
  pub fresh : old.tape.room ≡ 0 → old.tape.mounted < new.tape.mounted
  pub stream : stream_of new.tape ≡ and_block (stream_of old.tape) block
  pub synced : new.tape.synced ≡ old.tape.synced
  pub room : capacity new.tape + 1 ≡ capacity old.tape
  pub faults : new.faults ≡ old.faults
  pub number : new.number ≡ old.number

-- the drive had no room, and the stream stays
pub record IsOutOfTape (old new : Written) (drive : ℕ) : Type 0 where
  pub drive_is : drive ≡ old.number
  pub full : capacity old.tape ≡ 0
  pub room : new.tape.room ≡ 0
  pub rooms : new.tape.rooms ≡ []
  pub stream : stream_of new.tape ≡ stream_of old.tape
  pub synced : new.tape.synced ≡ old.tape.synced
  pub faults : new.faults ≡ old.faults
  pub number : new.number ≡ old.number

-- a call failed, and the mounted volume takes no more; the block stands at the end of the stream or not at all
pub record IsTapeFault (old : Written) (block : List ℕ) (new : Written) (drive count : ℕ) : Type 0 where
  pub drive_is : drive ≡ old.number
  pub count_is : count ≡ new.faults
  pub cause : Rose old.faults new.faults
  pub room : new.tape.room ≡ 0
  pub stream : (stream_of new.tape ≡ stream_of old.tape) ⊎ (stream_of new.tape ≡ and_block (stream_of old.tape) block)
  pub synced : new.tape.synced ≡ old.tape.synced
  pub number : new.number ≡ old.number

-- what a put that was refused leaves
abbrev pub EndsPut : Written → List ℕ → Written → TapeEnd → Type 0
EndsPut old block new (TapeFault drive count) = IsTapeFault old block new drive count
EndsPut old block new (OutOfTape drive) = IsOutOfTape old new drive

-- what a finish that was refused leaves
abbrev pub EndsFinish : Written → Written → TapeEnd → Type 0
EndsFinish old new (TapeFault drive count) =
    (drive ≡ old.number) × (count ≡ new.faults) × Rose old.faults new.faults × (new.tape ≡ without_room old.tape) × (new.number ≡ old.number)
EndsFinish old new (OutOfTape drive) = ⊥
