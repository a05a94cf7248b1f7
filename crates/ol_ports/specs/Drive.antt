-- What the calls of a tape drive do to its volumes.
use Rattle.std.specs.Prelude.{ℕ, ◌+◌, ◌-◌, ◌<◌, ◌≡◌, ◌⊎◌, List, [], ◌∷◌, ◌++◌, length, Option, Result, Ok, Err, unwrap_or, sum}
use Rattle.std.specs.Option.{option_map}
use Rattle.std.specs.List.{flat_map}
use Rattle.ol_ports.specs.declared.stream.Failed.{Failed}
use Rattle.ol_ports.specs.declared.drive.Mounted.{Mounted}
use Rattle.ol_ports.specs.declared.drive.Mounted.TheVariants.{Volume, NoMore, Failed as MountFailed}
use Rattle.ol_ports.specs.declared.drive.Wrote.{Wrote}
use Rattle.ol_ports.specs.declared.drive.Wrote.TheVariants.{Done, EndOfVolume, Failed as WriteFailed}

pub record Tape : Type 0 where
  -- how many volumes were mounted
  pub mounted : ℕ
  -- how many blocks the mounted volume still takes, 0 where none is mounted
  pub room : ℕ
  -- the rooms of the volumes that are left, in order
  pub rooms : List ℕ
  -- the blocks of each volume that was mounted, where the drive tells
  pub volumes : Option (List (List (List ℕ)))
  -- how many of these blocks are durable, counted over the volumes in order
  pub synced : ℕ

-- the blocks of all volumes, laid end to end
abbrev pub blocks_in_order : List (List (List ℕ)) → List (List ℕ)
blocks_in_order volumes = flat_map (λ v. v) volumes

-- the drive's stream of blocks, where it tells
abbrev pub stream_of : Tape → Option (List (List ℕ))
stream_of t = option_map blocks_in_order t.volumes

-- how many blocks the drive still takes
abbrev pub capacity : Tape → ℕ
capacity t = t.room + sum t.rooms

-- a block more on the last volume
abbrev pub append_last : List (List (List ℕ)) → List ℕ → List (List (List ℕ))
append_last [] block = (block ∷ []) ∷ []
append_last (v ∷ []) block = (v ++ block ∷ []) ∷ []
append_last (v ∷ w ∷ volumes) block = v ∷ append_last (w ∷ volumes) block

abbrev pub first_room : List ℕ → ℕ
first_room [] = 0
first_room (r ∷ rooms) = r

abbrev pub later_rooms : List ℕ → List ℕ
later_rooms [] = []
later_rooms (r ∷ rooms) = rooms

-- the next volume is mounted, and empty
abbrev pub with_next_volume : Tape → Tape
with_next_volume t = record t {
  mounted = t.mounted + 1;
  room = first_room t.rooms;
  rooms = later_rooms t.rooms;
  volumes = option_map (λ v. v ++ [] ∷ []) t.volumes;
}

-- the next volume is taken away, and none is mounted
abbrev pub without_volume : Tape → Tape
without_volume t = record t { room = 0; rooms = later_rooms t.rooms }

-- a block stands at the end
abbrev pub with_block : List ℕ → Tape → Tape
with_block block t = record t { room = t.room - 1; volumes = option_map (λ v. append_last v block) t.volumes }

-- the mounted volume takes no more
abbrev pub without_room : Tape → Tape
without_room t = record t { room = 0 }

-- all blocks are durable
abbrev pub all_synced : Tape → Tape
all_synced t = record t { synced = unwrap_or (option_map (λ v. length (blocks_in_order v)) t.volumes) t.synced }

-- what a mount leaves
abbrev pub Mounts : Tape → Mounted → Tape → Type 0
Mounts old (Volume n) new = (0 < length old.rooms) × (n ≡ old.mounted + 1) × (new ≡ with_next_volume old)
Mounts old NoMore new = (old.rooms ≡ []) × (new ≡ old)
Mounts old MountFailed new = (0 < length old.rooms) × (new ≡ without_volume old)

-- what a write leaves: on failure nothing or the whole block
abbrev pub Writes : Tape → List ℕ → Wrote → Tape → Type 0
Writes old block Done new = (0 < old.room) × (new ≡ with_block block old)
Writes old block EndOfVolume new = (old.room ≡ 0) × (new ≡ old)
Writes old block WriteFailed new = (0 < old.room) × ((new ≡ without_room old) ⊎ (new ≡ without_room (with_block block old)))

-- what a sync leaves
abbrev pub Syncs : Tape → Result Unit Failed → Tape → Type 0
Syncs old (Ok u) new = new ≡ all_synced old
Syncs old (Err e) new = new ≡ without_room old
