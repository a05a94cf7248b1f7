-- What contracts see of the devices in memory.
use Rattle.std.specs.Prelude.{ℕ, ◌-◌, ◌^◌, ◌≤◌, ◌≡◌, ◌⊎◌, min, List, [], length, Result, Ok, Err, true, false, replicate, slice_index}
use Rattle.ol_ports.specs.declared.drive.Mounted.{Mounted}
use Rattle.ol_ports.specs.declared.drive.Mounted.TheVariants.{Volume, NoMore, Failed as MountFailed}
use Rattle.ol_ports.specs.declared.drive.Wrote.{Wrote}
use Rattle.ol_ports.specs.declared.drive.Wrote.TheVariants.{Done, EndOfVolume, Failed as WriteFailed}
use Rattle.ol_ports.specs.Disk.{Past, Passed, Wrote as DiskWrote, moments, with_call}
use Rattle.ol_ports.specs.Drive.{Tape}
use Rattle.ol_outside.specs.Faults.{FaultState, CountsCall, after_call, after_refusal, next_fails, no_calls}

pub record SourceState : Type 0 where
  -- the bytes that are left
  pub left : List ℕ
  -- how many bytes a read gives at most
  pub piece : ℕ
  pub faults : FaultState

-- how many bytes a read gives into a buffer of so many
abbrev pub read_length : SourceState → ℕ → ℕ
read_length s room = min room (min s.piece (length s.left))

pub record SinkState : Type 0 where
  -- the bytes that it took
  pub bytes : List ℕ
  pub faults : FaultState

pub record DriveState : Type 0 where
  pub tape : Tape
  pub faults : FaultState

-- a mount that finds no volume is not among the calls that may fail
abbrev pub CountsMount : FaultState → Mounted → FaultState → Type 0
CountsMount old (Volume n) new = CountsCall old false new
CountsMount old NoMore new = new ≡ old
CountsMount old MountFailed new = CountsCall old true new

-- a write that finds no room is not among the calls that may fail
abbrev pub CountsWrite : FaultState → Wrote → FaultState → Type 0
CountsWrite old Done new = CountsCall old false new
CountsWrite old EndOfVolume new = new ≡ old
CountsWrite old WriteFailed new = CountsCall old true new

pub record DiskState : Type 0 where
  -- what it began with, and its calls
  pub past : Past
  -- the pages of each chunk
  pub sizes : List ℕ
  -- how often each chunk has failed
  pub counts : List ℕ
  pub faults : FaultState

-- the pages of a chunk, which are a u32
abbrev pub disk_pages : DiskState → ℕ → ℕ
disk_pages s c = min (slice_index s.sizes c) (2 ^ 32 - 1)

-- how often a chunk has failed
abbrev pub chunk_faults : DiskState → ℕ → ℕ
chunk_faults s c = slice_index s.counts c

-- the number of the last call, which stands still at the greatest u64
abbrev pub last_moment : DiskState → ℕ
last_moment s = min (moments s.past) (2 ^ 64 - 1)

-- a disk that begins with these bytes, without a fault
abbrev pub fresh_disk : List (List ℕ) → List ℕ → List ℕ → DiskState
fresh_disk base sizes failing = record {
  past = record { base = base; calls = [] };
  sizes = sizes;
  counts = replicate (length sizes) 0;
  faults = no_calls failing;
}

-- a call that left nothing; it has no number where more than a u64 counts have left nothing
abbrev pub LeavesNothing : Past → Past → Type 0
LeavesNothing old new = (new ≡ with_call old Passed) ⊎ ((2 ^ 64 - 1 ≤ moments old) × (new ≡ old))

-- how a write ends: done; or listed, and done all the same; or refused memory, which leaves nothing and is counted
abbrev pub EndsWrite : {E : Type 0} → DiskState → DiskState → ℕ → ℕ → ℕ → List ℕ → Result Unit E → Type 0
EndsWrite old new chunk page offset bytes (Ok u) =
    (next_fails old.faults ≡ false) × (new.past ≡ with_call old.past (DiskWrote chunk page offset bytes)) × (new.faults ≡ after_call false old.faults)
EndsWrite old new chunk page offset bytes (Err e) =
    ((next_fails old.faults ≡ true) × (new.past ≡ with_call old.past (DiskWrote chunk page offset bytes)) × (new.faults ≡ after_call true old.faults))
    ⊎ (LeavesNothing old.past new.past × (new.faults ≡ after_refusal (after_call (next_fails old.faults) old.faults)))

-- what contracts see of a shelf in memory
pub record ShelfState : Type 0 where
  -- of each drive its volumes, each the list of its blocks
  pub tapes : List (List (List (List ℕ)))
  pub faults : FaultState
