-- What the opening of a disk gives a command.
use Rattle.std.specs.Prelude.{Err, Ok, Result, ℕ, ◌≡◌, ◌≢◌, ◌≤◌}
use Rattle.ol_values.specs.Config.{Config}
use Rattle.ol_anchor_opening.specs.Opening.{IsRead}
use Rattle.ol_anchor_opening.specs.declared.anchor.AnchorFault.{AnchorFault}
use Rattle.ol_anchor_opening.specs.declared.anchor.AnchorFault.TheVariants.{BadDisk as Damaged, Blank as BlankPair, DiskFault as Fault, Restoring as BeingRestored, TooSmall as Small}
use Rattle.ol_ports.specs.Causes.{HasFailed}
use Rattle.ol_ports.specs.Disk.{Bytes}
use Rattle.ol_reserve.specs.declared.anchor.Anchor.{Anchor}
use Rattle.ol_online.specs.declared.status.NotReady.TheVariants.{Blank, Restoring}
use Rattle.ol_online.specs.declared.status.Status.{Status}
use Rattle.ol_online.specs.declared.status.Status.TheVariants.{BadDisk, DiskFault, NotReady, TooSmall}

-- the status of a disk that is not opened
abbrev pub status_of_anchor : AnchorFault → Status
status_of_anchor BlankPair = NotReady Blank
status_of_anchor BeingRestored = NotReady Restoring
status_of_anchor (Damaged chunk page) = BadDisk chunk page
status_of_anchor (Fault chunk) = DiskFault chunk
status_of_anchor (Small chunk) = TooSmall chunk

-- the configuration of what was read, or the status of why nothing was
abbrev pub opened_of : Result (Anchor × Config) AnchorFault → Result Config Status
opened_of (Ok r) = Ok r.1
opened_of (Err fault) = Err (status_of_anchor fault)

-- how the opening of a disk ended: as the reading of its newest anchor did
pub record IsOpening (tells : Type 0) (d : Bytes) (sizes : ℕ → ℕ) (result : Result Config Status) : Type 0 where
  pub read : Result (Anchor × Config) AnchorFault
  pub answer : result ≡ opened_of read
  pub ended : IsRead tells d sizes read

-- the counts of faults never fall, a fault of the disk raises that of its chunk alone, and with no other status any is changed
pub record HasStatusCause (before now : ℕ → ℕ) (status : Status) : Type 0 where
  pub later : (c : ℕ) → before c ≤ now c
  pub fault : (chunk : ℕ) → status ≡ DiskFault chunk → HasFailed chunk before now
  pub kept : ((chunk : ℕ) → status ≢ DiskFault chunk) → now ≡ before

-- the same of a call that may be refused
abbrev pub HasDiskCause : {T : Type 0} → (ℕ → ℕ) → (ℕ → ℕ) → Result T Status → Type 0
HasDiskCause before now (Ok x) = now ≡ before
HasDiskCause before now (Err status) = HasStatusCause before now status
