-- What the reading of a disk's newest anchor gives.
use Rattle.std.specs.Prelude.{Err, IsErrOf, None, Ok, Result, Some, true, ℕ, ◌<◌, ◌≡◌, ◌≤◌}
use Rattle.ol_values.specs.Config.{Config, config_text}
use Rattle.ol_ports.specs.Causes.{HasFailed}
use Rattle.ol_ports.specs.Disk.{Bytes}
use Rattle.ol_chunks.specs.Limits.{IsConfig}
use Rattle.ol_chunks.specs.Reading.{config_in_text}
use Rattle.ol_reserve.specs.Anchor.{IsAnchor, is_low}
use Rattle.ol_reserve.specs.Pair.{AreLow, IsDamaged, IsSpoilt, Newest}
use Rattle.ol_reserve.specs.declared.anchor.Anchor.{Anchor}
use Rattle.ol_reserve.specs.declared.pair.ReserveFault.{ReserveFault}
use Rattle.ol_reserve.specs.declared.pair.ReserveFault.TheVariants.{BadDisk as Damaged, Blank as BlankPair, DiskFault as Fault}
use Rattle.ol_format.specs.First.{AreLarge, IsFirstSmall, chunks_of}
use Rattle.ol_anchor_opening.specs.declared.anchor.AnchorFault.{AnchorFault}
use Rattle.ol_anchor_opening.specs.declared.anchor.AnchorFault.TheVariants.{BadDisk, Blank, DiskFault, Restoring, TooSmall}

-- an anchor is of an installation on line with this configuration, whose chunks the disk has
abbrev pub IsOpenable : (ℕ → ℕ) → Anchor → Config → Type 0
IsOpenable sizes a c = (a.state ≡ 1) × (config_in_text a.text ≡ Ok c) × AreLarge sizes c (chunks_of c)

-- what is opened of an anchor: it with its configuration, where it is on line and the disk has the chunks
abbrev pub OpensOf : (ℕ → ℕ) → Anchor → Result (Anchor × Config) AnchorFault → Type 0
OpensOf sizes a (Ok r) = (r.0 ≡ a) × IsOpenable sizes a r.1
OpensOf sizes a (Err (TooSmall chunk)) = (c : Config) × (a.state ≡ 1) × (config_in_text a.text ≡ Ok c) × IsFirstSmall sizes c chunk
OpensOf sizes a (Err Restoring) = a.state ≡ 2
OpensOf sizes a _ = ⊥

-- what the reading of a disk of these bytes and sizes gives: what its newest anchor says, or why there is none; of two damaged pages the first is named
abbrev pub EndsRead : Bytes → (ℕ → ℕ) → Result (Anchor × Config) AnchorFault → Type 0
EndsRead d sizes (Err Blank) = Newest d None
EndsRead d sizes (Err (BadDisk chunk page)) = IsDamaged d page × (page ≡ 1 → IsSpoilt d 0 → ⊥)
EndsRead d sizes (Err (DiskFault chunk)) = Unit {0}
EndsRead d sizes result = (a : Anchor) × Newest d (Some a) × AreLow d × OpensOf sizes a result

-- what the reading of a disk with this newest anchor gives: what it says, unless a fault of chunk 0 comes
abbrev pub IsReadOf : (ℕ → ℕ) → Anchor → Result (Anchor × Config) AnchorFault → Type 0
IsReadOf sizes a (Err (DiskFault chunk)) = chunk ≡ 0
IsReadOf sizes a result = OpensOf sizes a result

-- an anchor that an opening takes, of an installation on line, its configuration, and a disk that has the chunks
pub record IsOnline (sizes : ℕ → ℕ) (a : Anchor) (c : Config) : Type 0 where
  pub anchor : IsAnchor a
  pub low : is_low a ≡ true
  pub state : a.state ≡ 1
  pub read : config_in_text a.text ≡ Ok c
  pub text : a.text ≡ config_text c
  pub config : IsConfig c
  pub large : AreLarge sizes c (chunks_of c)
  -- the disk has the anchor pair
  pub pair : 2 ≤ sizes 0

-- what a reading may end with, also where the disk does not tell its bytes
abbrev pub ReadsTo : (ℕ → ℕ) → Result (Anchor × Config) AnchorFault → Type 0
ReadsTo sizes (Ok r) = IsOnline sizes r.0 r.1
ReadsTo sizes (Err Blank) = Unit {0}
ReadsTo sizes (Err Restoring) = Unit {0}
ReadsTo sizes (Err (BadDisk chunk page)) = (chunk ≡ 0) × (page < 2)
ReadsTo sizes (Err (DiskFault chunk)) = chunk ≡ 0
ReadsTo sizes (Err (TooSmall chunk)) = (c : Config) × IsFirstSmall sizes c chunk

-- how the reading of a disk ended: with what; where the disk tells, why, and that it is what the newest anchor says, whichever is named, where an opening takes the anchors of the pair
pub record IsRead (tells : Type 0) (d : Bytes) (sizes : ℕ → ℕ) (result : Result (Anchor × Config) AnchorFault) : Type 0 where
  pub ends : ReadsTo sizes result
  pub why : tells → EndsRead d sizes result
  pub only : tells → AreLow d → (a : Anchor) → Newest d (Some a) → IsReadOf sizes a result

-- an anchor that was read is the newest of the pages that the disk has, and so of all bytes; an opening takes all anchors of the pair
pub record IsNewestRead (there all : Bytes) (a : Anchor) : Type 0 where
  pub newest : Newest there (Some a)
  pub low : AreLow there
  pub whole : Newest all (Some a)

-- the counts of faults never fall, a fault raises that of chunk 0, and no other answer changes any
pub record HasAnchorCause {T : Type 0} (before now : ℕ → ℕ) (result : Result T AnchorFault) : Type 0 where
  pub later : (c : ℕ) → before c ≤ now c
  pub fault : (chunk : ℕ) → IsErrOf result (DiskFault chunk) → (chunk ≡ 0) × HasFailed chunk before now
  pub kept : ((chunk : ℕ) → IsErrOf result (DiskFault chunk) → ⊥) → now ≡ before

-- ---- on the way

-- the fault of a pair that gives no anchor
abbrev pub fault_of_reserve : ReserveFault → AnchorFault
fault_of_reserve BlankPair = Blank
fault_of_reserve (Damaged chunk page) = BadDisk chunk page
fault_of_reserve (Fault chunk) = DiskFault chunk
