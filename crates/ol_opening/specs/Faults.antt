-- Why a disk is not opened.
use Rattle.std.specs.Prelude.{Err, IsErrOf, Result, true, ℕ, ◌≡◌, ◌≤◌, ◌⊎◌}
use Rattle.ol_values.specs.Config.{Config}
use Rattle.ol_anchor_opening.specs.Opening.{EndsRead, IsNewestRead, IsOnline}
use Rattle.ol_anchor_opening.specs.declared.anchor.AnchorFault.{AnchorFault}
use Rattle.ol_anchor_opening.specs.declared.anchor.AnchorFault.TheVariants.{BadDisk as BadPair, Blank as BlankPair, DiskFault as PairFault, Restoring as BeingRestored, TooSmall as SmallChunk}
use Rattle.ol_format.specs.First.{IsFirstSmall}
use Rattle.ol_log_opening.specs.declared.log.LogOpenFault.{LogOpenFault}
use Rattle.ol_log_opening.specs.declared.log.LogOpenFault.TheVariants.{BadDisk as BadLog, DiskFault as LogFault, NoMemory as LogMemory}
use Rattle.ol_log_places.specs.Places.{in_log}
use Rattle.ol_page_opening.specs.Opening.{IsBad}
use Rattle.ol_page_opening.specs.declared.pages.PageOpenFault.{PageOpenFault}
use Rattle.ol_page_opening.specs.declared.pages.PageOpenFault.TheVariants.{BadDisk as BadPages, DiskFault as PagesFault, Failed as PagesFailed, NoMemory as PagesMemory}
use Rattle.ol_ports.specs.Causes.{HasFailed}
use Rattle.ol_ports.specs.Disk.{Bytes}
use Rattle.ol_reserve.specs.Pair.{there}
use Rattle.ol_reserve.specs.declared.anchor.Anchor.{Anchor}
use Rattle.ol_opening.specs.declared.fault.NotReady.TheVariants.{Blank, Restoring}
use Rattle.ol_opening.specs.declared.fault.OpenFault.{OpenFault}
use Rattle.ol_opening.specs.declared.fault.OpenFault.TheVariants.{BadDisk, DiskFault, Failed, NoMemory, NotReady, TooSmall}

-- ---- the faults of the parts

abbrev pub fault_of_anchor : AnchorFault → OpenFault
fault_of_anchor BlankPair = NotReady Blank
fault_of_anchor BeingRestored = NotReady Restoring
fault_of_anchor (BadPair chunk page) = BadDisk chunk page
fault_of_anchor (PairFault chunk) = DiskFault chunk
fault_of_anchor (SmallChunk chunk) = TooSmall chunk

abbrev pub fault_of_log : LogOpenFault → OpenFault
fault_of_log (BadLog chunk page) = BadDisk chunk page
fault_of_log (LogFault chunk) = DiskFault chunk
fault_of_log LogMemory = NoMemory

abbrev pub fault_of_pages : PageOpenFault → OpenFault
fault_of_pages (BadPages chunk page) = BadDisk chunk page
fault_of_pages (PagesFault chunk) = DiskFault chunk
fault_of_pages PagesFailed = Failed
fault_of_pages PagesMemory = NoMemory

-- ---- why

-- an anchor with incarnation 0 or unique number 0, which no installation writes
abbrev pub IsUnnumbered : Anchor → Type 0
IsUnnumbered a = (a.incarnation ≡ 0) ⊎ (a.uniq ≡ 0)

-- a page is refused by what was read of this anchor, the newest, and its configuration: page 0 for an anchor without numbers, a page of the log, or one of the physical log
pub record IsBadBehind (sizes : ℕ → ℕ) (d : Bytes) (chunk page : ℕ) : Type 0 where
  pub anchor : Anchor
  pub config : Config
  pub newest : IsNewestRead (there sizes d) d anchor
  pub online : IsOnline sizes anchor config
  pub bad : ((chunk ≡ 0) × (page ≡ 0) × IsUnnumbered anchor) ⊎ (in_log config chunk page ≡ true) ⊎ IsBad config anchor.generation d chunk page

-- why a disk of these sizes and bytes is not opened
abbrev pub IsRefusedFor : (ℕ → ℕ) → Bytes → OpenFault → Type 0
IsRefusedFor sizes d (NotReady Blank) = EndsRead (there sizes d) sizes (Err BlankPair)
IsRefusedFor sizes d (NotReady Restoring) = EndsRead (there sizes d) sizes (Err BeingRestored)
IsRefusedFor sizes d (TooSmall chunk) = EndsRead (there sizes d) sizes (Err (SmallChunk chunk))
IsRefusedFor sizes d (BadDisk chunk page) = ((chunk ≡ 0) × EndsRead (there sizes d) sizes (Err (BadPair chunk page))) ⊎ IsBadBehind sizes d chunk page
IsRefusedFor sizes d _ = Unit {0}

-- what is known of a fault also where the disk does not tell its bytes: a chunk that is too small is the first smaller than some configuration says
abbrev pub IsFaultOf : (ℕ → ℕ) → OpenFault → Type 0
IsFaultOf sizes (TooSmall chunk) = (c : Config) × IsFirstSmall sizes c chunk
IsFaultOf sizes _ = Unit {0}

-- what may refuse a disk that stands for a journal: a fault, want of memory, or a page of the log
abbrev pub MayRefuse : Config → OpenFault → Type 0
MayRefuse c (BadDisk chunk page) = in_log c chunk page ≡ true
MayRefuse c (NotReady state) = ⊥
MayRefuse c (TooSmall chunk) = ⊥
MayRefuse c _ = Unit {0}

-- counts of faults never fall; a failed read has raised that of its chunk alone, another failed call that of one chunk, and no other answer changes any
pub record HasOpenCause {T : Type 0} (before now : ℕ → ℕ) (result : Result T OpenFault) : Type 0 where
  pub later : (chunk : ℕ) → before chunk ≤ now chunk
  pub fault : (chunk : ℕ) → IsErrOf result (DiskFault chunk) → HasFailed chunk before now
  pub failed : IsErrOf result Failed → (chunk : ℕ) × HasFailed chunk before now
  pub kept : ((chunk : ℕ) → IsErrOf result (DiskFault chunk) → ⊥) → (IsErrOf result Failed → ⊥) → now ≡ before
