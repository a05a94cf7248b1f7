-- What the reading of a page that stands finds.
use Rattle.std.specs.Prelude.{IsErrOf, List, Result, Some, length, ℕ, ◌≡◌, ◌≤◌}
use Rattle.ol_values.specs.Config.{Config, log_pages}
use Rattle.ol_values.specs.LogPages.{LogPage}
use Rattle.ol_values.specs.declared.record.Record.{Record}
use Rattle.ol_record.specs.LogPages.{IsImage, head_of, log_page_bytes, page_in}
use Rattle.ol_record.specs.PageReading.{page_at}
use Rattle.ol_record.specs.declared.head.LogHead.{LogHead}
use Rattle.ol_ports.specs.Causes.{HasFailed}
use Rattle.ol_log_places.specs.Places.{Place}
use Rattle.ol_log_places.specs.Runs.{Stands, journal_at}
use Rattle.ol_log_places.specs.declared.heads.Stood.{Stood}
use Rattle.ol_log_state.specs.RingState.{RingState, stood_holding}
use Rattle.ol_loglog.specs.declared.reading.LogReadFault.{LogReadFault}
use Rattle.ol_loglog.specs.declared.reading.LogReadFault.TheVariants.{Failed}

-- two heads tell one page: they have one unique number, index, first position and count
pub record TellOnePage (h k : LogHead) : Type 0 where
  pub uniq : h.uniq ≡ k.uniq
  pub index : h.index ≡ k.index
  pub first : h.first ≡ k.first
  pub count : h.count ≡ k.count

-- the bytes are a log page that a head tells
pub record IsPageOf (h : LogHead) (bytes : List ℕ) : Type 0 where
  pub found : LogHead
  pub is : page_at bytes ≡ Some found
  pub tells : TellOnePage found h

-- they are no log page, or another one
abbrev pub IsWrongPage : LogHead → List ℕ → Type 0
IsWrongPage h bytes = IsPageOf h bytes → ⊥

-- where the bytes are a log page with some head, they are the spelling of that page
abbrev pub IsSpelling : List ℕ → Type 0
IsSpelling bytes = (h : LogHead) → page_at bytes ≡ Some h → IsImage bytes × (h ≡ head_of (page_in bytes))

-- the page of a head stands, the bytes are that page with its gate open, and it has the journal's records at its positions
pub record HoldsPage (c : Config) (r : ℕ → Place) (j : ℕ → Record) (h : LogHead) (bytes : List ℕ) : Type 0 where
  pub page : LogPage
  pub stands : Stands r (log_pages c) page
  pub head : head_of page ≡ h
  pub spelled : bytes ≡ log_page_bytes 1 page
  pub records : page.records ≡ journal_at j page.first (length page.records)

-- a page of the disk is the one that holds a position in the ring, and these bytes are not that page
pub record IsBadAt (s : RingState) (position chunk page : ℕ) (bytes : List ℕ) : Type 0 where
  pub stood : Stood
  pub holds : stood_holding s position ≡ Some stood
  pub place : (chunk ≡ stood.chunk) × (page ≡ stood.page)
  pub wrong : IsWrongPage stood.head bytes

-- a failed read raises the count of a chunk, and no other answer changes any
pub record HasReadCause {T : Type 0} (chunk : ℕ) (before now : ℕ → ℕ) (result : Result T LogReadFault) : Type 0 where
  pub later : (c : ℕ) → before c ≤ now c
  pub failed : IsErrOf result Failed → HasFailed chunk before now
  pub kept : (IsErrOf result Failed → ⊥) → now ≡ before
