-- What the opening of a disk gives.
use Rattle.std.specs.Prelude.{Err, List, Ok, Result, false, ℕ, ◌+◌, ◌-◌, ◌≡◌, ◌≤◌, ◌⊎◌}
use Rattle.ol_values.specs.Config.{Config}
use Rattle.ol_values.specs.Image.{IsDataPage}
use Rattle.ol_anchor_opening.specs.Opening.{IsOnline}
use Rattle.ol_chunks.specs.Limits.{IsConfig}
use Rattle.ol_chunks.specs.Places.{physical_area}
use Rattle.ol_format.specs.First.{AreLarge, chunks_of}
use Rattle.ol_log_opening.specs.Opened.{IsOpenedLog}
use Rattle.ol_page_opening.specs.Opening.{IsOpened}
use Rattle.ol_physlog.specs.Places.{Counts, entry_at}
use Rattle.ol_physlog.specs.declared.place.Place.{Place}
use Rattle.ol_ports.specs.Disk.{Bytes, Past}
use Rattle.ol_reserve.specs.Pair.{AreLow, there}
use Rattle.ol_reserve.specs.declared.anchor.Anchor.{Anchor}
use Rattle.ol_store.specs.Pages.{IsUp}
use Rattle.ol_store.specs.Stores.{Store, with_flushed}
use Rattle.ol_storage.specs.Behind.{Behind, IsBehind, last_of, pages_of}
use Rattle.ol_storage.specs.Installation.{Held, Installation, config_of}
use Rattle.ol_storage.specs.Standing.{Stands}
use Rattle.ol_storage.specs.Storing.{IsStored}
use Rattle.ol_opening.specs.declared.fault.OpenFault.{OpenFault}
use Rattle.ol_opening.specs.declared.opening.Parts.{Parts}

-- ---- the answer

-- the disk that comes back
abbrev pub disk_behind : {X : Type 0} → Result (Held X) (X × OpenFault) → X
disk_behind (Ok s) = s.disk
disk_behind (Err e) = e.0

-- the installation on it, or why there is none
abbrev pub answer_of : {X : Type 0} → Result (Held X) (X × OpenFault) → Result Installation OpenFault
answer_of (Ok s) = Ok s.now
answer_of (Err e) = Err e.1

-- the installation of the parts that were read: the pages are as at the checkpoint, and all records are flushed
abbrev pub begun : Parts → Installation
begun p = record { ring = p.ring; store = with_flushed p.store (p.ring.state.next - 1); anchor = p.anchor; reached = p.anchor.position; stopped = false }

abbrev pub begun_of : Result Parts OpenFault → Result Installation OpenFault
begun_of (Ok p) = Ok (begun p)
begun_of (Err fault) = Err fault

-- ---- what is opened

-- an installation is what an opening reads: of an anchor on line and its configuration, with the ring and the pages as they were opened, all records flushed, and the pages as at the checkpoint
pub record IsOpenedOn (sizes : ℕ → ℕ) (v : Installation) : Type 0 where
  pub online : IsOnline sizes v.anchor (config_of v)
  pub ring : IsOpenedLog (config_of v) v.anchor v.ring
  pub store : Store
  pub pages : IsOpened (config_of v) v.anchor.generation store
  pub flushed : v.store ≡ with_flushed store (v.ring.state.next - 1)
  pub reached : v.reached ≡ v.anchor.position
  pub going : v.stopped ≡ false

-- an image that a stop left stands for what was read before and the records behind it, and the pages have them up to the checkpoint; the need is at most the position behind that, and each page is a data page with a stamp of at most the last position, as the pages of a sound journal are
pub record IsLeft (c : Config) (g : Behind) (a : Anchor) (d : Bytes) : Type 0 where
  pub config : IsConfig c
  pub behind : IsBehind g
  pub reached : g.reached ≡ a.position
  pub stands : Stands c g a (last_of g) d
  pub need : a.need ≤ a.position + 1
  pub pages : (space page : ℕ) → IsUp c (pages_of a g) space page → IsDataPage ((pages_of a g).saved space page)
  pub stamps : (space page : ℕ) → IsUp c (pages_of a g) space page → ((pages_of a g).saved space page).stamp ≤ last_of g

-- and the disk has all its chunks, an opening takes the anchors of the pair and their numbers, and each counting entry is of a page of a space that is up, or of one that was a data page
pub record IsSound (sizes : ℕ → ℕ) (c : Config) (g : Behind) (a : Anchor) (d : Bytes) : Type 0 where
  pub left : IsLeft c g a d
  pub large : AreLarge sizes c (chunks_of c)
  pub low : AreLow (there sizes d)
  pub incarnation : 1 ≤ a.incarnation
  pub uniq : 1 ≤ a.uniq
  pub entries : (k : ℕ) (place : Place) (image : List ℕ) → entry_at c (physical_area c) a.generation d k ≡ Counts place image → IsUp c (pages_of a g) place.space place.page ⊎ IsDataPage ((pages_of a g).saved place.space place.page)

-- the installation is of this configuration and anchor, and stands on its disk
pub record IsStoredOf (c : Config) (a : Anchor) (past : Past) (g : Behind) (v : Installation) : Type 0 where
  pub config : config_of v ≡ c
  pub anchor : v.anchor ≡ a
  pub stored : IsStored past v g
