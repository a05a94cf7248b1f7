-- The page store of a disk that is opened.
use Rattle.std.specs.Prelude.{IsErrOf, List, Result, [], ℕ, ◌+◌, ◌<◌, ◌≡◌, ◌≤◌, ◌⊎◌}
use Rattle.ol_values.specs.Config.{Config}
use Rattle.ol_values.specs.Image.{IsDataPage, page_bytes}
use Rattle.ol_values.specs.Pages.{Page}
use Rattle.ol_chunks.specs.Limits.{chunk_count}
use Rattle.ol_chunks.specs.Places.{physical_area}
use Rattle.ol_ports.specs.Causes.{HasFailed}
use Rattle.ol_ports.specs.Disk.{Bytes}
use Rattle.ol_physlog.specs.Places.{Counts, entry_at, head_page}
use Rattle.ol_physlog.specs.Reading.{Found, IsFirstRefused, IsHeadAt, IsRefused}
use Rattle.ol_physlog.specs.States.{image_at}
use Rattle.ol_physlog.specs.declared.place.Place.{Place}
use Rattle.ol_store.specs.Pages.{IsUp, Pages}
use Rattle.ol_store.specs.Stores.{IsImage, Store}
use Rattle.ol_page_opening.specs.declared.pages.PageOpenFault.{PageOpenFault}
use Rattle.ol_page_opening.specs.declared.pages.PageOpenFault.TheVariants.{DiskFault, Failed}

-- ---- images

-- bytes are the image of no data page
abbrev pub IsNoImage : List ℕ → Type 0
IsNoImage bytes = (p : Page) → IsDataPage p → bytes ≡ page_bytes p → ⊥

-- the images of the first counting entries are those of data pages
abbrev pub AreImages : Found → ℕ → Type 0
AreImages f upto = (i : ℕ) → i < upto → IsImage (image_at f.images i)

-- a page is that of the image of an entry
abbrev pub IsImageAt : Config → ℕ → ℕ → ℕ → Type 0
IsImageAt c k chunk page = (chunk ≡ (physical_area c).chunk) × (page ≡ head_page (physical_area c) k + 1)

-- an entry counts, with bytes that are the image of no data page
pub record HasNoImage (c : Config) (generation : ℕ) (d : Bytes) (k : ℕ) : Type 0 where
  pub place : Place
  pub bytes : List ℕ
  pub counts : entry_at c (physical_area c) generation d k ≡ Counts place bytes
  pub none : IsNoImage bytes

-- ---- entries

-- no entry is off the grammar or of the page of an earlier one, and each that counts has the image of a data page
pub record AreGood (c : Config) (generation : ℕ) (d : Bytes) : Type 0 where
  pub heads : (k : ℕ) → k < (physical_area c).count → IsRefused c (physical_area c) generation d k → ⊥
  pub images : (k : ℕ) → k < (physical_area c).count → HasNoImage c generation d k → ⊥

-- a page of a chunk is that of the head of the first refused entry, or none is refused and it is that of an image which is none
abbrev pub IsBad : Config → ℕ → Bytes → ℕ → ℕ → Type 0
IsBad c generation d chunk page =
    ((k : ℕ) × IsHeadAt c k chunk page × IsFirstRefused c generation d k)
    ⊎ (((k : ℕ) → k < (physical_area c).count → IsRefused c (physical_area c) generation d k → ⊥) × ((k : ℕ) × (k < (physical_area c).count) × IsImageAt c k chunk page × HasNoImage c generation d k))

-- ---- the store

-- of this configuration and this generation of the physical log, with no dirty page, and nothing known to be flushed or changed
pub record IsOpened (c : Config) (g : ℕ) (s : Store) : Type 0 where
  pub config : s.config ≡ c
  pub generation : s.log.generation ≡ g
  pub flushed : s.flushed ≡ 0
  pub last : s.last ≡ 0
  pub dirty : s.pool.dirty ≡ []

-- each page of a space that is up is a data page, as it was at the last checkpoint
pub record AreSaved (c : Config) (v : Pages) : Type 0 where
  pub same : (space page : ℕ) → IsUp c v space page → v.now space page ≡ v.saved space page
  pub pages : (space page : ℕ) → IsUp c v space page → IsDataPage (v.now space page)

-- ---- faults

-- counts of faults never fall; a failed read has raised that of the physical log's chunk, another failed call that of one chunk of a space, and no other answer changes any
pub record HasPageOpenCause {T : Type 0} (c : Config) (before now : ℕ → ℕ) (result : Result T PageOpenFault) : Type 0 where
  pub later : (chunk : ℕ) → before chunk ≤ now chunk
  pub fault : (chunk : ℕ) → IsErrOf result (DiskFault chunk) → (chunk ≡ (physical_area c).chunk) × (chunk < chunk_count c.spaces) × HasFailed chunk before now
  pub failed : IsErrOf result Failed → (chunk : ℕ) × (chunk < chunk_count c.spaces) × HasFailed chunk before now
  pub kept : ((chunk : ℕ) → IsErrOf result (DiskFault chunk) → ⊥) → (IsErrOf result Failed → ⊥) → now ≡ before
