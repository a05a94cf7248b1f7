-- What the disk of a store holds, and what a stop leaves of it.
use Rattle.std.specs.Prelude.{Bool, List, Some, false, true, ℕ, ◌<◌, ◌≡◌, ◌≤◌, ◌||◌}
use Rattle.ol_values.specs.Config.{Config}
use Rattle.ol_values.specs.Image.{IsDataPage, page_bytes}
use Rattle.ol_chunks.specs.Places.{is_in, physical_area}
use Rattle.ol_chunks.specs.Places.Part.{Data, Physical}
use Rattle.ol_ports.specs.Disk.{Bytes, Past, Rest, seen}
use Rattle.ol_physlog.specs.Places.{Counts, entry_at}
use Rattle.ol_physlog.specs.Reading.{IsRefused}
use Rattle.ol_physlog.specs.States.{IsLaid, Log, NoneLater}
use Rattle.ol_physlog.specs.declared.place.Place.{Place}
use Rattle.ol_pool.specs.Frames.{Frames, frame_of, is_dirty}
use Rattle.ol_data_pages.specs.Overlays.{images_of, is_settled, overlaid}
use Rattle.ol_data_pages.specs.Places.{standing_bytes, place_of}
use Rattle.ol_store.specs.Pages.{IsUp, Pages}
use Rattle.ol_store.specs.Stores.{Store, is_touched, is_written}

-- whether a page of a chunk is one that the store writes
abbrev pub in_store : Config → ℕ → ℕ → Bool
in_store c chunk page = is_in c Physical chunk page || is_in c Data chunk page

-- no byte of a part is in a page that the store writes
abbrev pub IsApart : Config → (ℕ → ℕ → ℕ → Bool) → Type 0
IsApart c is_part = (chunk page i : ℕ) → in_store c chunk page ≡ true → is_part chunk page i ≡ false

-- of a disk: each page of a space that is up, overlaid with its counting entry of this generation, is as at the last checkpoint; counting entries are in their grammar, with images as at the checkpoint, and no open one is of a later generation
pub record HoldsPages (c : Config) (generation : ℕ) (v : Pages) (d : Bytes) : Type 0 where
  pub pages : (space page : ℕ) → IsUp c v space page → overlaid c generation d space page ≡ page_bytes (v.saved space page)
  pub good : (k : ℕ) → k < (physical_area c).count → IsRefused c (physical_area c) generation d k → ⊥
  pub images : (k : ℕ) (place : Place) (image : List ℕ) → k < (physical_area c).count → entry_at c (physical_area c) generation d k ≡ Counts place image → image ≡ page_bytes (v.saved place.space place.page)
  pub older : NoneLater (physical_area c) d generation

-- between two calls, of the pages in memory, the physical log and the marks of chunks that are written
pub record AreOnDisk (past : Past) (c : Config) (pool : Frames) (log : Log) (written : List Bool) (v : Pages) : Type 0 where
  -- the physical log is laid, and its entries have the pages as at the last checkpoint
  pub laid : IsLaid c past log (images_of v.saved log.places)
  -- whatever a stop leaves, a page without a settled entry stands at its place as at the last checkpoint
  pub unsettled : (d : Bytes) → Rest past d → (space page : ℕ) → IsUp c v space page → is_settled log space page ≡ false → standing_bytes c d space page ≡ page_bytes (v.saved space page)
  -- a dirty page was changed since the last checkpoint
  pub dirty : (space page : ℕ) → is_dirty pool space page ≡ true → is_touched log space page ≡ true
  -- a page that is not dirty reads at its place as it is now
  pub clean : (space page : ℕ) → IsUp c v space page → is_dirty pool space page ≡ false → standing_bytes c (seen past) space page ≡ page_bytes (v.now space page)
  -- and stands there so, whatever a stop leaves, where its chunk was synced since
  pub synced : (d : Bytes) → Rest past d → (space page : ℕ) → IsUp c v space page → is_dirty pool space page ≡ false → is_written written (place_of c space page).0 ≡ false → standing_bytes c d space page ≡ page_bytes (v.now space page)
  -- what is in memory is the page as it is now
  pub in_memory : (space page : ℕ) (bytes : List ℕ) → IsUp c v space page → frame_of pool space page ≡ Some bytes → bytes ≡ page_bytes (v.now space page)
  -- a page that was not changed since the last checkpoint is as it was then
  pub untouched : (space page : ℕ) → IsUp c v space page → is_touched log space page ≡ false → v.now space page ≡ v.saved space page
  pub pages : (space page : ℕ) → IsUp c v space page → IsDataPage (v.now space page)

-- the disk between two calls of the store
abbrev pub IsOnDisk : Past → Store → Pages → Type 0
IsOnDisk past s v = AreOnDisk past s.config s.pool s.log s.written v

-- the disk of a store that begins: all pages stand at their places as at the last checkpoint, whatever a stop leaves
pub record IsFresh (past : Past) (c : Config) (log : Log) (v : Pages) : Type 0 where
  pub laid : IsLaid c past log (images_of v.saved log.places)
  pub places : (d : Bytes) → Rest past d → (space page : ℕ) → IsUp c v space page → standing_bytes c d space page ≡ page_bytes (v.now space page)
  pub unchanged : (space page : ℕ) → IsUp c v space page → v.now space page ≡ v.saved space page
  pub pages : (space page : ℕ) → IsUp c v space page → IsDataPage (v.now space page)

-- the log is flushed to the stamp of each page that is not dirty
abbrev pub CleanAreFlushed : Store → Pages → Type 0
CleanAreFlushed s v = (space page : ℕ) → IsUp s.config v space page → is_dirty s.pool space page ≡ false → (v.now space page).stamp ≤ s.flushed
