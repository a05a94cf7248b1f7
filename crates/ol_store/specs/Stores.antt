-- The store as plain data.
use Rattle.std.specs.Prelude.{Bool, List, None, Option, Some, [], false, if◌then◌else◌, length, max, replicate, slice_index_or, slice_set, true, ℕ, ◌<◌, ◌≡◌, ◌≤◌}
use Rattle.ol_values.specs.Config.{Config, has_page}
use Rattle.ol_values.specs.Image.{IsDataPage, page_bytes, page_in}
use Rattle.ol_values.specs.Pages.{Page}
use Rattle.ol_chunks.specs.Limits.{IsConfig, chunk_count}
use Rattle.ol_chunks.specs.Places.{physical_area}
use Rattle.ol_physlog.specs.States.{Log, has_entry, with_added, with_settled}
use Rattle.ol_physlog.specs.declared.place.Place.{Place}
use Rattle.ol_data_pages.specs.Places.{place_of}
use Rattle.ol_pool.specs.Frames.{Frames, HasPlace, frame_of, is_dirty, no_frames, with_dirty, with_frame, without_dirty}
use Rattle.ol_before.specs.Images.{Captures, Image, image_of}

-- the configuration, the pages in memory, and what the store knows of logs, images and chunks
pub record Store : Type 0 where
  pub config : Config
  -- the pages in memory, and which of them are dirty
  pub pool : Frames
  -- the physical log
  pub log : Log
  -- the images that are kept for archives
  pub before : Captures
  -- of each chunk whether a data page was written there since its last sync
  pub written : List Bool
  -- up to which position the logical log is known to be flushed
  pub flushed : ℕ
  -- the greatest stamp that a change gave
  pub last : ℕ

-- the place of a page, as an entry has it
abbrev pub place_of_entry : ℕ → ℕ → Place
place_of_entry space page = record { space = space; page = page }

-- whether a page was changed since the last checkpoint
abbrev pub is_touched : Log → ℕ → ℕ → Bool
is_touched log space page = has_entry log (place_of_entry space page)

-- whether a data page was written to a chunk since its last sync
abbrev pub is_written : List Bool → ℕ → Bool
is_written marks chunk = slice_index_or marks chunk false

-- bytes are the image of a data page
abbrev pub IsImage : List ℕ → Type 0
IsImage bytes = (p : Page) × IsDataPage p × (bytes ≡ page_bytes p)

-- the stamp in the image of a page
abbrev pub stamp_in : List ℕ → ℕ
stamp_in bytes = (page_in bytes).stamp

-- what is always so
pub record IsStore (s : Store) : Type 0 where
  pub config : IsConfig s.config
  pub area : s.log.area ≡ physical_area s.config
  pub places : (space page : ℕ) → has_page s.config space page ≡ true → HasPlace s.pool space page
  -- what is in memory is the image of a data page
  pub images : (space page : ℕ) (bytes : List ℕ) → frame_of s.pool space page ≡ Some bytes → IsImage bytes
  -- dirty pages are pages of the configuration, in memory, and no change was later than the last
  pub dirty : (space page : ℕ) → is_dirty s.pool space page ≡ true → has_page s.config space page ≡ true
  pub framed : (space page : ℕ) → is_dirty s.pool space page ≡ true → (bytes : List ℕ) × (frame_of s.pool space page ≡ Some bytes)
  pub stamps : (space page : ℕ) (bytes : List ℕ) → is_dirty s.pool space page ≡ true → frame_of s.pool space page ≡ Some bytes → stamp_in bytes ≤ s.last
  pub chunks : length s.written ≡ 31
  pub written : (chunk : ℕ) → is_written s.written chunk ≡ true → chunk < chunk_count s.config.spaces

-- ---- its steps

-- other pages in memory
abbrev pub with_pool : Store → Frames → Store
with_pool s pool = record { config = s.config; pool = pool; log = s.log; before = s.before; written = s.written; flushed = s.flushed; last = s.last }

-- another state of the physical log
abbrev pub with_log : Store → Log → Store
with_log s log = record { config = s.config; pool = s.pool; log = log; before = s.before; written = s.written; flushed = s.flushed; last = s.last }

-- other captured images
abbrev pub with_before : Store → Captures → Store
with_before s before = record { config = s.config; pool = s.pool; log = s.log; before = before; written = s.written; flushed = s.flushed; last = s.last }

-- other marks
abbrev pub with_written : Store → List Bool → Store
with_written s written = record { config = s.config; pool = s.pool; log = s.log; before = s.before; written = written; flushed = s.flushed; last = s.last }

-- another flushed position
abbrev pub with_flushed : Store → ℕ → Store
with_flushed s position = record { config = s.config; pool = s.pool; log = s.log; before = s.before; written = s.written; flushed = position; last = s.last }

-- no chunk is marked
abbrev pub no_marks : List Bool
no_marks = replicate 31 false

-- no page in memory, nothing flushed or changed that is known
abbrev pub begun : Config → Log → Captures → Store
begun c log before = record { config = c; pool = no_frames c; log = log; before = before; written = no_marks; flushed = 0; last = 0 }

-- the log has the page's entry
abbrev pub with_entry : Log → ℕ → ℕ → Log
with_entry log space page = if is_touched log space page then log else with_added log (place_of_entry space page)

-- there is memory and place for an image of this page, and none is held
pub record CanCapture (b : Captures) (space page : ℕ) : Type 0 where
  pub memory : 0 < b.spare
  pub count : length b.held < b.limit
  pub none : image_of b.held space page ≡ None

-- the image of a page with these bytes
abbrev pub image_with : ℕ → ℕ → List ℕ → Image
image_with space page bytes = record { space = space; page = page; bytes = bytes }

-- the log is flushed to the stamp of a page, where it is in memory
abbrev pub IsFlushedAt : Store → ℕ → ℕ → Type 0
IsFlushedAt s space page = (bytes : List ℕ) → frame_of s.pool space page ≡ Some bytes → stamp_in bytes ≤ s.flushed

-- and to those of all of them
abbrev pub AreFlushed : Store → Type 0
AreFlushed s = (space page : ℕ) → is_dirty s.pool space page ≡ true → IsFlushedAt s space page

-- a page that is not in memory, at this place
abbrev pub IsBadAt : Store → ℕ → ℕ → ℕ → ℕ → Type 0
IsBadAt s space page chunk at = (place_of s.config space page ≡ (chunk, at)) × (frame_of s.pool space page ≡ None)

-- a page's image has changed in memory, and the page is dirty
abbrev pub with_image : Store → ℕ → ℕ → List ℕ → ℕ → Store
with_image s space page image stamp = record { config = s.config; pool = with_dirty (with_frame s.pool space page image) space page; log = s.log; before = s.before; written = s.written; flushed = s.flushed; last = max s.last stamp }

-- all parts but the pages in memory are the same, and these are as they were, but that one more may be there
pub record IsLoaded (old new : Store) (space page : ℕ) : Type 0 where
  pub rest : new ≡ with_pool old new.pool
  pub dirty : new.pool.dirty ≡ old.pool.dirty
  pub others : (at_space at_page : ℕ) (bytes : List ℕ) → frame_of old.pool at_space at_page ≡ Some bytes → frame_of new.pool at_space at_page ≡ Some bytes
  pub there : (bytes : List ℕ) × (frame_of new.pool space page ≡ Some bytes)

-- behind a change: the page has its entry and is dirty, and no other part has changed but the captured images
pub record IsChanged (old new : Store) (space page stamp : ℕ) : Type 0 where
  pub config : new.config ≡ old.config
  pub log : new.log ≡ with_entry old.log space page
  pub dirty : new.pool.dirty ≡ (with_dirty old.pool space page).dirty
  pub written : new.written ≡ old.written
  pub flushed : new.flushed ≡ old.flushed
  pub last : new.last ≡ max old.last stamp

-- ---- cleaning

-- the page that is longest dirty stands at its place, behind its settled entry
abbrev pub with_clean : Store → ℕ → ℕ → Store
with_clean s space page = record { config = s.config; pool = without_dirty s.pool space page; log = s.log; before = s.before; written = slice_set s.written (place_of s.config space page).0 true; flushed = s.flushed; last = s.last }

-- what a clean leaves: its entries are settled first
abbrev pub cleaned_of : Store → Option (ℕ × ℕ) → Store
cleaned_of s None = s
cleaned_of s (Some place) = with_clean (with_log s (with_settled s.log)) place.0 place.1

-- each added entry is settled
abbrev pub AreSettled : Log → Type 0
AreSettled log = log.settled ≡ length log.places

-- these pages are dirty, and these chunks are marked
abbrev pub with_some_dirty : Store → List (ℕ × ℕ) → List Bool → Store
with_some_dirty s pages marks = record { config = s.config; pool = record { spaces = s.pool.spaces; dirty = pages }; log = s.log; before = s.before; written = marks; flushed = s.flushed; last = s.last }

-- none is dirty
abbrev pub with_none_dirty : Store → List Bool → Store
with_none_dirty s marks = with_some_dirty s [] marks

-- all entries are settled, no page is dirty and no chunk is marked
abbrev pub checkpointed_of : Store → Store
checkpointed_of s = with_none_dirty (with_log s (with_settled s.log)) no_marks
