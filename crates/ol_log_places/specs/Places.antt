-- What stands at the places of the log on a disk. Places are numbered from 0 over all log files, file after file.
use Rattle.std.specs.Prelude.{Bool, List, if◌then◌else◌, is_some, nat_lt, slice_index, ℕ, ◌&&◌, ◌*◌, ◌+◌, ◌<◌, ◌==◌, ◌≡◌, ◌≤◌}
use Rattle.ol_values.specs.Config.{Config, log_pages}
use Rattle.ol_values.specs.LogPages.{LogPage}
use Rattle.ol_rules.specs.Ring.{file_of}
use Rattle.ol_record.specs.LogPages.{page_in}
use Rattle.ol_record.specs.PageReading.{page_at}
use Rattle.ol_chunks.specs.Places.{lies_in, log_area}
use Rattle.ol_ports.specs.Disk.{Bytes, Past, Rest, page_list}

-- what stands at a place: its gate is not open, it is open before what is no log page of this place, or it is open before a log page
pub data Place : Type 0 where
  Closed : Place
  Bad : Place
  Open : (page : LogPage) → Place

-- the first place of the file of this unique number
abbrev pub file_start : Config → ℕ → ℕ
file_start c uniq = file_of c uniq * c.log_file_pages

-- the place of a page of this unique number and index
abbrev pub place_number : Config → ℕ → ℕ → ℕ
place_number c uniq index = file_start c uniq + index

-- whether a page is one of this place, by its index and its unique number
unfoldable pub is_of_place : Config → ℕ → LogPage → Bool
is_of_place c place p = nat_lt p.index c.log_file_pages && (place == place_number c p.uniq p.index)

-- what these bytes are at a place
unfoldable pub place_in : Config → ℕ → List ℕ → Place
place_in c place bytes =
    if slice_index bytes 0 == 1
    then (if is_some (page_at bytes) && is_of_place c place (page_in bytes) then Open (page_in bytes) else Bad)
    else Closed

-- what stands at each place of a disk
unfoldable pub places : Config → Bytes → ℕ → Place
places c d place = place_in c place (page_list d (log_area c).chunk ((log_area c).first + place))

-- whether a page of a chunk is one of the log's
abbrev pub in_log : Config → ℕ → ℕ → Bool
in_log c chunk page = lies_in (log_area c) chunk page

-- the disk has all pages of the log
abbrev pub HasLog : Config → (ℕ → ℕ) → Type 0
HasLog c sizes = (log_area c).first + log_pages c ≤ sizes (log_area c).chunk

-- the disk has this at each place
abbrev pub Shows : Config → Bytes → (ℕ → Place) → Type 0
Shows c d r = (place : ℕ) → place < log_pages c → places c d place ≡ r place

-- whatever a stop leaves has this at each place
pub record IsPlaced (past : Past) (c : Config) (r : ℕ → Place) : Type 0 where
  pub each : (d : Bytes) → Rest past d → Shows c d r
