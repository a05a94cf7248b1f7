-- Where the pages of a configuration lie in its chunks. Chunks are numbered from 0 over all spaces, and the temporary chunk follows.
use Rattle.std.specs.List.{flat_map}
use Rattle.std.specs.Prelude.{Bool, List, None, Option, Some, [], if◌then◌else◌, length, nat_le, nat_lt, not, slice_index, take, ℕ, ◌&&◌, ◌*◌, ◌++◌, ◌+◌, ◌-◌, ◌==◌, ◌||◌, ◌∷◌}
use Rattle.ol_values.specs.Config.{Config, SpaceConfig, area_pages, space_at}
use Rattle.ol_chunks.specs.Limits.{chunk_count, reserved_pages}
use Rattle.ol_chunks.specs.declared.table.Area.{Area}

-- ---- chunks

-- the number of a space's first chunk
abbrev pub first_chunk_number : Config → ℕ → ℕ
first_chunk_number c space = chunk_count (take space c.spaces)

-- the pages of each chunk, and of the temporary one last
abbrev pub chunk_sizes : Config → List ℕ
chunk_sizes c = flat_map (λ (s : SpaceConfig). s.chunks) c.spaces ++ c.image_limit ∷ []

-- the pages of a chunk, 0 where there is none of this number
abbrev pub chunk_pages : Config → ℕ → ℕ
chunk_pages c chunk = slice_index (chunk_sizes c) chunk

-- the space of a chunk, where spaces are numbered from this number on, and chunks from 0
abbrev pub holder_from : ℕ → List SpaceConfig → ℕ → Option ℕ
holder_from space [] chunk = None
holder_from space (s ∷ spaces) chunk = if nat_lt chunk (length s.chunks) then Some space else holder_from (space + 1) spaces (chunk - length s.chunks)

-- the space that a chunk is one of; none for the temporary chunk
abbrev pub space_holding : Config → ℕ → Option ℕ
space_holding c chunk = holder_from 0 c.spaces chunk

-- ---- data pages

-- the place of a page among the pages of chunks, the first of which has this number
abbrev pub place_among : ℕ → List ℕ → ℕ → Option (ℕ × ℕ)
place_among chunk [] page = None
place_among chunk (pages ∷ chunks) page = if nat_lt page pages then Some (chunk, page) else place_among (chunk + 1) chunks (page - pages)

-- chunk and page of a data page: data pages follow the areas of their space, over all its chunks
abbrev pub place_in_chunks : Config → ℕ → ℕ → Option (ℕ × ℕ)
place_in_chunks c space page = place_among (first_chunk_number c space) (space_at c space).chunks (area_pages c space + page)

-- ---- areas

-- the physical log, behind the reserved pages of its space
abbrev pub physical_area : Config → Area
physical_area c = record {
  chunk = first_chunk_number c c.physical_space;
  first = reserved_pages c.physical_space;
  count = c.physical_entries;
  pages = 2;
}

-- the log files, behind the physical log where that stands in their space
abbrev pub log_area : Config → Area
log_area c = record {
  chunk = first_chunk_number c c.log_space;
  first = reserved_pages c.log_space + (if c.log_space == c.physical_space then 2 * c.physical_entries else 0);
  count = c.log_files;
  pages = c.log_file_pages;
}

-- the captured images, which are all of the temporary chunk
abbrev pub image_area : Config → Area
image_area c = record { chunk = chunk_count c.spaces; first = 0; count = c.image_limit; pages = 1 }

-- ---- parts

-- whether a page of a chunk lies in an area
abbrev pub lies_in : Area → ℕ → ℕ → Bool
lies_in a chunk page = (chunk == a.chunk) && (nat_le a.first page && nat_lt page (a.first + a.count * a.pages))

-- whether a page of a chunk is one of the reserved pages, at the front of chunk 0
abbrev pub is_reserved : ℕ → ℕ → Bool
is_reserved chunk page = (chunk == 0) && nat_lt page 12

-- whether a page of a chunk is one of those that a configuration gives to its spaces
abbrev pub in_spaces : Config → ℕ → ℕ → Bool
in_spaces c chunk page = nat_lt chunk (chunk_count c.spaces) && nat_lt page (chunk_pages c chunk)

-- the parts of the disk of an installation
pub data Part : Type 0 where
  -- the reserved pages at the front of chunk 0
  Reserved : Part
  -- the physical log
  Physical : Part
  -- the log files
  Logs : Part
  -- the data pages, which are all other pages of spaces
  Data : Part
  -- the captured images, in the temporary chunk
  Images : Part

-- whether a page of a chunk lies in a part
abbrev pub is_in : Config → Part → ℕ → ℕ → Bool
is_in c Reserved chunk page = is_reserved chunk page
is_in c Physical chunk page = lies_in (physical_area c) chunk page
is_in c Logs chunk page = lies_in (log_area c) chunk page
is_in c Data chunk page = in_spaces c chunk page && not (is_reserved chunk page || (lies_in (physical_area c) chunk page || lies_in (log_area c) chunk page))
is_in c Images chunk page = lies_in (image_area c) chunk page
