-- The pages that are in memory, as a value.
use Rattle.std.specs.List.{count_by, list_any, range_with_len}
use Rattle.std.specs.Prelude.{Bool, List, None, Option, Some, [], filter, if◌then◌else◌, is_some, length, map, not, replicate, slice_index_or, slice_set, true, ℕ, ◌&&◌, ◌++◌, ◌<◌, ◌==◌, ◌∷◌, ◌≡◌, ◌≤◌}
use Rattle.ol_values.specs.Config.{Config, data_pages}

-- the pages that are in memory, and which of them are dirty
pub record Frames : Type 0 where
  -- of each space its pages, each with its image where that is in memory
  pub spaces : List (List (Option (List ℕ)))
  -- the pages that are dirty, as space and page, the longest dirty first
  pub dirty : List (ℕ × ℕ)

-- the item of a page, of a list of items for each space
abbrev pub item_at : {X : Type 0} → X → List (List X) → ℕ → ℕ → X
item_at none items space page = slice_index_or (slice_index_or items space []) page none

-- another item for a page
abbrev pub with_item : {X : Type 0} → List (List X) → ℕ → ℕ → X → List (List X)
with_item items space page item = slice_set items space (slice_set (slice_index_or items space []) page item)

-- one item for each page of a configuration
abbrev pub each_page : {X : Type 0} → Config → X → List (List X)
each_page c item = map (λ space. replicate (data_pages c space) item) (range_with_len 0 (length c.spaces))

-- the image of a page, where it is in memory
abbrev pub frame_of : Frames → ℕ → ℕ → Option (List ℕ)
frame_of p space page = item_at None p.spaces space page

-- whether two places are one
abbrev pub same_place : ℕ × ℕ → ℕ × ℕ → Bool
same_place a b = (a.0 == b.0) && (a.1 == b.1)

-- whether a page is dirty
abbrev pub is_dirty : Frames → ℕ → ℕ → Bool
is_dirty p space page = list_any (same_place (space, page)) p.dirty

-- there is this page
abbrev pub HasPlace : Frames → ℕ → ℕ → Type 0
HasPlace p space page = (space < length p.spaces) × (page < length (slice_index_or p.spaces space []))

-- dirty pages are in memory, each once in the list
pub record IsPool (p : Frames) : Type 0 where
  pub once : (space page : ℕ) → count_by (same_place (space, page)) p.dirty ≤ 1
  pub framed : (space page : ℕ) → is_dirty p space page ≡ true → is_some (frame_of p space page) ≡ true

-- ---- what calls leave

-- no page in memory, with room for those of a configuration
abbrev pub no_frames : Config → Frames
no_frames c = record { spaces = each_page c None; dirty = [] }

-- a page's image is in memory
abbrev pub with_frame : Frames → ℕ → ℕ → List ℕ → Frames
with_frame p space page image = record { spaces = with_item p.spaces space page (Some image); dirty = p.dirty }

-- a page is dirty: the last of the list, where it was not there
abbrev pub with_dirty : Frames → ℕ → ℕ → Frames
with_dirty p space page =
    record { spaces = p.spaces; dirty = if is_dirty p space page then p.dirty else p.dirty ++ (space, page) ∷ [] }

-- a page is dirty no more
abbrev pub without_dirty : Frames → ℕ → ℕ → Frames
without_dirty p space page =
    record { spaces = p.spaces; dirty = filter (λ place. not (same_place (space, page) place)) p.dirty }
