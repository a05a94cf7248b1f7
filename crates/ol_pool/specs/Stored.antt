-- How frames are stored: each page has a mark, which tells whether it is in the list of those that are dirty.
use Rattle.std.specs.List.{count_by}
use Rattle.std.specs.Prelude.{Bool, List, [], false, is_some, length, slice_index_or, sum_by, true, ℕ, ◌≡◌, ◌≤◌, if◌then◌else◌, ◌∷◌}
use Rattle.ol_pool.specs.Frames.{Frames, frame_of, item_at, same_place}

-- 1 for a mark that is set
abbrev pub bit : Bool → ℕ
bit mark = if mark then 1 else 0

-- how many marks are set
abbrev pub count_marks : List (List Bool) → ℕ
count_marks marks = sum_by (sum_by bit) marks

-- how many pages there are, by an item for each
abbrev pub count_pages : {X : Type 0} → List (List X) → ℕ
count_pages items = sum_by length items

-- the items of as many pages
abbrev pub AreAlike : {X Y : Type 0} → List (List X) → List (List Y) → Type 0
AreAlike items others = (space : ℕ) → length (slice_index_or items space []) ≡ length (slice_index_or others space [])

-- pages and marks go together, and the list of dirty pages has room for all pages
pub record IsStored (p : Frames) (marks : List (List Bool)) (limit : ℕ) : Type 0 where
  pub alike : AreAlike marks p.spaces
  pub marked : (space page : ℕ) → count_by (same_place (space, page)) p.dirty ≡ bit (item_at false marks space page)
  pub framed : (space page : ℕ) → item_at false marks space page ≡ true → is_some (frame_of p space page) ≡ true
  pub count : length p.dirty ≡ count_marks marks
  pub room : count_pages marks ≤ limit

-- whether the first item of a list passes a test
abbrev pub begins_so : {X : Type 0} → (X → Bool) → List X → Bool
begins_so test [] = false
begins_so test (x ∷ xs) = test x
