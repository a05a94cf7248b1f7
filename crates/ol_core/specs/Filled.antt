-- The pages of the spaces as the engine holds them: those that rows lie on, as images. Rows fill the slots of a space in order.
use Rattle.std.specs.List.{flat_map, range_with_len}
use Rattle.std.specs.Prelude.{Bool, List, None, Option, Some, [], false, filter, fold, is_none, length, map, nat_le, nat_lt, replicate, slice_index_or, slice_set, true, ℕ, ◌%◌, ◌*◌, ◌+◌, ◌-◌, ◌/◌, ◌∷◌, ◌≡◌, ◌≤◌}
use Rattle.ol_values.specs.declared.record.Record.{Record}
use Rattle.ol_values.specs.declared.record.Rid.{Rid}
use Rattle.ol_values.specs.Config.{Config, data_pages}
use Rattle.ol_values.specs.Image.{IsPage, page_bytes}
use Rattle.ol_values.specs.Pages.{rid_of}
use Rattle.ol_rules.specs.Journal.{page_at, row_at, stamp_at}
use Rattle.ol_values.specs.Blocks.{Saved}

-- a space: how many of its slots hold a row, and the images of its first pages
pub record Filled : Type 0 where
  pub rows : ℕ
  pub images : List (List ℕ)

-- a space without rows
abbrev pub no_rows : Filled
no_rows = record { rows = 0; images = [] }

-- one of all spaces
abbrev pub filled_at : List Filled → ℕ → Filled
filled_at spaces space = slice_index_or spaces space no_rows

-- the image of a page that was never changed
unfoldable pub blank_image : List ℕ
blank_image = replicate 2048 0

-- the image of a page: blank where none is held
abbrev pub image_at : Filled → ℕ → List ℕ
image_at f page = slice_index_or f.images page blank_image

-- slot i of a space, over all its pages
abbrev pub slot_at : ℕ → ℕ → Rid
slot_at space i = rid_of space (i / 31) (i % 31)

-- how many pages so many rows lie on
abbrev pub pages_used : ℕ → ℕ
pages_used rows = (rows + 30) / 31

-- a space of so many data pages is held as the journal makes it
pub record IsFilled (pages : ℕ) (journal : List Record) (space : ℕ) (f : Filled) : Type 0 where
  pub room : f.rows ≤ pages * 31
  pub held : pages_used f.rows ≤ length f.images
  pub images : (p : ℕ) → image_at f p ≡ page_bytes (page_at journal space p)
  pub sound : (p : ℕ) → IsPage (page_at journal space p)
  pub slots : (i : ℕ) → is_none (row_at journal (slot_at space i)) ≡ nat_le f.rows i
  pub stamps : (p : ℕ) → nat_lt 0 (stamp_at journal space p) ≡ nat_lt (p * 31) f.rows

-- all spaces are; one that the configuration has not has no rows
abbrev pub AreFilled : Config → List Record → List Filled → Type 0
AreFilled c journal spaces = (space : ℕ) → IsFilled (data_pages c space) journal space (filled_at spaces space)

-- rows lie on at most 65,535 pages of each space
abbrev pub AreFew : List Filled → Type 0
AreFew spaces = (space : ℕ) → pages_used (filled_at spaces space).rows ≤ 65535

-- ---- the spaces of an archive, marked by their numbers

abbrev pub is_marked : List Bool → ℕ → Bool
is_marked marks space = slice_index_or marks space false

abbrev pub no_marks : List Bool
no_marks = replicate 16 false

-- these marks, and one for each of these spaces
abbrev pub marked : List Bool → List ℕ → List Bool
marked marks spaces = fold (λ m space. slice_set m space true) marks spaces

-- those that are marked from this number on, in ascending order
abbrev pub marked_from : List Bool → ℕ → List ℕ
marked_from marks space = filter (is_marked marks) (range_with_len space (16 - space))

-- the marked spaces as an archive of level 0 has them
abbrev pub saved_in : List Bool → List Saved
saved_in marks = map (λ s. let r : Saved = record { space = s; parent = 0; base = 0 } in r) (marked_from marks 0)

-- the pages of a space that rows lie on
abbrev pub used_in : List Filled → ℕ → List (ℕ × ℕ)
used_in spaces space = map (λ p. let r : ℕ × ℕ = (space, p) in r) (range_with_len 0 (pages_used (filled_at spaces space).rows))

-- those of the marked spaces from this number on
abbrev pub used_from : List Filled → List Bool → ℕ → List (ℕ × ℕ)
used_from spaces marks space = flat_map (used_in spaces) (marked_from marks space)

-- the first of places
abbrev pub first_place : List (ℕ × ℕ) → Option (ℕ × ℕ)
first_place [] = None
first_place (p ∷ places) = Some p
