-- Small installations, for worked examples.
use Rattle.std.specs.Prelude.{List, None, Option, [], codes, flat_map, map, slice_index_or, ℕ, ◌∷◌}
use Rattle.ol_values.specs.declared.history.Actor.{Actor}
use Rattle.ol_values.specs.declared.line.Form.{Form}
use Rattle.ol_values.specs.declared.line.Line.{Line}
use Rattle.ol_values.specs.declared.row.Row.{Row}
use Rattle.ol_values.specs.Blocks.{Block, HeadHeld, PageHeld, Payload, Saved}
use Rattle.ol_values.specs.Config.{Config}
use Rattle.ol_values.specs.Text.{text}
use Rattle.ol_model.specs.History.{played}
use Rattle.ol_model.specs.Machine.{formatted}
use Rattle.ol_model.specs.Tape.{tape}

-- root of 100 pages and data1 of 8, a physical log of 8 entries and a log of 3 files of so many pages in root, and room for so many kept images
abbrev pub small : ℕ → ℕ → Config
small file_pages images = record {
  spaces = record { name = codes "root"; chunks = 100 ∷ [] } ∷ record { name = codes "data1"; chunks = 8 ∷ [] } ∷ [];
  physical_space = 0;
  physical_entries = 8;
  log_space = 0;
  log_files = 3;
  log_file_pages = file_pages;
  image_limit = images;
}

abbrev pub line : Actor → ℕ → Form → Line
line actor number form = record { actor = actor; number = number; form = form }

-- what the play of these lines prints, from a newly formatted installation on
abbrev pub printed : Config → List Line → List ℕ
printed c lines = text c (played 400 [] (formatted c) lines)

-- the blocks that it puts on a drive
abbrev pub blocks_on : Config → List Line → ℕ → List Block
blocks_on c lines drive = tape [] (formatted c) (played 400 [] (formatted c) lines) drive

-- the head of a block in numbers: kind, object, incarnation, number, index, and the three numbers by kind
abbrev pub head_numbers : Block → List ℕ
head_numbers b = b.kind ∷ b.object ∷ b.incarnation ∷ b.number ∷ b.index ∷ b.a ∷ b.b ∷ b.c ∷ []

-- the heads of the blocks that a play puts on a drive
abbrev pub taped : Config → List Line → ℕ → List (List ℕ)
taped c lines drive = map head_numbers (blocks_on c lines drive)

-- the stamp of a page on tape, and what its first slot holds
abbrev pub page_told : Payload → List (ℕ × Option Row)
page_told (PageHeld page) = (page.stamp, slice_index_or page.slots 0 None) ∷ []
page_told _ = []

-- the same of all pages that a play puts on a drive
abbrev pub pages_on : Config → List Line → ℕ → List (ℕ × Option Row)
pages_on c lines drive = flat_map (λ (b : Block). page_told b.payload) (blocks_on c lines drive)

-- the spaces in an archive head
abbrev pub spaces_told : Payload → List (List Saved)
spaces_told (HeadHeld head _) = head.spaces ∷ []
spaces_told _ = []

-- the same of all headers and trailers that a play puts on a drive
abbrev pub spaces_on : Config → List Line → ℕ → List (List Saved)
spaces_on c lines drive = flat_map (λ (b : Block). spaces_told b.payload) (blocks_on c lines drive)
