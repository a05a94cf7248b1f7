-- What the physical restore writes, and what it leaves of data pages.
use Rattle.std.specs.List.{list_any}
use Rattle.std.specs.Prelude.{Bool, List, length, true, ℕ, ◌&&◌, ◌<◌, ◌≡◌}
use Rattle.ol_values.specs.Config.{Config, has_page}
use Rattle.ol_chunks.specs.Places.{physical_area}
use Rattle.ol_ports.specs.Disk.{Bytes, Past, seen}
use Rattle.ol_ports.specs.Frames.{IsQuiet}
use Rattle.ol_physlog.specs.Reading.{Found, Tells, found_place}
use Rattle.ol_physlog.specs.States.{image_at}
use Rattle.ol_physlog.specs.declared.place.Place.{Place}
use Rattle.ol_data_pages.specs.Overlays.{overlaid}
use Rattle.ol_data_pages.specs.Places.{IsMarked, is_place, place_of, standing_bytes}

-- all entries of a generation were read, of a disk on which nothing is unsynced
pub record WereRead (c : Config) (generation : ℕ) (past : Past) (f : Found) : Type 0 where
  pub entries : Tells c (physical_area c) generation (seen past) f
  pub quiet : IsQuiet past
  pub all : length f.gates ≡ (physical_area c).count

-- of two disks: each page is under its counting entry on the second as it is on the first
abbrev pub KeepsPages : Config → ℕ → Bytes → Bytes → Type 0
KeepsPages c generation e d = (space page : ℕ) → has_page c space page ≡ true → overlaid c generation d space page ≡ overlaid c generation e space page

-- each page stands at its place on the second as it is under its counting entry on the first
abbrev pub StandOverlaid : Config → ℕ → Bytes → Bytes → Type 0
StandOverlaid c generation e d = (space page : ℕ) → has_page c space page ≡ true → standing_bytes c d space page ≡ overlaid c generation e space page

-- whether the configuration has this page, and a page of a chunk is its place
abbrev pub is_place_of : Config → Place → ℕ → ℕ → Bool
is_place_of c place chunk at = has_page c place.space place.page && is_place c place.space place.page chunk at

-- whether a page of a chunk is the place of a page with a counting entry
abbrev pub is_restored : Config → Found → ℕ → ℕ → Bool
is_restored c f chunk at = list_any (λ place. is_place_of c place chunk at) f.places

-- the page of a counting entry is one of the configuration
abbrev pub HasPageOf : Config → Found → ℕ → Type 0
HasPageOf c f i = has_page c (found_place f i).space (found_place f i).page ≡ true

-- the images of the first counting entries stand at the places of their pages
abbrev pub ArePut : Config → Found → ℕ → Bytes → Type 0
ArePut c f upto d = (i : ℕ) → i < upto → HasPageOf c f i → standing_bytes c d (found_place f i).space (found_place f i).page ≡ image_at f.images i

-- their chunks are marked
abbrev pub AreMarked : Config → Found → ℕ → List Bool → Type 0
AreMarked c f upto marks = (i : ℕ) → i < upto → HasPageOf c f i → IsMarked marks (place_of c (found_place f i).space (found_place f i).page).0
