-- Data pages as readers have them: the counting entries of the physical log lie over what stands at their places.
use Rattle.std.specs.List.{find, list_any}
use Rattle.std.specs.Prelude.{Bool, List, map, option_map, take, unwrap_or, ℕ}
use Rattle.ol_values.specs.Config.{Config}
use Rattle.ol_values.specs.Image.{page_bytes}
use Rattle.ol_values.specs.Pages.{Page}
use Rattle.ol_ports.specs.Disk.{Bytes}
use Rattle.ol_physlog.specs.Reading.{Entry, entries_on}
use Rattle.ol_physlog.specs.States.{Log, same_page}
use Rattle.ol_physlog.specs.declared.place.Place.{Place}
use Rattle.ol_data_pages.specs.Places.{standing_bytes}

-- whether an entry is of this page
abbrev pub is_entry_of : ℕ → ℕ → Entry → Bool
is_entry_of space page e = same_page (record { space = space; page = page }) e.place

-- the page as a reader has it: the image of its counting entry, or else what stands at its place
unfoldable pub overlaid : Config → ℕ → Bytes → ℕ → ℕ → List ℕ
overlaid c generation d space page = unwrap_or (option_map (λ e. e.image) (find (is_entry_of space page) (entries_on c generation d))) (standing_bytes c d space page)

-- whether a page has an entry that is settled
abbrev pub is_settled : Log → ℕ → ℕ → Bool
is_settled s space page = list_any (same_page (record { space = space; page = page })) (take s.settled s.places)

-- the images of these pages
abbrev pub images_of : (ℕ → ℕ → Page) → List Place → List (List ℕ)
images_of kept places = map (λ (place : Place). page_bytes (kept place.space place.page)) places
