-- Data pages, as the contracts of the store speak of them.
use Rattle.std.specs.Prelude.{Bool, Option, if◌then◌else◌, true, ℕ, ◌&&◌, ◌==◌, ◌≡◌}
use Rattle.ol_values.specs.Config.{Config, has_page}
use Rattle.ol_values.specs.Image.{with_slot}
use Rattle.ol_values.specs.Pages.{Page}
use Rattle.ol_values.specs.declared.record.Rid.{Rid}
use Rattle.ol_values.specs.declared.row.Row.{Row}

-- the pages of an installation, by space and page
pub record Pages : Type 0 where
  -- which spaces are up; of the pages of others nothing is said
  pub is_up : ℕ → Bool
  -- each page as it is now
  pub now : ℕ → ℕ → Page
  -- each page as it was at the last checkpoint
  pub saved : ℕ → ℕ → Page

-- a page of a space that is up
abbrev pub IsUp : Config → Pages → ℕ → ℕ → Type 0
IsUp c v space page = (v.is_up space ≡ true) × (has_page c space page ≡ true)

-- one page is another
abbrev pub with_page : (ℕ → ℕ → Page) → ℕ → ℕ → Page → ℕ → ℕ → Page
with_page pages space page p at_space at_page = if (at_space == space) && (at_page == page) then p else pages at_space at_page

-- a slot has this row, or none, and its page this stamp
abbrev pub changed : Pages → Rid → Option Row → ℕ → Pages
changed v rid row stamp = record { is_up = v.is_up; now = with_page v.now rid.space rid.page (with_slot (v.now rid.space rid.page) rid.slot row stamp); saved = v.saved }

-- behind a checkpoint all pages are saved
abbrev pub checkpointed : Pages → Pages
checkpointed v = record { is_up = v.is_up; now = v.now; saved = v.now }
