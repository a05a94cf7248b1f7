-- What an archive takes of the pages.
use Rattle.std.specs.Prelude.{Bool, List, None, Option, Some, false, if◌then◌else◌, true, ℕ, ◌+◌, ◌≡◌}
use Rattle.ol_values.specs.Config.{Config, has_page}
use Rattle.ol_values.specs.Image.{page_bytes}
use Rattle.ol_before.specs.Images.{Captures, image_of, is_of, without}
use Rattle.ol_cursor.specs.Order.{archives, is_wanted, precedes}
use Rattle.ol_cursor.specs.declared.cursor.Cursor.{Cursor}
use Rattle.ol_store.specs.Pages.{Pages}
use Rattle.ol_store.specs.Stores.{Store, with_before}

-- the captured image, or the page as it is now where its stamp is wanted
abbrev pub captured_or_now : Option (List ℕ) → Cursor → Pages → ℕ → ℕ → Option (List ℕ)
captured_or_now (Some image) cursor v space page = Some image
captured_or_now None cursor v space page = if is_wanted cursor space (v.now space page).stamp then Some (page_bytes (v.now space page)) else None

-- the image that an archive takes of a page, where it takes the page
abbrev pub image_at_cut : Cursor → Captures → Pages → ℕ → ℕ → Option (List ℕ)
image_at_cut cursor b v space page = if archives cursor space then captured_or_now (image_of b.held space page) cursor v space page else None

-- the spaces of an archive are up
abbrev pub AreUp : Cursor → Pages → Type 0
AreUp cursor v = (space : ℕ) → archives cursor space ≡ true → v.is_up space ≡ true

-- none of the pages from the cursor on to this place is taken
abbrev pub NoneBefore : Config → Cursor → Captures → Pages → ℕ × ℕ → Type 0
NoneBefore c cursor b v place = (space page : ℕ) → has_page c space page ≡ true → precedes (space, page) cursor.next ≡ false → precedes (space, page) place ≡ true → image_at_cut cursor b v space page ≡ None

-- this page is the first that is taken from the cursor on, with this image
pub record IsFirstTaken (c : Config) (cursor : Cursor) (b : Captures) (v : Pages) (place : ℕ × ℕ) (bytes : List ℕ) : Type 0 where
  pub there : has_page c place.0 place.1 ≡ true
  pub ahead : precedes place cursor.next ≡ false
  pub image : image_at_cut cursor b v place.0 place.1 ≡ Some bytes
  pub first : NoneBefore c cursor b v place

-- no page from the cursor on is taken
abbrev pub NoneLeft : Config → Cursor → Captures → Pages → Type 0
NoneLeft c cursor b v = (space page : ℕ) → has_page c space page ≡ true → precedes (space, page) cursor.next ≡ false → image_at_cut cursor b v space page ≡ None

-- what is answered, and the buffer behind it: the next page with its image, or that there is none
abbrev pub IsGiven : Config → Cursor → Captures → Pages → Option (ℕ × ℕ) → List ℕ → Type 0
IsGiven c cursor b v (Some place) image = IsFirstTaken c cursor b v place image
IsGiven c cursor b v None image = NoneLeft c cursor b v

-- of one space: its first page that is taken from the cursor on, with its image, or that none before the next space is
abbrev pub IsGivenIn : Config → Cursor → Captures → Pages → ℕ → Option ℕ → List ℕ → Type 0
IsGivenIn c cursor b v space (Some page) image = IsFirstTaken c cursor b v (space, page) image
IsGivenIn c cursor b v space None image = NoneBefore c cursor b v (space + 1, 0)

-- what is taken of one page: the image in the buffer, or none
abbrev pub taken : Bool → List ℕ → Option (List ℕ)
taken true image = Some image
taken false image = None

-- the held image of a page that has passed is dropped
abbrev pub with_passed : Store → Option (ℕ × ℕ) → Store
with_passed s None = s
with_passed s (Some place) = with_before s (without (is_of place.0 place.1) s.before)
