-- Rolling pages forward by the records of the log.
use Rattle.std.specs.Prelude.{Bool, List, None, Option, Some, [], fold, if◌then◌else◌, is_some, slice_index_or, true, unwrap_or, ℕ, ◌+◌, ◌-◌, ◌++◌, ◌∷◌, ◌≡◌}
use Rattle.ol_values.specs.declared.record.Record.{Record}
use Rattle.ol_values.specs.declared.record.Rid.{Rid}
use Rattle.ol_values.specs.declared.row.Row.{Row}
use Rattle.ol_values.specs.Config.{Config, has_page}
use Rattle.ol_values.specs.Image.{IsPage, page_bytes}
use Rattle.ol_values.specs.LogPages.{LogPage, records_at}
use Rattle.ol_values.specs.Pages.{Page, blank}
use Rattle.ol_rules.specs.Journal.{page_from}
use Rattle.ol_pool.specs.Frames.{Frames, HasPlace, frame_of}
use Rattle.ol_rollfwd.specs.Rolls.{Roll, after, is_in_place, place_moved}

-- ---- pages before and after a record

-- the roll forward before its next record, and each page as it is then
pub record Fed : Type 0 where
  pub roll : Roll
  pub pages : ℕ → ℕ → Page

-- what a place holds, if it is one
abbrev pub held_at : (ℕ → ℕ → Page) → Option Rid → Option Row
held_at pages None = None
held_at pages (Some rid) = slice_index_or (pages rid.space rid.page).slots rid.slot None

-- whether the next record is in place
abbrev pub is_next : Fed → Record → Bool
is_next b r = is_in_place b.roll (held_at b.pages (place_moved b.roll r)) r

-- the pages behind the next record: where it is applied, it is folded on
abbrev pub pages_after : Fed → Record → ℕ → ℕ → Page
pages_after b r space page = if is_some (place_moved b.roll r) then page_from (b.pages space page) b.roll.next (r ∷ []) space page else b.pages space page

abbrev pub fed_from : Roll → (ℕ → ℕ → Page) → Fed
fed_from roll pages = record { roll = roll; pages = pages }

abbrev pub fed_one : Fed → Record → Fed
fed_one b r = record { roll = after b.roll r; pages = pages_after b r }

-- behind these records
abbrev pub fed : Fed → List Record → Fed
fed b records = fold fed_one b records

-- the position of the first of these records that is out of place
abbrev pub first_out : Fed → List Record → Option ℕ
first_out b [] = None
first_out b (r ∷ records) = if is_next b r then first_out (fed_one b r) records else Some b.roll.next

-- the records of a log page from a position on, up to another
abbrev pub records_due : LogPage → ℕ → ℕ → List Record
records_due p next upto = records_at p.first p.records next (upto + 1 - next)

-- ---- pages in memory

-- the image of a page; one that is not in memory was never changed
abbrev pub image_in : Frames → ℕ → ℕ → List ℕ
image_in p space page = unwrap_or (frame_of p space page) (page_bytes blank)

-- there are frames for all data pages of the configuration
abbrev pub HasFrames : Config → Frames → Type 0
HasFrames c p = (space page : ℕ) → has_page c space page ≡ true → HasPlace p space page

-- the frames that there are stay there
abbrev pub KeepsFrames : Frames → Frames → Type 0
KeepsFrames p q = (space page : ℕ) → HasPlace p space page → HasPlace q space page

-- the images in memory are those of these pages
pub record IsShown (p : Frames) (v : ℕ → ℕ → Page) (space page : ℕ) : Type 0 where
  pub whole : IsPage (v space page)
  pub image : image_in p space page ≡ page_bytes (v space page)

abbrev pub Shows : Config → Frames → (ℕ → ℕ → Page) → Type 0
Shows c p v = (space page : ℕ) → has_page c space page ≡ true → IsShown p v space page

-- these records were taken, none of them is out of place, and roll and images are as behind them
pub record HasTaken (c : Config) (b : Fed) (records : List Record) (now : Roll) (p : Frames) : Type 0 where
  pub in_place : first_out b records ≡ None
  pub roll : now ≡ (fed b records).roll
  pub shows : Shows c p (fed b records).pages

-- a first part of these records was taken
pub record HasTakenSome (c : Config) (b : Fed) (records : List Record) (roll : Roll) (p : Frames) : Type 0 where
  pub taken : List Record
  pub left : List Record
  pub parts : records ≡ taken ++ left
  pub so : HasTaken c b taken roll p
