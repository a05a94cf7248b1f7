-- What slots hold, by the records that the pages have and the table of locks.
use Rattle.std.specs.Prelude.{Bool, List, None, Option, Some, false, is_none, is_some, not, slice_index_or, true, ℕ, ◌&&◌, ◌<◌, ◌≡◌}
use Rattle.ol_values.specs.declared.record.Rid.{Rid}
use Rattle.ol_values.specs.declared.row.Row.{Row as RowValue}
use Rattle.ol_values.specs.Config.{Config, has_place}
use Rattle.ol_values.specs.Pages.{rid_of}
use Rattle.ol_rules.specs.Locks.{Holding, is_locked}
use Rattle.ol_rules.specs.Start.{page_behind, upto}
use Rattle.ol_pool.specs.Frames.{Frames, frame_of}
use Rattle.ol_storage.specs.Behind.{Behind}
use Rattle.ol_storage.specs.Installation.{Installation, with_store}
use Rattle.ol_free_slots.specs.declared.look.Look.{Look}
use Rattle.ol_free_slots.specs.declared.look.Look.TheVariants.{Free as FreeAt, Full, Locked as AllLocked}
use Rattle.ol_free_slots.specs.declared.slots.Slot.{Slot}
use Rattle.ol_free_slots.specs.declared.slots.Slot.TheVariants.{Free, Locked, Row}

-- what each place holds
abbrev pub Rows : Type 0
Rows = Rid → Option RowValue

-- what each session holds
abbrev pub Table : Type 0
Table = List (Option Holding)

-- what places hold, by the records that the pages have
abbrev pub rows_of : Behind → Rows
rows_of g rid = slice_index_or (page_behind g.start (upto g.start g.records g.reached) rid.space rid.page).slots rid.slot None

-- ---- one slot

-- what a slot with this row is, and perhaps with a lock
abbrev pub slot_of : Option RowValue → Bool → Slot
slot_of (Some row) locked = Row
slot_of None true = Locked
slot_of None false = Free

-- whether it is empty and carries no lock
abbrev pub is_free_slot : Slot → Bool
is_free_slot Free = true
is_free_slot _ = false

-- whether a page that is full up to a slot is so with it
abbrev pub keeps_full : Slot → Bool → Bool
keeps_full Row full = full
keeps_full _ full = false

-- whether a place is empty and carries no lock
abbrev pub is_free : Rows → Table → Rid → Bool
is_free rows table rid = is_none (rows rid) && not (is_locked table rid)

-- ---- one page

-- one of so many slots of a page holds no row
abbrev pub HasEmpty : Rows → ℕ → ℕ → ℕ → Type 0
HasEmpty rows space page count = (slot : ℕ) × (slot < count) × (is_none (rows (rid_of space page slot)) ≡ true)

-- none of so many slots of a page is free; where they are told to be full each holds a row, and else one holds none
pub record AreTaken (rows : Rows) (table : Table) (space page count : ℕ) (full : Bool) : Type 0 where
  pub none : (slot : ℕ) → slot < count → is_free rows table (rid_of space page slot) ≡ false
  pub filled : full ≡ true → (slot : ℕ) → slot < count → is_some (rows (rid_of space page slot)) ≡ true
  pub empty : full ≡ false → HasEmpty rows space page count

-- the least free slot of a page
pub record IsLeast (rows : Rows) (table : Table) (space page slot : ℕ) : Type 0 where
  pub small : slot < 31
  pub free : is_free rows table (rid_of space page slot) ≡ true
  pub none : (k : ℕ) → k < slot → is_free rows table (rid_of space page k) ≡ false

-- what a look at a page tells
abbrev pub IsTold : Rows → Table → ℕ → ℕ → Look → Type 0
IsTold rows table space page (FreeAt slot) = IsLeast rows table space page slot
IsTold rows table space page Full = AreTaken rows table space page 31 true
IsTold rows table space page AllLocked = AreTaken rows table space page 31 false

-- the look at a page without a free slot
abbrev pub look_of : Bool → Look
look_of true = Full
look_of false = AllLocked

-- the free slot that a look found
abbrev pub free_slot : Look → Option ℕ
free_slot (FreeAt slot) = Some slot
free_slot _ = None

-- ---- the storage

-- no part but the pages in memory has changed, and those that were there are as they were
pub record IsRead (v w : Installation) : Type 0 where
  pub step : w ≡ with_store v w.store
  pub log : w.store.log ≡ v.store.log
  pub before : w.store.before ≡ v.store.before
  pub config : w.store.config ≡ v.store.config
  pub frames : (space page : ℕ) (bytes : List ℕ) → frame_of v.store.pool space page ≡ Some bytes → frame_of w.store.pool space page ≡ Some bytes

-- a place is one of a space, and its page is in memory
abbrev pub IsPlaced : Config → Frames → ℕ → Rid → Type 0
IsPlaced c pool space rid = (has_place c rid ≡ true) × (rid.space ≡ space) × ((bytes : List ℕ) × (frame_of pool rid.space rid.page ≡ Some bytes))
