-- What an archive is as it starts, and how many pages it has.
use Rattle.std.specs.List.{list_any, range_with_len}
use Rattle.std.specs.Prelude.{Bool, List, None, Some, [], filter, if◌then◌else◌, length, map, nat_lt, slice_index, sum_by, true, ℕ, ◌+◌, ◌<◌, ◌==◌, ◌≡◌}
use Rattle.ol_values.specs.Config.{Config, data_pages, has_page}
use Rattle.ol_values.specs.declared.event.Reply.{Reply}
use Rattle.ol_model.specs.ArchiveTurns.{start_with}
use Rattle.ol_model.specs.Machine.{Machine, with_lasting}
use Rattle.ol_model.specs.Steps.{make_checkpoint}
use Rattle.ol_cursor.specs.declared.cursor.Cursor.{Cursor}
use Rattle.ol_cursor.specs.Order.{archives}
use Rattle.ol_reserve.specs.declared.anchor.Anchor.{Anchor}
use Rattle.ol_storage.specs.Behind.{is_up}
use Rattle.ol_storage.specs.Installation.{Installation, checkpointed, config_of}
use Rattle.ol_pool.specs.Frames.{frame_of}
use Rattle.ol_store.specs.Pages.{Pages}
use Rattle.ol_store.specs.Stores.{IsBadAt}
use Rattle.ol_txn.specs.Seats.{Seat}
use Rattle.ol_engine.specs.Parts.{last_in, need_of}
use Rattle.ol_archive_start.specs.Refusing.{parent_of}

-- ---- its cursor

-- whether each of 16 spaces is among these
unfoldable pub named_of : List ℕ → List Bool
named_of spaces = map (λ i. list_any (λ s. s == i) spaces) (range_with_len 0 16)

-- the base of each of 16 spaces, which is the cut of the archive from which one of this level goes on
unfoldable pub bases_of : Anchor → ℕ → List ℕ
bases_of a level = map (λ i. (parent_of a level i).1) (range_with_len 0 16)

-- the cursor of an archive that starts now, with so many pages
abbrev pub cursor_begun : Installation → List Seat → ℕ → List ℕ → ℕ → Cursor
cursor_begun v seats level spaces left = record {
  number = v.anchor.next_archive;
  level = level;
  cut = last_in v;
  low = need_of v seats;
  spaces = named_of spaces;
  bases = bases_of v.anchor level;
  next = (0, 0);
  left = left;
}

-- ---- its pages

-- how many of the first pages of a space were changed above a base
abbrev pub changed_upto : Pages → ℕ → ℕ → ℕ → ℕ
changed_upto v space base pages = length (filter (λ p. nat_lt base (v.now space p).stamp) (range_with_len 0 pages))

-- how many of a space: none where the space is not one of the archive's
abbrev pub changed_in : Pages → Config → Cursor → ℕ → ℕ
changed_in v c cursor space = if archives cursor space then changed_upto v space (slice_index cursor.bases space) (data_pages c space) else 0

-- how many of the first spaces
abbrev pub changed_of : Pages → Config → Cursor → ℕ → ℕ
changed_of v c cursor spaces = sum_by (changed_in v c cursor) (range_with_len 0 spaces)

-- a page that is not in memory stands at this bad place of the disk
abbrev pub IsBadIn : Installation → ℕ → ℕ → Type 0
IsBadIn v chunk at = (space : ℕ) × (page : ℕ) × (has_page (config_of v) space page ≡ true) × IsBadAt v.store space page chunk at

-- a page is not in memory
abbrev pub HasUnread : Installation → Type 0
HasUnread v = (space : ℕ) × (page : ℕ) × (has_page (config_of v) space page ≡ true) × (frame_of v.store.pool space page ≡ None)

-- its spaces are there and up
abbrev pub AreThere : Installation → Cursor → Type 0
AreThere v cursor = (space : ℕ) → archives cursor space ≡ true → (space < length (config_of v).spaces) × (is_up v.anchor space ≡ true)

-- ---- its checkpoint

-- the anchor of the checkpoint at which it starts: the next archive gets the next number
abbrev pub anchor_started : Installation → List Seat → Anchor
anchor_started v seats = (checkpointed v (need_of v seats) (v.anchor.next_archive + 1) []).anchor

-- the machine with a checkpoint, behind which the next archive gets the next number
abbrev pub checkpoint_started : Machine → Machine
checkpoint_started m = with_lasting (record m.lasting { next_archive = m.lasting.next_archive + 1 }) (make_checkpoint m)

-- the turn
abbrev pub start_turn : Machine → ℕ → ℕ → List ℕ → Reply × Machine
start_turn m k level spaces = start_with m k level (Some spaces)
