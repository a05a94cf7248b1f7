-- The state of the engine between two turns, and what is read off it.
use Rattle.std.specs.List.{range_with_len}
use Rattle.std.specs.Prelude.{List, None, Option, [], drop, find, is_none, length, map, replicate, slice_index_or, slice_set, take, ℕ, ◌%◌, ◌*◌, ◌++◌, ◌-◌, ◌/◌, ◌∷◌}
use Rattle.ol_values.specs.declared.record.Record.{Record}
use Rattle.ol_values.specs.declared.record.Rid.{Rid}
use Rattle.ol_values.specs.Config.{Config, data_pages}
use Rattle.ol_values.specs.Pages.{rid_of}
use Rattle.ol_rules.specs.Journal.{row_at}
use Rattle.ol_values.specs.Blocks.{Saved}
use Rattle.ol_rules.specs.Saveset.{places}

-- what no turn changes
pub record Fixed : Type 0 where
  pub config : Config
  pub incarnation : ℕ

-- a session: the number of its open transaction, and its registers r0 to r9
pub record Seat : Type 0 where
  pub txn : Option ℕ
  pub registers : List (Option Rid)

-- what the sessions work on
pub record Work : Type 0 where
  pub journal : List Record
  pub sessions : List Seat

-- a running archive: its cut is the journal's length as it began, its low the least number of a transaction open then, and so many of its pages have passed
pub record Archive : Type 0 where
  pub number : ℕ
  pub level : ℕ
  pub cut : ℕ
  pub low : ℕ
  pub spaces : List Saved
  pub passed : ℕ

pub record Machine : Type 0 where
  pub fixed : Fixed
  pub work : Work
  pub next_archive : ℕ
  -- the running archive of each archiver
  pub archives : List (Option Archive)

abbrev pub no_seat : Seat
no_seat = record { txn = None; registers = replicate 10 None }

-- the machine on a newly formatted disk: incarnation 1, the empty journal, and 1 as the next archive's number
abbrev pub formatted : Config → Machine
formatted c = record {
  fixed = record { config = c; incarnation = 1 };
  work = record { journal = []; sessions = replicate 16 no_seat };
  next_archive = 1;
  archives = replicate 4 None;
}

-- ---- the journal and the sessions

abbrev pub config_of : Machine → Config
config_of m = m.fixed.config

abbrev pub journal_in : Machine → List Record
journal_in m = m.work.journal

-- the position of the last record
abbrev pub last_of : Machine → ℕ
last_of m = length m.work.journal

abbrev pub with_record : Record → Machine → Machine
with_record r m = record m { work = record m.work { journal = m.work.journal ++ r ∷ [] } }

-- session k, from 1
abbrev pub seat_of : Machine → ℕ → Seat
seat_of m k = slice_index_or m.work.sessions (k - 1) no_seat

abbrev pub with_seat : ℕ → Seat → Machine → Machine
with_seat k s m = record m { work = record m.work { sessions = slice_set m.work.sessions (k - 1) s } }

-- all slots of a space, in order of page and slot
abbrev pub slots_of : Config → ℕ → List Rid
slots_of c space = map (λ i. rid_of space (i / 31) (i % 31)) (range_with_len 0 (data_pages c space * 31))

-- the least slot of a space that holds nothing
unfoldable pub first_free : Config → List Record → ℕ → Option Rid
first_free c journal space = find (λ r. is_none (row_at journal r)) (slots_of c space)

-- ---- the archives

-- the running archive of archiver k, from 1
abbrev pub archive_of : Machine → ℕ → Option Archive
archive_of m k = slice_index_or m.archives (k - 1) None

abbrev pub with_archive : ℕ → Option Archive → Machine → Machine
with_archive k a m = record m { archives = slice_set m.archives (k - 1) a }

-- the pages of an archive, and those that have not passed
abbrev pub pages_of : Machine → Archive → List (ℕ × ℕ)
pages_of m a = places (config_of m) (take a.cut (journal_in m)) a.spaces

abbrev pub left_of : Machine → Archive → List (ℕ × ℕ)
left_of m a = drop a.passed (pages_of m a)
