-- What an opening reads, from which all later facts are folded: the records that still stand on log pages, and the pages at the checkpoint. Nobody in the engine knows the journal from its first record on.
use Rattle.std.specs.List.{range_with_len}
use Rattle.std.specs.Prelude.{Bool, List, None, Option, [], drop, length, map, replicate, slice_index_or, suc, take, true, ℕ, ◌++◌, ◌+◌, ◌-◌, ◌<◌, ◌≡◌, ◌≤◌}
use Rattle.ol_values.specs.declared.record.Record.{Record}
use Rattle.ol_values.specs.declared.record.Rid.{Rid}
use Rattle.ol_values.specs.declared.row.Row.{Row}
use Rattle.ol_values.specs.Config.{Config, data_pages}
use Rattle.ol_values.specs.LogPages.{records_at}
use Rattle.ol_values.specs.Pages.{Page, blank}
use Rattle.ol_rules.specs.Journal.{page_at, page_from, row_from, stamp_from}
use Rattle.ol_rules.specs.Sound.{Before, SoundFrom}
use Rattle.ol_rules.specs.Transactions.{Txn, low_at, low_of, txns_from}

-- the position of the first record that stands on the log pages (last + 1 where none does), the records from there on, the checkpoint position, and each page of each space that is up, as at that position; none of a space that is down
pub record Start : Type 0 where
  pub first : ℕ
  pub kept : List Record
  pub last : ℕ
  pub pages : List (List Page)

-- on a newly formatted disk
abbrev pub new_start : Config → Start
new_start c = record {
  first = 1;
  kept = [];
  last = 0;
  pages = map (λ s. replicate (data_pages c s) blank) (range_with_len 0 (length c.spaces));
}

-- a page as the start tells it
abbrev pub start_page : Start → ℕ → ℕ → Page
start_page s space page = slice_index_or (slice_index_or s.pages space []) page blank

-- ---- what records behind the start give

-- the position of the last of them
abbrev pub last_behind : Start → List Record → ℕ
last_behind s records = s.last + length records

-- what a place holds behind them
abbrev pub row_behind : Start → List Record → Rid → Option Row
row_behind s records rid = row_from (slice_index_or (start_page s rid.space rid.page).slots rid.slot None) records rid

-- a page's stamp
abbrev pub stamp_behind : Start → List Record → ℕ → ℕ → ℕ
stamp_behind s records space page = stamp_from (start_page s space page).stamp (s.last + 1) records space page

-- a page
abbrev pub page_behind : Start → List Record → ℕ → ℕ → Page
page_behind s records space page = page_from (start_page s space page) (s.last + 1) records space page

-- the open transactions; those that ended before the checkpoint leave no trace
abbrev pub txns_behind : Start → List Record → List Txn
txns_behind s records = txns_from [] (s.kept ++ records)

-- the least number of an open transaction, else the position after the last
abbrev pub low_behind : Start → List Record → ℕ
low_behind s records = low_of (txns_behind s records) (last_behind s records)

-- what precedes the next record
abbrev pub before_behind : Start → List Record → Before
before_behind s records = record { row = row_behind s records; txns = txns_behind s records; last = last_behind s records }

-- these records are sound behind the start
abbrev pub SoundBehind : Config → Start → List Record → Type 0
SoundBehind c s records = SoundFrom c (before_behind s []) records

-- those up to a position
abbrev pub upto : Start → List Record → ℕ → List Record
upto s records position = take (position - s.last) records

-- so many of the records that stand on log pages or came behind them, from a position on
abbrev pub records_behind : Start → List Record → ℕ → ℕ → List Record
records_behind s records position count = records_at s.first (s.kept ++ records) position count

-- ---- the start of a journal

-- the start is what an opening reads where the journal so far has this checkpoint as its end, for the spaces that are up
pub record IsStartOf (c : Config) (up : ℕ → Bool) (journal : List Record) (s : Start) : Type 0 where
  pub last : s.last ≡ length journal
  pub first : (1 ≤ s.first) × (s.first ≤ s.last + 1)
  pub kept : s.kept ≡ drop (s.first - 1) journal
  pub need : s.first ≤ low_at journal
  pub pages : (space page : ℕ) → up space ≡ true → page < data_pages c space → start_page s space page ≡ page_at journal space page
