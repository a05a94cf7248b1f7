-- The state of the engine between two turns, and what is read off it.
use Rattle.std.specs.List.{list_any, range_with_len}
use Rattle.std.specs.Prelude.{Bool, List, None, Option, Some, [], drop, false, filter, find, is_none, length, map, nat_lt, not, option_map, position, replicate, slice_index_or, slice_set, sum_by, unwrap_or, ℕ, ◌%◌, ◌&&◌, ◌*◌, ◌++◌, ◌+◌, ◌-◌, ◌/◌, ◌==◌, ◌^◌, ◌||◌, ◌∷◌}
use Rattle.ol_values.specs.declared.record.Record.{Record}
use Rattle.ol_values.specs.declared.record.Rid.{Rid}
use Rattle.ol_values.specs.declared.row.Row.{Row}
use Rattle.ol_values.specs.Blocks.{Saved}
use Rattle.ol_values.specs.Config.{Config, data_pages}
use Rattle.ol_values.specs.Pages.{Page, rid_of}
use Rattle.ol_rules.specs.Journal.{same_place}
use Rattle.ol_rules.specs.Lasting.{Lasting, SpaceState, new_lasting}
use Rattle.ol_rules.specs.Ring.{Reuse, Ring, empty_ring, free}
use Rattle.ol_rules.specs.Start.{Start, last_behind, low_behind, new_start, page_behind, row_behind, stamp_behind, txns_behind, upto}
use Rattle.ol_rules.specs.Transactions.{Txn, owed, txn_numbered}

-- ---- its parts

-- what no turn changes: the configuration, and the journal's length at the end of the opening
pub record Fixed : Type 0 where
  pub config : Config
  pub opened : ℕ

-- a session: the number of its open transaction, the slots that it shares, and its registers r0 to r9
pub record Seat : Type 0 where
  pub txn : Option ℕ
  pub shares : List Rid
  pub registers : List (Option Rid)

-- what the sessions work on: what the opening read, the records since, and the sessions
pub record Work : Type 0 where
  pub start : Start
  pub records : List Record
  pub sessions : List Seat

-- the log file that is backed up, by its unique number, and how many of its pages were copied
pub record Picking : Type 0 where
  pub uniq : ℕ
  pub copied : ℕ

-- the ring of log files, and the file that is backed up
pub record Log : Type 0 where
  pub ring : Ring
  pub picking : Option Picking

-- the last checkpoint: its position, its need, and the pages touched since
pub record LastCheckpoint : Type 0 where
  pub position : ℕ
  pub need : ℕ
  pub touched : List (ℕ × ℕ)

-- a running archive: its cut is the last position as it began, its low the least number of a transaction open then; so many of its pages have passed; broken by the entry that would have kept an image too many
pub record Archive : Type 0 where
  pub number : ℕ
  pub level : ℕ
  pub cut : ℕ
  pub low : ℕ
  pub spaces : List Saved
  pub passed : ℕ
  pub broken : Option ℕ

-- the space of the warm restore under way, and how many of its pages were put
pub record Warming : Type 0 where
  pub space : ℕ
  pub put : ℕ

pub record Machine : Type 0 where
  pub fixed : Fixed
  pub work : Work
  pub lasting : Lasting
  pub log : Log
  pub checkpoint : LastCheckpoint
  -- the running archive of each archiver
  pub archives : List (Option Archive)
  pub warm : Option Warming
  -- the entry that stopped the engine
  pub stopped : Option ℕ

abbrev pub no_seat : Seat
no_seat = record { txn = None; shares = []; registers = replicate 10 None }

-- the machine that the opening of a newly formatted disk leaves
abbrev pub formatted : Config → Machine
formatted c = record {
  fixed = record { config = c; opened = 0 };
  work = record { start = new_start c; records = []; sessions = replicate 16 no_seat };
  lasting = new_lasting c;
  log = record { ring = empty_ring; picking = None };
  checkpoint = record { position = 0; need = 1; touched = [] };
  archives = replicate 4 None;
  warm = None;
  stopped = None;
}

-- ---- the journal

abbrev pub config_of : Machine → Config
config_of m = m.fixed.config

-- the position of the last record
abbrev pub last_of : Machine → ℕ
last_of m = last_behind m.work.start m.work.records

-- what a place holds
abbrev pub row_in : Machine → Rid → Option Row
row_in m rid = row_behind m.work.start m.work.records rid

-- a page's stamp
abbrev pub stamp_in : Machine → ℕ → ℕ → ℕ
stamp_in m space page = stamp_behind m.work.start m.work.records space page

-- a page's stamp, and a page, as at a position
abbrev pub stamp_upto : Machine → ℕ → ℕ → ℕ → ℕ
stamp_upto m position space page = stamp_behind m.work.start (upto m.work.start m.work.records position) space page

abbrev pub page_upto : Machine → ℕ → ℕ → ℕ → Page
page_upto m position space page = page_behind m.work.start (upto m.work.start m.work.records position) space page

-- the open transactions
abbrev pub txns_in : Machine → List Txn
txns_in m = txns_behind m.work.start m.work.records

-- the least number of an open transaction, else the position after the last
abbrev pub low_in : Machine → ℕ
low_in m = low_behind m.work.start m.work.records

-- ---- sessions

-- session k, from 1
abbrev pub seat_of : Machine → ℕ → Seat
seat_of m k = slice_index_or m.work.sessions (k - 1) no_seat

abbrev pub with_seat : ℕ → Seat → Machine → Machine
with_seat k s m = record m { work = record m.work { sessions = slice_set m.work.sessions (k - 1) s } }

abbrev pub txn_of : Machine → Option ℕ → Option Txn
txn_of m None = None
txn_of m (Some n) = txn_numbered n (txns_in m)

-- the open transaction of session k
abbrev pub txn_at : Machine → ℕ → Option Txn
txn_at m k = txn_of m (seat_of m k).txn

-- its changes that are not taken back
abbrev pub pending_at : Machine → ℕ → List (Rid × Option Row)
pending_at m k = unwrap_or (option_map (λ (t : Txn). t.pending) (txn_at m k)) []

-- ---- locks

-- whether session k owns a slot, or shares it
abbrev pub owns : Machine → ℕ → Rid → Bool
owns m k rid = list_any (same_place rid) (unwrap_or (option_map (λ (t : Txn). t.changed) (txn_at m k)) [])

abbrev pub shares : Machine → ℕ → Rid → Bool
shares m k rid = list_any (same_place rid) (seat_of m k).shares

abbrev pub all_sessions : List ℕ
all_sessions = range_with_len 1 16

-- the least other session in conflict with session k, which would own the slot, or else share it
abbrev pub holder : Machine → ℕ → Bool → Rid → Option ℕ
holder m k own rid = find (λ j. not (j == k) && (owns m j rid || (own && shares m j rid))) all_sessions

abbrev pub is_locked : Machine → Rid → Bool
is_locked m rid = list_any (λ j. owns m j rid || shares m j rid) all_sessions

-- all slots of a space, in order of page and slot
abbrev pub slots_of : Config → ℕ → List Rid
slots_of c space = map (λ i. rid_of space (i / 31) (i % 31)) (range_with_len 0 (data_pages c space * 31))

-- the least slot of a space that is empty and carries no lock
unfoldable pub first_free : Machine → ℕ → Option Rid
first_free m space = find (λ r. is_none (row_in m r) && not (is_locked m r)) (slots_of (config_of m) space)

-- ---- the log

abbrev pub reuse_of : Machine → Reuse
reuse_of m = record { backed = m.lasting.backed; need = m.checkpoint.need }

abbrev pub with_ring : Ring → Machine → Machine
with_ring r m = record m { log = record m.log { ring = r } }

abbrev pub with_picking : Option Picking → Machine → Machine
with_picking p m = record m { log = record m.log { picking = p } }

-- what the open transactions owe
abbrev pub owed_in : Machine → ℕ
owed_in m = owed (txns_in m)

-- whether the log has no room for a record more and what is owed then
abbrev pub logs_full : Machine → Bool
logs_full m = nat_lt (free (config_of m) (reuse_of m) m.log.ring) (owed_in m + 2)

-- whether the journal has none: at most 2^20 records since the opening, and positions up to 2^62
abbrev pub journal_full : Machine → Bool
journal_full m =
    nat_lt 1048576 (last_of m - m.fixed.opened + owed_in m + 2) || nat_lt (2 ^ 62) (last_of m + 1 + owed_in m + 2)

-- ---- spaces and archives

abbrev pub with_lasting : Lasting → Machine → Machine
with_lasting l m = record m { lasting = l }

-- the running archive of archiver k, from 1
abbrev pub archive_of : Machine → ℕ → Option Archive
archive_of m k = slice_index_or m.archives (k - 1) None

abbrev pub with_archive : ℕ → Option Archive → Machine → Machine
with_archive k a m = record m { archives = slice_set m.archives (k - 1) a }

abbrev pub has_space : ℕ → Archive → Bool
has_space space a = list_any (λ (s : Saved). s.space == space) a.spaces

abbrev pub archives_space : ℕ → Option Archive → Bool
archives_space space None = false
archives_space space (Some a) = has_space space a

-- the archiver whose running archive holds a space
abbrev pub archiver_of : Machine → ℕ → Option ℕ
archiver_of m space = option_map (λ i. i + 1) (position (archives_space space) m.archives)
