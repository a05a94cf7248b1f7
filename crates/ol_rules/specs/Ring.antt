-- The ring of log files: its uses, the packing of records into pages, closing, reuse, and what is free.
use Rattle.std.specs.List.{last_or, range_with_len}
use Rattle.std.specs.Prelude.{Bool, List, None, Option, Some, [], false, filter, find, flat_map, if◌then◌else◌, is_none, length, map, nat_le, nat_lt, not, option_map, position, slice_get, slice_index_or, take_while, true, unwrap_or, ℕ, ◌%◌, ◌&&◌, ◌*◌, ◌++◌, ◌+◌, ◌-◌, ◌==◌, ◌||◌, ◌∷◌}
use Rattle.ol_values.specs.declared.record.Record.{Record}
use Rattle.ol_values.specs.Config.{Config}
use Rattle.ol_values.specs.LogPages.{log_room, record_length, records_length}

-- a written log page: its place in its file from 0, and the positions of its records
pub record LogRange : Type 0 where
  pub index : ℕ
  pub first : ℕ
  pub count : ℕ

-- one use of a file, with its unique number and its written pages; switched where it was closed before all its pages were written
pub record Use : Type 0 where
  pub uniq : ℕ
  pub pages : List LogRange
  pub switched : Bool

-- the uses that stand, in order of their unique numbers; the unique number of the current file; the records not yet written
pub record Ring : Type 0 where
  pub uses : List Use
  pub uniq : ℕ
  pub buffer : List Record

-- what may be reused: the uses up to one are backed up, and no position below one is needed from the last checkpoint on
pub record Reuse : Type 0 where
  pub backed : ℕ
  pub need : ℕ

abbrev pub empty_ring : Ring
empty_ring = record { uses = []; uniq = 1; buffer = [] }

abbrev pub no_range : LogRange
no_range = record { index = 0; first = 0; count = 0 }

-- the last written page of a use
abbrev pub last_range : Use → LogRange
last_range u = unwrap_or (last_or None u.pages) no_range

-- the position of the last record of a page
abbrev pub last_of_range : LogRange → ℕ
last_of_range p = p.first + p.count - 1

-- the positions of the first and the last record of a use
abbrev pub first_position : Use → ℕ
first_position u = (slice_index_or u.pages 0 no_range).first

abbrev pub last_position : Use → ℕ
last_position u = last_of_range (last_range u)

-- the file in which the use of this unique number stands
abbrev pub file_of : Config → ℕ → ℕ
file_of c uniq = (uniq - 1) % c.log_files

abbrev pub use_numbered : Ring → ℕ → Option Use
use_numbered r uniq = find (λ (u : Use). u.uniq == uniq) r.uses

abbrev pub use_in_file : Config → Ring → ℕ → Option Use
use_in_file c r file = find (λ (u : Use). file_of c u.uniq == file) r.uses

-- how many pages of a use's file are not written
abbrev pub unwritten : Config → Use → ℕ
unwritten c u = c.log_file_pages - 1 - (last_range u).index

-- a use is closed where all pages of its file are written, after a switch, and where a later one is current
abbrev pub is_closed : Config → Ring → Use → Bool
is_closed c r u = u.switched || (nat_lt u.uniq r.uniq || (unwritten c u == 0))

abbrev pub is_backed : Reuse → Use → Bool
is_backed m u = nat_le u.uniq m.backed

-- a file may be used again where no use stands in it, or its use is backed up and ends below the need of the last checkpoint
abbrev pub may_reuse : Reuse → Option Use → Bool
may_reuse m None = true
may_reuse m (Some u) = is_backed m u && nat_lt (last_position u) m.need

abbrev pub is_reusable : Config → Reuse → Ring → ℕ → Bool
is_reusable c m r file = may_reuse m (use_in_file c r file)

-- the files after the current one, in ring order
abbrev pub next_files : Config → Ring → List ℕ
next_files c r = map (λ k. (file_of c r.uniq + k) % c.log_files) (range_with_len 1 (c.log_files - 1))

-- the pages of the reusable files that follow the current one without a gap
abbrev pub following : Config → Reuse → Ring → ℕ
following c m r = c.log_file_pages * length (take_while (is_reusable c m r) (next_files c r))

-- the unwritten pages of the current file, where a use stands in it, and those that follow
abbrev pub room_after : Config → Reuse → Ring → Option Use → ℕ
room_after c m r None = if is_reusable c m r (file_of c r.uniq) then c.log_file_pages + following c m r else 0
room_after c m r (Some u) = if is_closed c r u then following c m r else unwritten c u + following c m r

-- the log pages that are not written and may be
abbrev pub room : Config → Reuse → Ring → ℕ
room c m r = room_after c m r (use_numbered r r.uniq)

-- one page where a record is buffered
abbrev pub held : Ring → ℕ
held r = if is_none (slice_get r.buffer 0) then 0 else 1

-- the log pages that may still be written
abbrev pub free : Config → Reuse → Ring → ℕ
free c m r = room c m r - held r

-- the unique number of the use in a file, or the current one
abbrev pub uniq_in : Config → Ring → ℕ → ℕ
uniq_in c r file = unwrap_or (option_map (λ (u : Use). u.uniq) (use_in_file c r file)) r.uniq

-- the uniq of the first file after the current one that may not be reused, or the current one where all others may
abbrev pub blocker : Config → Reuse → Ring → ℕ
blocker c m r = unwrap_or (option_map (uniq_in c r) (find (λ file. not (is_reusable c m r file)) (next_files c r))) r.uniq

-- what is free after a flush and a switch
abbrev pub free_after_switch : Config → Reuse → Ring → ℕ
free_after_switch c m r = following c m r

-- ---- writing

abbrev pub without_file : Config → ℕ → List Use → List Use
without_file c file uses = filter (λ (u : Use). not (file_of c u.uniq == file)) uses

-- the first page of a new use, which takes its file over
abbrev pub open_use : Config → Ring → ℕ → ℕ → ℕ → Ring
open_use c r uniq first count = record r {
  uniq = uniq;
  uses = without_file c (file_of c uniq) r.uses ++ (let u : Use = record { uniq = uniq; pages = (let p : LogRange = record { index = 0; first = first; count = count } in p ∷ []); switched = false } in u ∷ []);
}

-- a use with one page more
abbrev pub with_range : ℕ → ℕ → Use → Use
with_range first count u = record u { pages = u.pages ++ (let p : LogRange = record { index = (last_range u).index + 1; first = first; count = count } in p ∷ []) }

abbrev pub at_use : ℕ → (Use → Use) → Ring → Ring
at_use uniq f r = record r { uses = map (λ (u : Use). if u.uniq == uniq then f u else u) r.uses }

-- a page with these positions, in the current file where that is open, else in the next one
abbrev pub with_page_in : Config → Ring → Option Use → ℕ → ℕ → Ring
with_page_in c r None first count = open_use c r r.uniq first count
with_page_in c r (Some u) first count =
    if is_closed c r u then open_use c r (r.uniq + 1) first count else at_use r.uniq (with_range first count) r

-- the buffered records, of which the last has this position, are written as a page
abbrev pub written : Config → Ring → ℕ → Ring
written c r last =
    record (with_page_in c r (use_numbered r r.uniq) (last + 1 - length r.buffer) (length r.buffer)) { buffer = [] }

-- all buffered records are written
abbrev pub flushed : Config → Ring → ℕ → Ring
flushed c r last = if held r == 0 then r else written c r last

-- one record more, after this last position: where it does not fit, the buffered ones are written before
abbrev pub logged : Config → Ring → ℕ → Record → Ring
logged c r last rec =
    let fits = nat_le (records_length r.buffer + record_length rec) log_room in
    let s = (if fits then r else written c r last) in
    record s { buffer = s.buffer ++ rec ∷ [] }

-- the current file is closed
abbrev pub switched_off : Ring → Ring
switched_off r = at_use r.uniq (λ (u : Use). record u { switched = true }) r

-- the least closed use that is not backed up
abbrev pub to_back_up : Config → Reuse → Ring → Option Use
to_back_up c m r = find (λ (u : Use). is_closed c r u && not (is_backed m u)) r.uses

abbrev pub holds_position : ℕ → LogRange → Bool
holds_position position p = nat_le p.first position && nat_lt position (p.first + p.count)

-- the written page that holds a position
abbrev pub page_of : Ring → ℕ → Option LogRange
page_of r position = find (holds_position position) (flat_map (λ (u : Use). u.pages) r.uses)
