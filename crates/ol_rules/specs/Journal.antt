-- The journal is the list of all records; position k is its k-th, from 1. What places and pages hold after it, each folded from a start.
use Rattle.std.specs.List.{enumerate_from, range_with_len}
use Rattle.std.specs.Prelude.{Bool, List, None, Option, false, fold, if◌then◌else◌, map, slice_index_or, ℕ, ◌&&◌, ◌==◌}
use Rattle.ol_values.specs.declared.record.Record.{Record}
use Rattle.ol_values.specs.declared.record.Record.TheVariants.{Begin as BeginRecord, Change, Commit as CommitRecord, Rolled, Undo}
use Rattle.ol_values.specs.declared.record.Rid.{Rid}
use Rattle.ol_values.specs.declared.row.Row.{Row}
use Rattle.ol_values.specs.Pages.{Page, blank, rid_of}

-- ---- rows

-- whether two places are one
abbrev pub same_place : Rid → Rid → Bool
same_place a b = (a.space == b.space) && ((a.page == b.page) && (a.slot == b.slot))

-- what a place holds after a record
abbrev pub row_after : Rid → Option Row → Record → Option Row
row_after place held (BeginRecord txn) = held
row_after place held (Change txn rid before after) = if same_place rid place then after else held
row_after place held (Undo txn rid value) = if same_place rid place then value else held
row_after place held (CommitRecord txn) = held
row_after place held (Rolled txn) = held

-- what a place that held this holds after these records
abbrev pub row_from : Option Row → List Record → Rid → Option Row
row_from held records place = fold (row_after place) held records

-- what a place holds after the journal, before which no place holds anything
abbrev pub row_at : List Record → Rid → Option Row
row_at journal place = row_from None journal place

-- ---- stamps

-- whether a record changes a page
abbrev pub touches : ℕ → ℕ → Record → Bool
touches space page (BeginRecord txn) = false
touches space page (Change txn rid before after) = (rid.space == space) && (rid.page == page)
touches space page (Undo txn rid value) = (rid.space == space) && (rid.page == page)
touches space page (CommitRecord txn) = false
touches space page (Rolled txn) = false

-- a page's stamp after the record at this position
abbrev pub stamp_after : ℕ → ℕ → ℕ → ℕ × Record → ℕ
stamp_after space page stamp r = if touches space page r.1 then r.0 else stamp

-- a page's stamp after these records, of which the first has this position
abbrev pub stamp_from : ℕ → ℕ → List Record → ℕ → ℕ → ℕ
stamp_from stamp first records space page = fold (stamp_after space page) stamp (enumerate_from first records)

-- the greatest position of a record that changes the page, or 0
abbrev pub stamp_at : List Record → ℕ → ℕ → ℕ
stamp_at journal space page = stamp_from 0 1 journal space page

-- ---- pages

-- a page after these records, of which the first has this position
unfoldable pub page_from : Page → ℕ → List Record → ℕ → ℕ → Page
page_from base first records space page = record {
  stamp = stamp_from base.stamp first records space page;
  slots = map (λ k. row_from (slice_index_or base.slots k None) records (rid_of space page k)) (range_with_len 0 31);
}

-- a page after the journal
abbrev pub page_at : List Record → ℕ → ℕ → Page
page_at journal space page = page_from blank 1 journal space page
