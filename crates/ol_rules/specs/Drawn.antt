-- The pages of a space that is down, as its archives, the logs on tape and the records on disk give them.
use Rattle.std.specs.List.{last_or}
use Rattle.std.specs.Prelude.{Err, List, None, Ok, Option, Result, Some, [], filter_map, flat_map, if◌then◌else◌, map, nat_le, nat_lt, slice_get, unwrap_or, ℕ, ◌+◌, ◌-◌, ◌++◌, ◌∷◌}
use Rattle.ol_values.specs.declared.event.Reply.{Reply}
use Rattle.ol_values.specs.declared.record.Record.{Record}
use Rattle.ol_values.specs.Blocks.{Block, LogHeld, PageHeld, Payload, SavedPage}
use Rattle.ol_values.specs.Pages.{Page, blank}
use Rattle.ol_rules.specs.Journal.{page_from}
use Rattle.ol_rules.specs.Plan.{chain_of, log_at, needed, short_of}
use Rattle.ol_rules.specs.Saveset.{lay}
use Rattle.ol_rules.specs.Shelf.{Object, Placed, Shelf}
use Rattle.ol_rules.specs.Start.{Start}

abbrev pub saved_payload : ℕ → ℕ → Payload → List SavedPage
saved_payload space page (PageHeld image) = record { space = space; page = page; image = image } ∷ []
saved_payload space page _ = []

abbrev pub saved_item : Option Block → List SavedPage
saved_item None = []
saved_item (Some b) = saved_payload b.a b.b b.payload

-- the pages that an archive object holds
abbrev pub saved_pages : Object → List SavedPage
saved_pages o = flat_map (λ (p : Placed). saved_item p.item) o.span

abbrev pub record_in_payload : ℕ → Payload → Option Record
record_in_payload position (LogHeld page) = if nat_le page.first position then slice_get page.records (position - page.first) else None
record_in_payload position _ = None

abbrev pub record_in_item : ℕ → Option Block → Option Record
record_in_item position None = None
record_in_item position (Some b) = record_in_payload position b.payload

-- the record of a position that a log object holds
abbrev pub record_on : ℕ → Option Object → Option Record
record_on position None = None
record_on position (Some o) = slice_get (filter_map (λ (p : Placed). record_in_item position p.item) o.span) 0

-- the record of a position that the disk has
abbrev pub record_behind : Start → List Record → ℕ → Option Record
record_behind s records position = if nat_le s.first position then slice_get (s.kept ++ records) (position - s.first) else None

-- below the least needed position that the shelf lacks the record is that of the log object that the plan takes, from there on that of the disk
abbrev pub record_drawn : Shelf → Start → List Record → Option ℕ → ℕ → Option Record
record_drawn shelf s records None position = record_on position (log_at shelf position)
record_drawn shelf s records (Some short) position =
    if nat_lt position short then record_on position (log_at shelf position) else record_behind s records position

abbrev pub drawn_over : Shelf → Start → List Record → ℕ → ℕ → ℕ → List Object → Page
drawn_over shelf s records end_ space page [] = blank
drawn_over shelf s records end_ space page (o ∷ chain) =
    let last = unwrap_or (last_or None (o ∷ chain)) o in
    let short = short_of shelf last.head.b end_ in
    page_from (lay (map saved_pages (o ∷ chain)) space page) (last.head.a + 1)
    (filter_map (record_drawn shelf s records short) (needed (last.head.a + 1) end_)) space page

abbrev pub drawn_by : Shelf → Start → List Record → ℕ → ℕ → ℕ → Result (List Object) Reply → Page
drawn_by shelf s records end_ space page (Err refusal) = blank
drawn_by shelf s records end_ space page (Ok chain) = drawn_over shelf s records end_ space page chain

-- a page of a space as at this position: what its chain lays, and the records of the page above the chain's last cut up to there
abbrev pub drawn : Shelf → Start → List Record → ℕ → ℕ → ℕ → Page
drawn shelf s records end_ space page = drawn_by shelf s records end_ space page (chain_of shelf end_ space)
