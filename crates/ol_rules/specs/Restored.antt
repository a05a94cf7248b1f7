-- What salvage puts on tape, what a shelf has to hold for a journal, and what a cold restore leaves.
use Rattle.std.specs.List.{enumerate_from, list_all, list_any, range_with_len}
use Rattle.std.specs.Prelude.{All, Bool, List, None, Option, Some, [], drop, false, filter, find, flat_map, fold, if◌then◌else◌, is_some, length, map, max, min, nat_le, nat_lt, not, take, true, ℕ, ◌&&◌, ◌++◌, ◌+◌, ◌-◌, ◌==◌, ◌||◌, ◌∷◌, ◌≡◌, ◌≤◌, ◌⊎◌}
use Rattle.ol_values.specs.declared.record.Record.{Record}
use Rattle.ol_values.specs.Blocks.{ArchiveHead, Block, LogHeld, Payload, Saved, SavedPage, archive_end, archive_page, header_kind, log_end, log_records, trailer_kind}
use Rattle.ol_values.specs.Config.{Config, config_text}
use Rattle.ol_values.specs.LogPages.{LogPage, records_at}
use Rattle.ol_rules.specs.Lasting.{Kept, Lasting, SpaceState, none_kept}
use Rattle.ol_rules.specs.Plan.{Chain, Plan, kept_at, is_before, saved_by}
use Rattle.ol_rules.specs.Ring.{LogRange, Ring, Use, first_position, last_position}
use Rattle.ol_rules.specs.Saveset.{saveset}
use Rattle.ol_rules.specs.Shelf.{Object, Placed, Shelf, archives_on, bad_blocks, config_of, counting_archives, end_of, head_of, logs_on, marks_on, objects, reach_of}
use Rattle.ol_rules.specs.Transactions.{low_at, rolled_back}

-- ---- log objects

-- a page of a use, with its records, of which the first has this position
abbrev pub log_page_of : ℕ → List Record → ℕ → ℕ → LogRange → LogPage
log_page_of first records incarnation uniq p = record {
  index = p.index;
  uniq = uniq;
  incarnation = incarnation;
  first = p.first;
  records = records_at first records p.first p.count;
}

-- the blocks of a use: header, its pages, trailer
abbrev pub log_blocks : ℕ → List Record → ℕ → Use → List Block
log_blocks first records incarnation u =
    log_end header_kind incarnation u.uniq 0 (first_position u) (last_position u)
    ∷ map (λ (p : ℕ × LogRange). log_records p.0 (log_page_of first records incarnation u.uniq p.1)) (enumerate_from 1 u.pages)
    ++ log_end trailer_kind incarnation u.uniq (length u.pages + 1) (first_position u) (last_position u) ∷ []

-- what salvage puts on tape: one log object for each use that is not backed up
abbrev pub salvaged : ℕ → List Record → Lasting → Ring → List Block
salvaged first records l r = flat_map (log_blocks first records l.incarnation) (filter (λ (u : Use). nat_lt l.backed u.uniq) r.uses)

-- ---- a shelf fits a journal

-- the blocks of an archive with these pages
abbrev pub archive_blocks_of : ℕ → ℕ → ℕ → ℕ → ℕ → ArchiveHead → Config → List SavedPage → List Block
archive_blocks_of incarnation number cut low level head config pages =
    archive_end header_kind incarnation number 0 cut low level head config
    ∷ map (λ (p : ℕ × SavedPage). archive_page incarnation number p.0 p.1) (enumerate_from 1 pages)
    ++ archive_end trailer_kind incarnation number (length pages + 1) cut low level head config ∷ []

-- whether a block of the span is one that does not belong there
abbrev pub is_bad_in : Object → Placed → Bool
is_bad_in o p = list_any (λ (q : Placed). not (is_before p q || is_before q p)) (bad_blocks o)

-- these blocks stand in the span, but for bad ones
abbrev pub HoldsBlocks : Object → List Placed → List Block → Type 0
HoldsBlocks o [] [] = Unit {0}
HoldsBlocks o (p ∷ span) (b ∷ blocks) = ((is_bad_in o p ≡ true) ⊎ (p.item ≡ Some b)) × HoldsBlocks o span blocks
HoldsBlocks o _ _ = ⊥

abbrev pub head_on : Object → ArchiveHead
head_on o = head_of o.head.payload

-- an archive object holds a saveset of the journal
pub record FitsArchive (c : Config) (journal : List Record) (o : Object) : Type 0 where
  pub cut : o.head.a ≤ length journal
  pub low : o.head.b ≡ low_at (take o.head.a journal)
  pub text : (head_on o).text ≡ config_text c
  pub bases : list_all (λ (s : Saved). nat_le s.base o.head.a) (head_on o).spaces ≡ true
  pub blocks : HoldsBlocks o o.span (archive_blocks_of o.head.incarnation o.head.number o.head.a o.head.b o.head.c (head_on o) (config_of o.head.payload) (saveset c journal (head_on o).spaces o.head.a))

-- the records of a log page at positions up to the last that counts are the journal's
abbrev pub HoldsPage : List Record → ℕ → Payload → Type 0
HoldsPage journal reach (LogHeld page) =
    let count = min (length page.records) (reach + 1 - page.first) in
    take count page.records ≡ records_at 1 journal page.first count
HoldsPage journal reach _ = Unit {0}

abbrev pub HoldsRecords : List Record → ℕ → Option Block → Type 0
HoldsRecords journal reach None = Unit {0}
HoldsRecords journal reach (Some b) = HoldsPage journal reach b.payload

-- a log object holds the records of the journal at the positions that it counts for
pub record FitsLog (shelf : Shelf) (journal : List Record) (o : Object) : Type 0 where
  pub within : o.head.a ≤ reach_of shelf o → reach_of shelf o ≤ length journal
  pub records : All (λ (p : Placed). (is_bad_in o p ≡ true) ⊎ HoldsRecords journal (reach_of shelf o) p.item) o.span

-- the archives that count hold savesets of the journal, and the log objects its records
pub record Fits (c : Config) (shelf : Shelf) (journal : List Record) : Type 0 where
  pub archives : All (FitsArchive c journal) (counting_archives shelf)
  pub logs : All (FitsLog shelf journal) (logs_on shelf)

-- ---- a shelf is whole for a disk

-- a known archive of a space counts on the shelf with its level and cut
abbrev pub is_known_on : Shelf → ℕ → ℕ → Kept → Bool
is_known_on shelf space level kept =
    (kept.number == 0) || list_any (λ (o : Object). (o.head.number == kept.number) && ((o.head.c == level) && ((o.head.a == kept.cut) && is_some (saved_by space o)))) (counting_archives shelf)

abbrev pub are_known_on : Shelf → ℕ × SpaceState → Bool
are_known_on shelf s = is_known_on shelf s.0 0 s.1.zero && is_known_on shelf s.0 1 s.1.one

-- all that the lasting state knows stands on the shelf, and the logs on it reach to the first position that is not backed up: that of the run's first use above the backed number, or the one behind the journal
pub record Whole (shelf : Shelf) (unbacked : ℕ) (l : Lasting) : Type 0 where
  pub known : list_all (are_known_on shelf) (enumerate_from 0 l.spaces) ≡ true
  pub marks : list_all (λ (m : Object). nat_le m.head.incarnation l.incarnation) (marks_on shelf) ≡ true
  pub ends : unbacked ≤ end_of shelf + 1

-- ---- a cold restore

-- the journal after a restore up to an end
abbrev pub restored_journal : List Record → ℕ → List Record
restored_journal journal end_ = rolled_back (take end_ journal)

abbrev pub chain_in : List Chain → ℕ → Option Chain
chain_in chains space = find (λ (c : Chain). c.space == space) chains

-- a space that a chain brings up knows the chain's levels 0 and 1; one without a chain is down at this position
abbrev pub restored_space : ℕ → Option Chain → SpaceState
restored_space last None = record { up = false; down_at = last; zero = none_kept; one = none_kept }
restored_space last (Some c) = record { up = true; down_at = 0; zero = kept_at c.archives 0; one = kept_at c.archives 1 }

-- one above the greatest of these numbers
abbrev pub above_all : (Object → ℕ) → List Object → ℕ
above_all f all = 1 + fold (λ n (o : Object). max n (f o)) 0 all

-- the unique number of the log file in which a restored installation goes on
abbrev pub restored_uniq : Shelf → ℕ
restored_uniq shelf = above_all (λ (o : Object). o.head.number) (logs_on shelf)

-- the lasting state after a restore: the spaces with a chain are up, all others are down at the new length
abbrev pub restored : Config → Shelf → List Record → Plan → Lasting
restored c shelf journal p = record {
  spaces = map (λ s. restored_space (length (restored_journal journal p.end_)) (chain_in p.chains s)) (range_with_len 0 (length c.spaces));
  next_archive = above_all (λ (o : Object). o.head.number) (archives_on shelf);
  incarnation = above_all (λ (o : Object). o.head.incarnation) (objects shelf);
  backed = restored_uniq shelf - 1;
}

-- whether a space is critical: the first, and those of the physical log and of the log files
abbrev pub is_critical : Config → ℕ → Bool
is_critical c space = (space == 0) || ((space == c.physical_space) || (space == c.log_space))

-- the critical spaces and these, ascending
abbrev pub to_restore : Config → List ℕ → List ℕ
to_restore c named = filter (λ s. is_critical c s || list_any (λ n. n == s) named) (range_with_len 0 (length c.spaces))

abbrev pub higher_of : Option Object → Object → Option Object
higher_of None o = Some o
higher_of (Some best) o = if nat_lt best.head.number o.head.number then Some o else Some best

-- the counting archive of the first space with the highest number, whose configuration a restore takes
abbrev pub newest_root : Shelf → Option Object
newest_root shelf = fold higher_of None (filter (λ (o : Object). is_some (saved_by 0 o)) (counting_archives shelf))
