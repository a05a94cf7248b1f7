-- What a disk tells, as plain values: the open anchors, the data pages at their places, the physical entries and log pages whose gates are open.
use Rattle.std.specs.List.{list_any, range_with_len}
use Rattle.std.specs.Prelude.{Bool, List, None, Option, Some, [], drop, false, find, flat_map, fold, if◌then◌else◌, length, map, max, nat_lt, not, option_map, slice_index_or, suc, take, true, unwrap_or, zero, ℕ, ◌&&◌, ◌++◌, ◌+◌, ◌-◌, ◌==◌, ◌||◌, ◌∷◌}
use Rattle.ol_values.specs.declared.record.Record.{Record}
use Rattle.ol_values.specs.Config.{Config, data_pages}
use Rattle.ol_values.specs.LogPages.{LogPage, last_in}
use Rattle.ol_values.specs.Pages.{Page, blank}
use Rattle.ol_rules.specs.Lasting.{Lasting, is_up}
use Rattle.ol_rules.specs.Ring.{LogRange, Ring, Use}
use Rattle.ol_rules.specs.Start.{Start}

-- an open anchor: whether the installation is on line or being restored, its serial, the checkpoint's position and need, the generation of the physical log, the unique number of the current log file, the lasting state, and the configuration's text
pub record AnchorValue : Type 0 where
  pub online : Bool
  pub serial : ℕ
  pub position : ℕ
  pub need : ℕ
  pub generation : ℕ
  pub uniq : ℕ
  pub lasting : Lasting
  pub text : List ℕ

-- an open entry of the physical log
pub record EntryValue : Type 0 where
  pub generation : ℕ
  pub space : ℕ
  pub page : ℕ
  pub image : Page

-- an open log page, in this file
pub record OpenLog : Type 0 where
  pub file : ℕ
  pub page : LogPage

-- each in order of place
pub record DiskValue : Type 0 where
  pub anchors : List AnchorValue
  pub pages : List (List Page)
  pub entries : List EntryValue
  pub logs : List OpenLog

-- ---- the anchor

abbrev pub newer_of : Option AnchorValue → AnchorValue → Option AnchorValue
newer_of None a = Some a
newer_of (Some best) a = if nat_lt best.serial a.serial then Some a else Some best

-- the open anchor with the greatest serial
abbrev pub newest : DiskValue → Option AnchorValue
newest d = fold newer_of None d.anchors

-- no two open anchors have one serial
abbrev pub serials_differ : List AnchorValue → Bool
serials_differ [] = true
serials_differ (a ∷ anchors) = not (list_any (λ (o : AnchorValue). o.serial == a.serial) anchors) && serials_differ anchors

-- ---- the standing run

abbrev pub later_log : Option OpenLog → OpenLog → Option OpenLog
later_log None l = Some l
later_log (Some best) l = if nat_lt (last_in best.page) (last_in l.page) then Some l else Some best

-- the page that ends just before this one
abbrev pub before_log : List OpenLog → OpenLog → Option OpenLog
before_log logs l = find (λ (o : OpenLog). (last_in o.page + 1) == l.page.first) logs

-- the pages up to this one, each ending just before the next, at most so many before it
abbrev pub run_to : ℕ → List OpenLog → Option OpenLog → List OpenLog
run_to n logs None = []
run_to zero logs (Some l) = l ∷ []
run_to (suc n) logs (Some l) = run_to n logs (before_log logs l) ++ l ∷ []

-- the standing run: from the open page with the greatest last position back, as long as the page just before is there
unfoldable pub run_of : DiskValue → List OpenLog
run_of d = run_to (length d.logs) d.logs (fold later_log None d.logs)

abbrev pub is_in_run : List OpenLog → OpenLog → Bool
is_in_run run l = list_any (λ (o : OpenLog). o.page.first == l.page.first) run

-- the records of a run
abbrev pub run_records : List OpenLog → List Record
run_records run = flat_map (λ (l : OpenLog). l.page.records) run

abbrev pub greatest_uniq : List OpenLog → ℕ
greatest_uniq run = fold (λ n (l : OpenLog). max n l.page.uniq) 0 run

-- ---- the ring that an opening finds

abbrev pub range_of : LogPage → LogRange
range_of p = record { index = p.index; first = p.first; count = length p.records }

abbrev pub new_use : LogPage → Use
new_use p = record { uniq = p.uniq; pages = range_of p ∷ []; switched = false }

-- one page of the run more, in its use
abbrev pub use_with : List Use → OpenLog → List Use
use_with uses l =
    if list_any (λ (u : Use). u.uniq == l.page.uniq) uses then map (λ (u : Use). if u.uniq == l.page.uniq then record u { pages = u.pages ++ range_of l.page ∷ [] } else u) uses
    else uses ++ new_use l.page ∷ []

-- the uses of the run; current is the greatest of the anchor's file, the run's last and the one behind those that are backed up
unfoldable pub ring_found : AnchorValue → List OpenLog → Ring
ring_found a run = record {
  uses = fold use_with [] run;
  uniq = max a.uniq (max (greatest_uniq run) (a.lasting.backed + 1));
  buffer = [];
}

-- ---- pages

abbrev pub counts_at : ℕ → ℕ → ℕ → EntryValue → Bool
counts_at generation space page e = (e.generation == generation) && ((e.space == space) && (e.page == page))

-- a data page as at the checkpoint: the image of its entry of this generation, where there is one, else what stands at its place
abbrev pub page_in : DiskValue → ℕ → ℕ → ℕ → Page
page_in d generation space page =
    unwrap_or (option_map (λ (e : EntryValue). e.image) (find (counts_at generation space page) d.entries)) (slice_index_or (slice_index_or d.pages space []) page blank)

-- ---- the start that a reading gives

abbrev pub pages_in : Config → DiskValue → AnchorValue → ℕ → List Page
pages_in c d a space = if is_up a.lasting space then map (page_in d a.generation space) (range_with_len 0 (data_pages c space)) else []

-- the first position of the run, or the one after the checkpoint where there is no run
abbrev pub run_first : ℕ → List OpenLog → ℕ
run_first position [] = position + 1
run_first position (l ∷ run) = l.page.first

-- how many records of the run are up to the checkpoint
abbrev pub kept_count : ℕ → List OpenLog → ℕ
kept_count position run = position + 1 - run_first position run

-- the start: the records of the run up to the checkpoint, and the pages of the spaces that are up
abbrev pub start_in : Config → DiskValue → AnchorValue → Start
start_in c d a = record {
  first = run_first a.position (run_of d);
  kept = take (kept_count a.position (run_of d)) (run_records (run_of d));
  last = a.position;
  pages = map (pages_in c d a) (range_with_len 0 (length c.spaces));
}

-- the records of the run behind the checkpoint, which an opening redoes
abbrev pub to_redo : DiskValue → AnchorValue → List Record
to_redo d a = drop (kept_count a.position (run_of d)) (run_records (run_of d))
