-- What a disk stands for: a journal, or a start with records behind it, and a lasting state.
use Rattle.std.specs.List.{last_or, list_all, list_any}
use Rattle.std.specs.Prelude.{All, Bool, Contains, List, None, Option, Some, [], drop, false, if◌then◌else◌, length, not, option_map, nat_le, nat_lt, take, true, ℕ, ◌&&◌, ◌+◌, ◌-◌, ◌==◌, ◌||◌, ◌∷◌, ◌≡◌, ◌≤◌, ◌⊎◌}
use Rattle.ol_values.specs.declared.record.Record.{Record}
use Rattle.ol_values.specs.declared.record.Record.TheVariants.{Change, Undo}
use Rattle.ol_values.specs.Config.{Config, config_text, has_page}
use Rattle.ol_values.specs.LogPages.{LogPage, last_in, records_at}
use Rattle.ol_values.specs.Pages.{Page}
use Rattle.ol_rules.specs.DiskValue.{AnchorValue, DiskValue, EntryValue, OpenLog, greatest_uniq, is_in_run, newest, page_in, ring_found, run_of, serials_differ}
use Rattle.ol_rules.specs.Journal.{page_at}
use Rattle.ol_rules.specs.Lasting.{Lasting, is_up, space_state}
use Rattle.ol_rules.specs.Ring.{Reuse, file_of, free}
use Rattle.ol_rules.specs.Sound.{Sound}
use Rattle.ol_rules.specs.Start.{SoundBehind, Start, last_behind, low_behind, page_behind, records_behind, txns_behind, upto}
use Rattle.ol_rules.specs.Transactions.{Txn, low_at, open_at, owed}

-- ---- what a disk may stand for

-- a journal as far as a disk can tell: its last position, its pages and its need at a position, its open transactions, so many records from a position on, the first position that is known, and log pages that are taken as they were
pub record Subject : Type 0 where
  pub config : Config
  pub last : ℕ
  pub page : ℕ → ℕ → ℕ → Page
  pub need : ℕ → ℕ
  pub txns : List Txn
  pub records : ℕ → ℕ → List Record
  pub first : ℕ
  pub others : List LogPage

abbrev pub of_journal : Config → List Record → Subject
of_journal c journal = record {
  config = c;
  last = length journal;
  page = λ position space page. page_at (take position journal) space page;
  need = λ position. low_at (take position journal);
  txns = open_at journal;
  records = λ position count. records_at 1 journal position count;
  first = 1;
  others = [];
}

-- a start with records behind it, where these log pages stood besides those of the run
abbrev pub of_start : Config → Start → List LogPage → List Record → Subject
of_start c s others records = record {
  config = c;
  last = last_behind s records;
  page = λ position space page. page_behind s (upto s records position) space page;
  need = λ position. low_behind s (upto s records position);
  txns = txns_behind s records;
  records = λ position count. records_behind s records position count;
  first = s.first;
  others = others;
}

-- ---- the log

-- a log page holds the subject's records at its positions
pub record HoldsItsRecords (s : Subject) (p : LogPage) : Type 0 where
  pub first : s.first ≤ p.first
  pub records : p.records ≡ s.records p.first (length p.records)
  pub last : last_in p ≤ s.last

abbrev pub overlap : LogPage → LogPage → Bool
overlap p q = nat_le p.first (last_in q) && nat_le q.first (last_in p)

-- no two of these pages overlap
abbrev pub none_overlap : List OpenLog → Bool
none_overlap [] = true
none_overlap (l ∷ logs) = not (list_any (λ (o : OpenLog). overlap l.page o.page) logs) && none_overlap logs

-- all open pages of a file are of one use
abbrev pub one_use : List OpenLog → Bool
one_use [] = true
one_use (l ∷ logs) = list_all (λ (o : OpenLog). not (o.file == l.file) || (o.page.uniq == l.page.uniq)) logs && one_use logs

-- a page follows another in its use, or begins a later one
abbrev pub follows : LogPage → LogPage → Bool
follows p q = ((p.uniq == q.uniq) && (q.index == p.index + 1)) || (nat_lt p.uniq q.uniq && (q.index == 0))

-- each page of a run follows the one before it
abbrev pub in_order : List OpenLog → Bool
in_order [] = true
in_order (l ∷ []) = true
in_order (l ∷ m ∷ run) = follows l.page m.page && in_order (m ∷ run)

-- there is no run, and nothing is left to redo; or it holds the records from the need on, or from before it, to the last
abbrev pub RunHolds : Subject → AnchorValue → List OpenLog → Type 0
RunHolds s a [] = (s.last ≡ a.position) × (s.txns ≡ [])
RunHolds s a (l ∷ run) =
    (l.page.first ≤ a.need) × (a.position ≤ s.last) × All (λ (o : OpenLog). HoldsItsRecords s o.page) (l ∷ run)
    × (option_map (λ (o : OpenLog). last_in o.page) (last_or None (l ∷ run)) ≡ Some s.last)

-- ---- one record for each area of the disk

pub record AnchorStands (s : Subject) (d : DiskValue) (a : AnchorValue) (l : Lasting) : Type 0 where
  pub newest : newest d ≡ Some a
  pub serials : serials_differ d.anchors ≡ true
  pub online : a.online ≡ true
  pub lasting : a.lasting ≡ l
  pub text : a.text ≡ config_text s.config
  pub need : a.need ≡ s.need a.position

pub record PagesStand (s : Subject) (d : DiskValue) (a : AnchorValue) (l : Lasting) : Type 0 where
  pub images : (space page : ℕ) → is_up l space ≡ true → has_page s.config space page ≡ true → page_in d a.generation space page ≡ s.page a.position space page
  pub entries : list_all (λ (e : EntryValue). nat_le e.generation a.generation) d.entries ≡ true

pub record LogStands (s : Subject) (d : DiskValue) (a : AnchorValue) (l : Lasting) : Type 0 where
  pub run : RunHolds s a (run_of d)
  pub pages : All (λ (o : OpenLog). HoldsItsRecords s o.page ⊎ Contains s.others o.page) d.logs
  pub overlaps : none_overlap d.logs ≡ true
  pub uses : one_use d.logs ≡ true
  pub incarnations : list_all (λ (o : OpenLog). o.page.incarnation == l.incarnation) (run_of d) ≡ true
  pub order : in_order (run_of d) ≡ true
  pub outside : list_any (λ (o : OpenLog). not (is_in_run (run_of d) o) && (o.file == file_of s.config (greatest_uniq (run_of d)))) d.logs ≡ false
  pub room : owed s.txns ≤ free s.config (record { backed = l.backed; need = a.need }) (ring_found a (run_of d))

-- whether a record changes a page of a space
abbrev pub is_of_space : ℕ → Record → Bool
is_of_space space (Change n rid before after) = rid.space == space
is_of_space space (Undo n rid value) = rid.space == space
is_of_space space _ = false

-- no record of a space that is down stands behind the position since which it is
abbrev pub DownStays : Subject → Lasting → Type 0
DownStays s l = (space : ℕ) → is_up l space ≡ false →
    let since = (space_state l space).down_at in list_any (is_of_space space) (s.records (since + 1) (s.last - since)) ≡ false

-- a disk stands for a subject and a lasting state
pub record StandsFor (s : Subject) (d : DiskValue) (a : AnchorValue) (l : Lasting) : Type 0 where
  pub anchor : AnchorStands s d a l
  pub pages : PagesStand s d a l
  pub log : LogStands s d a l
  pub down : DownStays s l

-- ---- for a journal, and for a start

-- the disk stands for this sound journal and this lasting state
abbrev pub Stands : Config → DiskValue → List Record → Lasting → Type 0
Stands c d journal l = Sound c journal × ((a : AnchorValue) × StandsFor (of_journal c journal) d a l)

-- the same of sound records behind a start
abbrev pub StandsBehind : Config → DiskValue → Start → List LogPage → List Record → Lasting → Type 0
StandsBehind c d s others records l = SoundBehind c s records × ((a : AnchorValue) × StandsFor (of_start c s others records) d a l)
