-- The standing run of the places of a log, and what the places hold of a journal.
use Rattle.std.specs.List.{range_with_len}
use Rattle.std.specs.Prelude.{List, None, [], fold, length, map, suc, zero, ℕ, ◌⊎◌, ◌++◌, ◌+◌, ◌<◌, ◌∷◌, ◌≡◌, ◌≢◌, ◌≤◌}
use Rattle.ol_values.specs.declared.record.Record.{Record}
use Rattle.ol_values.specs.Config.{Config, log_pages}
use Rattle.ol_values.specs.LogPages.{LogPage}
use Rattle.ol_rules.specs.DiskValue.{OpenLog, later_log, run_to}
use Rattle.ol_rules.specs.Ring.{file_of}
use Rattle.ol_ports.specs.Disk.{Bytes}
use Rattle.ol_log_places.specs.Places.{Bad, Closed, Open, Place, place_number, places}

-- the position behind the last of a page
abbrev pub end_of : LogPage → ℕ
end_of p = p.first + length p.records

-- a page has this position
abbrev pub Has : LogPage → ℕ → Type 0
Has p position = (p.first ≤ position) × (position < end_of p)

-- one of the first n places has the page
pub record Stands (r : ℕ → Place) (n : ℕ) (p : LogPage) : Type 0 where
  pub place : ℕ
  pub within : place < n
  pub is : r place ≡ Open p

-- none of the first n places is bad, a page has some record, and pages that share a position are at one place
pub record IsOrderly (r : ℕ → Place) (n : ℕ) : Type 0 where
  pub good : (k : ℕ) → k < n → r k ≡ Bad → ⊥
  pub some : (k : ℕ) (p : LogPage) → k < n → r k ≡ Open p → 0 < length p.records
  pub apart : (k l position : ℕ) (p q : LogPage) → k < n → l < n → r k ≡ Open p → r l ≡ Open q → Has p position → Has q position → k ≡ l

-- each position from a to before b stands in a page, and no page ends behind b
pub record Covers (r : ℕ → Place) (n a b : ℕ) : Type 0 where
  pub each : (position : ℕ) → a ≤ position → position < b → (p : LogPage) × Stands r n p × Has p position
  pub last : (p : LogPage) → Stands r n p → end_of p ≤ b

-- each open page stands at the place of its unique number and its index
abbrev pub StandAtPlaces : Config → (ℕ → Place) → Type 0
StandAtPlaces c r = (place : ℕ) (p : LogPage) → place < log_pages c → r place ≡ Open p → (p.index < c.log_file_pages) × (place ≡ place_number c p.uniq p.index)

-- ---- the run

-- an open page, in the file of its unique number
abbrev pub log_of : Config → LogPage → OpenLog
log_of c p = record { file = file_of c p.uniq; page = p }

-- the open page of a place behind these, where one stands there
abbrev pub with_place : Config → Place → List OpenLog → List OpenLog
with_place c Closed logs = logs
with_place c Bad logs = logs
with_place c (Open p) logs = logs ++ log_of c p ∷ []

-- the open pages of the first n places, in order of place
unfoldable pub logs_below : Config → (ℕ → Place) → ℕ → List OpenLog
logs_below c r zero = []
logs_below c r (suc n) = with_place c (r n) (logs_below c r n)

-- all open pages, in order of place
abbrev pub open_logs : Config → (ℕ → Place) → List OpenLog
open_logs c r = logs_below c r (log_pages c)

-- the run of open pages: from the one with the greatest last position back, as long as the page just before is there
unfoldable pub run_in : List OpenLog → List OpenLog
run_in logs = run_to (length logs) logs (fold later_log None logs)

-- pages that follow one another from position a to before b
unfoldable pub Chain : List OpenLog → ℕ → ℕ → Type 0
Chain [] a b = a ≡ b
Chain (l ∷ run) a b = (l.page.first ≡ a) × Chain run (end_of l.page) b

-- each of these stands at one of the first n places
unfoldable pub AllStand : Config → (ℕ → Place) → ℕ → List OpenLog → Type 0
AllStand c r n [] = Unit {0}
AllStand c r n (l ∷ run) = (Stands r n l.page × (l ≡ log_of c l.page)) × AllStand c r n run

-- pages from position a to before b that stand and follow one another; no page ends later, and none ends just before a
pub record IsRun (c : Config) (r : ℕ → Place) (n : ℕ) (run : List OpenLog) (a b : ℕ) : Type 0 where
  pub some : a < b
  pub chain : Chain run a b
  pub stand : AllStand c r n run
  pub last : (p : LogPage) → Stands r n p → end_of p ≤ b
  pub first : (p : LogPage) → Stands r n p → end_of p ≢ a

-- ---- the journal

-- so many records of a journal from a position on
abbrev pub journal_at : (ℕ → Record) → ℕ → ℕ → List Record
journal_at j first count = map j (range_with_len first count)

-- a page goes before another: its unique number is lower, or they have one and its index is lower
abbrev pub Precedes : LogPage → LogPage → Type 0
Precedes p q = (p.uniq < q.uniq) ⊎ ((p.uniq ≡ q.uniq) × (p.index < q.index))

-- the places hold the journal from need to before upto, and nothing behind it
pub record IsLogged (c : Config) (r : ℕ → Place) (j : ℕ → Record) (need upto : ℕ) : Type 0 where
  pub orderly : IsOrderly r (log_pages c)
  pub covers : Covers r (log_pages c) need upto
  pub agrees : (p : LogPage) → Stands r (log_pages c) p → p.records ≡ journal_at j p.first (length p.records)
  -- a file has pages of one unique number
  pub one_use : (p q : LogPage) → Stands r (log_pages c) p → Stands r (log_pages c) q → file_of c p.uniq ≡ file_of c q.uniq → p.uniq ≡ q.uniq
  -- and positions rise with unique numbers, and in a file with the index
  pub order : (p q : LogPage) → Stands r (log_pages c) p → Stands r (log_pages c) q → Precedes p q → end_of p ≤ q.first

-- a unique number is at most one above that of each page that ends just before a position
abbrev pub IsNear : Config → (ℕ → Place) → ℕ → ℕ → Type 0
IsNear c r uniq upto = (p : LogPage) → Stands r (log_pages c) p → end_of p ≡ upto → uniq ≤ p.uniq + 1

-- a disk holds the journal from need on, up to some position from flushed to total; a unique number is at most one above the last page's
pub record HoldsLog (c : Config) (j : ℕ → Record) (need flushed total uniq : ℕ) (d : Bytes) : Type 0 where
  pub upto : ℕ
  pub from : flushed ≤ upto
  pub to : upto ≤ total
  pub logged : IsLogged c (places c d) j need upto
  pub near : IsNear c (places c d) uniq upto
