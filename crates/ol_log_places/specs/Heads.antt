-- Heads of open pages, by their positions.
use Rattle.std.specs.List.{AllByRecursion}
use Rattle.std.specs.List.Sorted.{IsNonDecreasingBy, IsPermutation}
use Rattle.std.specs.Prelude.{Bool, List, drop, length, slice_index_or, true, ℕ, ◌+◌, ◌-◌, ◌<◌, ◌^◌, ◌≡◌, ◌≢◌, ◌≤◌}
use Rattle.ol_values.specs.Config.{Config}
use Rattle.ol_record.specs.declared.head.LogHead.{LogHead}
use Rattle.ol_chunks.specs.Places.{log_area}
use Rattle.ol_log_places.specs.Places.{in_log}
use Rattle.ol_log_places.specs.declared.heads.Stood.{Stood}

-- the pages of the standing run, by position, and of each place of the log whether its gate is open
pub record StandingLog : Type 0 where
  pub run : List Stood
  pub gates : List Bool

-- the head that stands for none
abbrev pub no_head : LogHead
no_head = record { index = 0; uniq = 0; incarnation = 0; first = 0; count = 0; used = 0 }

-- and its page
abbrev pub no_stood : Stood
no_stood = record { chunk = 0; page = 0; head = no_head }

-- the page at an index, from 0
abbrev pub stood_at : List Stood → ℕ → Stood
stood_at heads k = slice_index_or heads k no_stood

-- the position behind the last of a page
abbrev pub end_in : Stood → ℕ
end_in s = s.head.first + s.head.count

-- a page has some record, and positions up to 2^62
abbrev pub IsLow : Stood → Type 0
IsLow s = (1 ≤ s.head.count) × (end_in s ≤ 2 ^ 62)

-- the same of each page
abbrev pub AreLow : List Stood → Type 0
AreLow heads = (k : ℕ) → k < length heads → IsLow (stood_at heads k)

-- what may stand at the front of a page of some log: at most 1,000 pages in a file, positions from 1 to below 2^62
pub record IsWritten (h : LogHead) : Type 0 where
  pub index : h.index < 1000
  pub first : 1 ≤ h.first
  pub some : 1 ≤ h.count
  pub last : h.first + h.count ≤ 2 ^ 62

-- a number of a use
abbrev pub IsUniq : ℕ → Type 0
IsUniq uniq = (1 ≤ uniq) × (uniq ≤ 2 ^ 62)

-- the front of a page of a log with so many pages in a file
pub record IsInRun (pages : ℕ) (h : LogHead) : Type 0 where
  pub written : IsWritten h
  pub uniq : IsUniq h.uniq
  pub index : h.index < pages

-- a page is one of the log's, and its front may stand there
abbrev pub IsInLog : Config → Stood → Type 0
IsInLog c s = (s.chunk ≡ (log_area c).chunk) × (in_log c s.chunk s.page ≡ true) × IsInRun c.log_file_pages s.head

-- each page is
-- the fronts of a run may stand in a log with so many pages in a file
abbrev pub AreInRun : ℕ → List Stood → Type 0
AreInRun pages run = AllByRecursion (λ (s : Stood). IsInRun pages s.head) run

abbrev pub AreInLog : Config → List Stood → Type 0
AreInLog c heads = (k : ℕ) → k < length heads → IsInLog c (stood_at heads k)

-- two pages share a position
abbrev pub Overlap : Stood → Stood → Type 0
Overlap a b = (a.head.first < end_in b) × (b.head.first < end_in a)

-- no page ends behind the begin of the next
abbrev pub AreApart : List Stood → Type 0
AreApart heads = (k : ℕ) → k + 1 < length heads → end_in (stood_at heads k) ≤ (stood_at heads (k + 1)).head.first

-- some page ends behind the begin of the next
abbrev pub IsNotApart : List Stood → Type 0
IsNotApart heads = (k : ℕ) × (k + 1 < length heads) × ((stood_at heads (k + 1)).head.first < end_in (stood_at heads k))

-- the page at this index shares a position with one before it
abbrev pub SharesAt : List Stood → ℕ → Type 0
SharesAt heads k = (earlier : ℕ) × (earlier < k) × Overlap (stood_at heads earlier) (stood_at heads k)

-- the first that does
pub record IsFirstSharing (heads : List Stood) (k : ℕ) : Type 0 where
  pub within : k < length heads
  pub shares : SharesAt heads k
  pub before : (i : ℕ) → i < k → SharesAt heads i → ⊥

-- from this index on each page ends just before the next, and the one before the first does not
pub record BeginsRun (heads : List Stood) (start : ℕ) : Type 0 where
  pub within : start ≤ length heads - 1
  pub chain : (k : ℕ) → start ≤ k → k + 1 < length heads → end_in (stood_at heads k) ≡ (stood_at heads (k + 1)).head.first
  pub stops : 0 < start → end_in (stood_at heads (start - 1)) ≢ (stood_at heads start).head.first

-- the last of these heads by position that follow one another, where no two of them share a position
pub record IsLastRun (heads run : List Stood) : Type 0 where
  pub sorted : List Stood
  pub moved : IsPermutation heads sorted
  pub rising : IsNonDecreasingBy (λ (s : Stood). s.head.first) sorted
  pub apart : AreApart sorted
  pub start : ℕ
  pub begins : BeginsRun sorted start
  pub is : run ≡ drop start sorted
