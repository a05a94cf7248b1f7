-- When what stands on the disk is as the ring has it.
use Rattle.std.specs.List.{AllByRecursion}
use Rattle.std.specs.Prelude.{Bool, Some, false, is_some, length, min, true, ℕ, ◌&&◌, ◌+◌, ◌-◌, ◌<◌, ◌==◌, ◌≡◌, ◌≤◌}
use Rattle.ol_values.specs.Config.{Config, log_pages}
use Rattle.ol_values.specs.LogPages.{LogPage}
use Rattle.ol_values.specs.declared.record.Record.{Record}
use Rattle.ol_record.specs.LogPages.{head_of}
use Rattle.ol_record.specs.declared.head.LogHead.{LogHead}
use Rattle.ol_rules.specs.Ring.{Use, file_of, last_position, last_range, use_in_file}
use Rattle.ol_ports.specs.Disk.{Past}
use Rattle.ol_log_places.specs.Places.{Closed, IsPlaced, Place}
use Rattle.ol_log_places.specs.Runs.{IsLogged, IsNear, Stands, end_of, journal_at}
use Rattle.ol_log_places.specs.Writes.{GatesAre, IsFreeFile, is_in_file}
use Rattle.ol_log_state.specs.Files.{current_use, next_page}
use Rattle.ol_log_state.specs.RingState.{RingState, ring_of}
use Rattle.ol_log_state.specs.Uses.{HeldUse}
use Rattle.ol_loglog.specs.RingValue.{RingValue, first_unwritten}

-- the file that the current unique number stands for
abbrev pub current_file : RingValue → ℕ
current_file v = file_of v.config v.state.files.uniq

-- the file of the page that is written next
abbrev pub next_file : Config → RingState → ℕ
next_file c s = file_of c (next_page s.files).uniq

-- a head of a use is that of a page of the use's number that stands
abbrev pub HasItsPage : Config → (ℕ → Place) → ℕ → LogHead → Type 0
HasItsPage c r uniq h = (p : LogPage) × Stands r (log_pages c) p × (p.uniq ≡ uniq) × (head_of p ≡ h)

-- each head of a use is
abbrev pub HasItsPages : Config → (ℕ → Place) → HeldUse → Type 0
HasItsPages c r u = AllByRecursion (HasItsPage c r u.uniq) u.heads

-- the file that the next page enters, where it enters one
abbrev pub is_entered : Config → RingState → ℕ → Bool
is_entered c s file = (next_page s.files).enters && (file == next_file c s)

-- what stands on the disk is as the ring has it, for a journal, but for pages of lost files: what may be asked for begins at floor
pub record IsReadyBut (lost : ℕ → Bool) (past : Past) (v : RingValue) (r : ℕ → Place) (floor : ℕ) (j : ℕ → Record) : Type 0 where
  pub placed : IsPlaced past v.config r
  pub gates : GatesAre v.gates r
  pub logged : IsLogged v.config r j floor (first_unwritten v.state)
  pub buffer : v.state.buffer ≡ journal_at j (first_unwritten v.state) (length v.state.buffer)
  -- where a use of the current unique number stands in the ring, it is the one of its file
  pub alone : (u : Use) → current_use v.state.files ≡ Some u → use_in_file v.config (ring_of v.state) (current_file v) ≡ Some u
  -- and pages in that file have its number, and an index of at most that of its last page
  pub current : (p : LogPage) (u : Use) → Stands r (log_pages v.config) p → file_of v.config p.uniq ≡ current_file v → current_use v.state.files ≡ Some u → (p.uniq ≡ v.state.files.uniq) × (p.index ≤ (last_range u).index)
  -- of a page that ends above floor, the use that the ring has in its file ends at or behind it
  pub told : (p : LogPage) → Stands r (log_pages v.config) p → floor < end_of p → (u : Use) × (use_in_file v.config (ring_of v.state) (file_of v.config p.uniq) ≡ Some u) × (end_of p ≤ last_position u + 1)
  -- no page has a greater unique number than the current one, which is at most one above the last page's
  pub newest : (p : LogPage) → Stands r (log_pages v.config) p → p.uniq ≤ v.state.files.uniq
  pub near : IsNear v.config r v.state.files.uniq (first_unwritten v.state)
  -- where a use of the current unique number stands in the ring, the last page has that number
  pub last : (p : LogPage) (u : Use) → Stands r (log_pages v.config) p → end_of p ≡ first_unwritten v.state → current_use v.state.files ≡ Some u → p.uniq ≡ v.state.files.uniq
  -- each page that the ring has stands, with the head that the ring has
  pub kept : AllByRecursion (λ (u : HeldUse). lost (file_of v.config u.uniq) ≡ false → HasItsPages v.config r u) v.state.files.uses

-- no file is lost
abbrev pub IsReady : Past → RingValue → (ℕ → Place) → ℕ → (ℕ → Record) → Type 0
IsReady past v r floor j = IsReadyBut (λ file. false) past v r floor j

-- where a record is buffered, and its page enters a file, each page there ends at or below floor
abbrev pub IsNextFree : RingValue → (ℕ → Place) → ℕ → Type 0
IsNextFree v r floor = 0 < length v.state.buffer → (next_page v.state.files).enters ≡ true → IsFreeFile v.config floor (next_file v.config v.state) r

-- where the next page enters a file, no gate of that is open
abbrev pub IsNextShut : Config → RingState → (ℕ → Place) → Type 0
IsNextShut c s r = (next_page s.files).enters ≡ true → (k : ℕ) → k < log_pages c → is_in_file c (next_file c s) k ≡ true → r k ≡ Closed

-- ---- the ring alone

-- all uses end below what is not written, and the one with the last written position is in the current file exactly where a use of the current unique number stands
pub record IsInOrder (c : Config) (s : RingState) : Type 0 where
  pub ends : (file : ℕ) (u : Use) → use_in_file c (ring_of s) file ≡ Some u → last_position u < first_unwritten s
  pub last : (file : ℕ) (u : Use) → use_in_file c (ring_of s) file ≡ Some u → last_position u + 1 ≡ first_unwritten s → is_some (current_use s.files) ≡ (file == file_of c s.files.uniq)

-- the use of the next page is not backed up
abbrev pub IsNextUnbacked : RingState → Type 0
IsNextUnbacked s = s.reuse.backed < (next_page s.files).uniq

-- the file of the next page has no use with the last written position
abbrev pub IsNotLast : Config → RingState → Type 0
IsNotLast c s = (u : Use) → use_in_file c (ring_of s) (next_file c s) ≡ Some u → last_position u + 1 < first_unwritten s

-- a floor keeps the page that ends last, and all that is needed
abbrev pub IsFloor : RingState → ℕ → Type 0
IsFloor s floor = min s.reuse.need (first_unwritten s - 1) ≤ floor
