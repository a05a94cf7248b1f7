-- How the log files are stored.
use Rattle.std.specs.List.{AllByRecursion, list_any}
use Rattle.std.specs.Prelude.{Bool, List, [], false, if◌then◌else◌, length, map, suc, vec_capacity, vec_len, zero, ℕ, ◌%◌, ◌*◌, ◌+◌, ◌-◌, ◌<◌, ◌==◌, ◌^◌, ◌∷◌, ◌≡◌, ◌≤◌}
use Rattle.ol_chunks.specs.declared.table.Area.{Area}
use Rattle.ol_record.specs.declared.head.LogHead.{LogHead}
use Rattle.ol_rules.specs.Ring.{last_range}
use Rattle.ol_log_state.specs.declared.log_files.LogFiles.TheInside.{Inside}
use Rattle.ol_log_state.specs.Files.{Files, greatest_of, uses_of_heads}
use Rattle.ol_log_places.specs.declared.heads.Stood.{Stood}
use Rattle.ol_log_state.specs.Uses.{HeldUse, Stored, use_of}
use Rattle.ol_log_places.specs.Heads.{IsUniq}

-- stored uses as values
abbrev pub helds : List Stored → List HeldUse
helds uses = map (λ (s : Stored). s.held) uses

-- an area of log files: 3 to 64 files of 4 to 1,000 pages each
pub record IsLogArea (a : Area) : Type 0 where
  pub files : (3 ≤ a.count) × (a.count ≤ 64)
  pub pages : (4 ≤ a.pages) × (a.pages ≤ 1000)
  pub inside : a.first + a.count * a.pages < 2 ^ 32

-- a use has its pages in its file, memory for what may still be written of it, and for a whole file once it is emptied
pub record IsRoomy (pages : ℕ) (s : Stored) : Type 0 where
  pub placed : AllByRecursion (λ (h : LogHead). h.index < pages) s.held.heads
  pub rest : pages - 1 - (last_range (use_of s.held)).index ≤ s.room
  pub whole : pages ≤ length s.held.heads + s.room

-- a spare use has no page, and memory for a whole file
pub record IsSpare (pages : ℕ) (s : Stored) : Type 0 where
  pub none : s.held.heads ≡ []
  pub whole : pages ≤ s.room

-- the numbers of uses
abbrev pub uniqs : List Stored → List ℕ
uniqs uses = map (λ (s : Stored). s.held.uniq) uses

-- no two of these numbers are one
abbrev pub AreApart : List ℕ → Type 0
AreApart [] = Unit {0}
AreApart (n ∷ numbers) = AllByRecursion (λ m. (m == n) ≡ false) numbers × AreApart numbers

-- whether a use of one of these numbers stands in a file, where there are so many files
abbrev pub is_taken : ℕ → List ℕ → ℕ → Bool
is_taken files numbers file = list_any (λ n. (n - 1) % files == file) numbers

-- how many of the files below one fail a test
unfoldable pub failing : (ℕ → Bool) → ℕ → ℕ
failing test zero = 0
failing test (suc n) = (if test n then 0 else 1) + failing test n

-- the uses have different numbers up to that of the current file, and there is a spare use for each file in which none stands
pub record AreNumbered (files uniq : ℕ) (numbers : List ℕ) (spares : ℕ) : Type 0 where
  pub up_to : AllByRecursion (λ n. n ≤ uniq) numbers
  pub apart : AreApart numbers
  pub enough : failing (is_taken files numbers) files ≤ spares

-- neither list has to grow, whatever is moved from one to the other
pub record HasCapacity (total for_uses for_spare : ℕ) : Type 0 where
  pub uses : total ≤ for_uses
  pub spare : total ≤ for_spare

-- the uses of the heads that were read, each with memory for a whole file more
pub record AreTaken (pages uniq : ℕ) (heads : List LogHead) (items : List Stored) : Type 0 where
  pub uses : helds items ≡ uses_of_heads heads
  pub roomy : AllByRecursion (IsRoomy pages) items
  pub up_to : AllByRecursion (λ n. n ≤ greatest_of uniq heads) (uniqs items)
  pub apart : AreApart (uniqs items)
  pub few : AllByRecursion (λ (s : Stored). length s.held.heads ≤ length heads) items

-- the heads of a run
abbrev pub heads_in : List Stood → List LogHead
heads_in run = map (λ (s : Stood). s.head) run

-- the files that are stored
abbrev pub files_in : Inside → Files
files_in f = record { area = f.area; uses = helds f.uses.items; uniq = f.uniq }

-- all that holds of how files are stored
pub record IsLogFiles (f : Inside) : Type 0 where
  pub area : IsLogArea f.area
  pub uniq : IsUniq f.uniq
  pub roomy : AllByRecursion (IsRoomy f.area.pages) f.uses.items
  pub spares : AllByRecursion (IsSpare f.area.pages) f.spare.items
  pub numbered : AreNumbered f.area.count f.uniq (uniqs f.uses.items) (length f.spare.items)
  pub capacity : HasCapacity (vec_len f.uses + vec_len f.spare) (vec_capacity f.uses) (vec_capacity f.spare)
