-- That running archives and captured images, as the engine holds them, tell of the machine.
use Rattle.std.specs.Prelude.{Bool, List, None, Option, Some, false, is_none, length, nat_lt, not, replicate, slice_index_or, slice_set, true, ℕ, ◌&&◌, ◌+◌, ◌-◌, ◌<◌, ◌==◌, ◌^◌, ◌≡◌, ◌≤◌}
use Rattle.ol_values.specs.declared.record.Record.{Record}
use Rattle.ol_values.specs.declared.record.Rid.{Rid}
use Rattle.ol_values.specs.Image.{page_bytes}
use Rattle.ol_rules.specs.Journal.{touches}
use Rattle.ol_rules.specs.Start.{start_page}
use Rattle.ol_model.specs.Machine.{Archive, Machine, archive_of, config_of, last_of, page_upto}
use Rattle.ol_model.specs.Steps.{is_page_in}
use Rattle.ol_model.specs.Waiting.{images_held, waiting_of}
use Rattle.ol_turn_laws.specs.Apart.{Apart}
use Rattle.ol_before.specs.Images.{Ascend, Captures, Image, image_of, without}
use Rattle.ol_cursor.specs.declared.cursor.Cursor.{Cursor}
use Rattle.ol_cursor.specs.Following.{CutsBehind, Follows, HasShortSpaces}
use Rattle.ol_cursor.specs.Order.{advanced, archives, is_wanted, precedes}
use Rattle.ol_running.specs.declared.running.Running.{Running}

-- ---- one archive

-- an archive that begins
abbrev pub begun : Cursor → Running
begun c = record { cursor = c; passed = 0; broken = None }

-- one that a page has passed
abbrev pub passed_on : Running → ℕ → ℕ → Running
passed_on r space page = record { cursor = advanced r.cursor space page; passed = r.passed + 1; broken = r.broken }

-- one that an entry has broken
abbrev pub broken_by : ℕ → Running → Running
broken_by entry r = record { cursor = r.cursor; passed = r.passed; broken = Some entry }

-- whether a change of a page first keeps its image: the archive is not broken, the page is wanted by its stamp, and it has not passed
abbrev pub keeps_image : Running → ℕ → ℕ → ℕ → Bool
keeps_image r space page stamp = is_none r.broken && (is_wanted r.cursor space stamp && not (precedes (space, page) r.cursor.next))

abbrev pub keeps_of : Option Running → ℕ → ℕ → ℕ → Bool
keeps_of None space page stamp = false
keeps_of (Some r) space page stamp = keeps_image r space page stamp

-- whether an image is of one of the archive's spaces
abbrev pub is_of_archive : Cursor → Image → Bool
is_of_archive c i = archives c i.space

-- images without those of the archive's spaces with a number below n
abbrev pub dropped_upto : Cursor → Captures → ℕ → Captures
dropped_upto c b n = without (λ (i : Image). archives c i.space && nat_lt i.space n) b

-- ---- the archive of each archiver

abbrev pub none_running : List (Option Running)
none_running = replicate 4 None

-- the running archive of archiver k, from 1
abbrev pub running_of : List (Option Running) → ℕ → Option Running
running_of l k = slice_index_or l (k - 1) None

abbrev pub with_running : ℕ → Option Running → List (Option Running) → List (Option Running)
with_running k r l = slice_set l (k - 1) r

-- ---- what they tell

-- the archive is the machine's: its cursor follows it, as many pages have passed, the same entry broke it, and it was cut between what the opening read and the last record
pub record IsArchive (r : Running) (m : Machine) (a : Archive) : Type 0 where
  pub follows : Follows r.cursor m a
  pub passed : r.passed ≡ a.passed
  pub broken : r.broken ≡ a.broken
  pub behind : CutsBehind m a
  pub cut : a.cut ≤ last_of m
  pub count : r.passed + r.cursor.left < 2 ^ 32

-- an archiver has an archive exactly where the machine has one of it
abbrev pub IsRunning : Option Running → Machine → Option Archive → Type 0
IsRunning None m None = Unit {0}
IsRunning (Some r) m (Some a) = IsArchive r m a
IsRunning _ m _ = ⊥

-- a page as at the cut of an archive
abbrev pub image_at : Machine → Archive → ℕ → ℕ → List ℕ
image_at m a space page = page_bytes (page_upto m a.cut space page)

-- whether a page waits for archiver k
abbrev pub waits : Machine → ℕ → ℕ → ℕ → Bool
waits m k space page = is_page_in (space, page) (waiting_of m (archive_of m k))

-- the images are those of the pages that wait, each as at the cut of its archive
pub record AreWaiting (held : List Image) (m : Machine) : Type 0 where
  pub there : (k : ℕ) (a : Archive) (space page : ℕ) → 1 ≤ k → archive_of m k ≡ Some a → waits m k space page ≡ true → image_of held space page ≡ Some (image_at m a space page)
  pub none : (space page : ℕ) → ((k : ℕ) → 1 ≤ k → waits m k space page ≡ false) → image_of held space page ≡ None

-- the archives of the four archivers and the captured images are the machine's
pub record ShowsArchives (l : List (Option Running)) (b : Captures) (m : Machine) : Type 0 where
  pub four : length l ≡ 4
  pub archivers : length m.archives ≡ 4
  pub running : (k : ℕ) → 1 ≤ k → IsRunning (running_of l k) m (archive_of m k)
  pub limit : b.limit ≡ (config_of m).image_limit
  pub ascend : Ascend b.held
  pub images : AreWaiting b.held m
  pub count : length b.held ≡ images_held m
  pub apart : Apart m
  pub short : HasShortSpaces (config_of m)
  pub stamps : (space page : ℕ) → (start_page m.work.start space page).stamp ≤ m.work.start.last

-- a record changes a slot of this page, and no other page
abbrev pub ChangesOnly : Record → Rid → Type 0
ChangesOnly r rid = (space page : ℕ) → touches space page r ≡ ((rid.space == space) && (rid.page == page))
