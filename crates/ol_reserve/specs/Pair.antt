-- The pair of reserved pages, pages 0 and 1 of chunk 0, and which of its anchors is the newest.
use Rattle.std.specs.Int.{from_be_bytes, w64}
use Rattle.std.specs.Prelude.{Bool, Err, IsErrOf, List, MatchBool, None, Ok, Option, Result, Some, drop, false, if◌then◌else◌, nat_lt, slice_index, take, true, ℕ, ◌+◌, ◌-◌, ◌<◌, ◌≤◌, ◌==◌, ◌&&◌, ◌≡◌, ◌≢◌, ◌⊎◌}
use Rattle.std.proofs.Common.{get_or}
use Rattle.ol_ports.specs.Causes.{HasFailed}
use Rattle.ol_ports.specs.Disk.{Bytes, Past, Rest, page_list, seen}
use Rattle.ol_ports.specs.Frames.{IsSettledIn}
use Rattle.ol_reserve.specs.Anchor.{IsAnchor, anchor_bytes, is_low}
use Rattle.ol_reserve.specs.declared.anchor.Anchor.{Anchor}
use Rattle.ol_reserve.specs.declared.pair.ReserveFault.{ReserveFault}
use Rattle.ol_reserve.specs.declared.pair.ReserveFault.TheVariants.{Blank, DiskFault}
use Rattle.ol_reserve.specs.declared.pair.Target.{Target}

-- whether a page is one of the pair
abbrev pub is_pair : ℕ → ℕ → Bool
is_pair chunk page = (chunk == 0) && nat_lt page 2

-- the gate of a page is not open
abbrev pub IsShut : Bytes → ℕ → Type 0
IsShut d page = d 0 page 0 ≢ 1

-- a page holds this anchor behind an open gate
pub record Holds (d : Bytes) (page : ℕ) (a : Anchor) : Type 0 where
  pub anchor : IsAnchor a
  pub bytes : page_list d 0 page ≡ anchor_bytes 1 a

-- the page holds this anchor, and the other page is shut or holds one with a lower serial
pub record IsNewestAt (d : Bytes) (page : ℕ) (a : Anchor) : Type 0 where
  pub pair : page < 2
  pub holds : Holds d page a
  pub other : IsShut d (1 - page) ⊎ ((b : Anchor) × Holds d (1 - page) b × (b.serial < a.serial))

-- the newest anchor of the pair, none where no gate is open
abbrev pub Newest : Bytes → Option Anchor → Type 0
Newest d None = IsShut d 0 × IsShut d 1
Newest d (Some a) = (page : ℕ) × IsNewestAt d page a

-- the newest anchor is the one or the other
abbrev pub IsOneOf : Option Anchor → Option Anchor → Bytes → Type 0
IsOneOf now next d = Newest d now ⊎ Newest d next

-- a serial is above that of the newest anchor
abbrev pub IsAbove : Option Anchor → ℕ → Type 0
IsAbove None serial = Unit {0}
IsAbove (Some a) serial = a.serial < serial

-- this is the newest anchor, and a stop leaves both pages as they read
pub record IsReady (past : Past) (now : Option Anchor) : Type 0 where
  pub settled : IsSettledIn past is_pair
  pub newest : Newest (seen past) now

-- the same, with the page that holds it
pub record IsReadyAt (past : Past) (page : ℕ) (a : Anchor) : Type 0 where
  pub settled : IsSettledIn past is_pair
  pub newest : IsNewestAt (seen past) page a

-- ---- what reading the pair answers

-- the bytes of the pages that a disk of these sizes has; a page that is not there reads as zeros
abbrev pub there : (ℕ → ℕ) → Bytes → Bytes
there sizes d chunk page i = if nat_lt page (sizes chunk) then d chunk page i else 0

-- each open page holds an anchor with numbers that an opening takes
abbrev pub AreLow : Bytes → Type 0
AreLow d = (page : ℕ) (a : Anchor) → page < 2 → Holds d page a → is_low a ≡ true

-- the anchor is the newest, these are its bytes, and an opening takes all anchors of the pair
abbrev pub IsTold : Bytes → List ℕ → Type 0
IsTold d bytes = (a : Anchor) × Newest d (Some a) × (bytes ≡ anchor_bytes 1 a) × AreLow d

-- the bytes are those of an anchor that an opening takes, behind an open gate
abbrev pub IsSpelled : List ℕ → Type 0
IsSpelled bytes = (a : Anchor) × IsAnchor a × (bytes ≡ anchor_bytes 1 a) × (is_low a ≡ true)

-- the same where there is a serial
abbrev pub IsSpelledIf : Option ℕ → List ℕ → Type 0
IsSpelledIf None bytes = Unit {0}
IsSpelledIf (Some serial) bytes = IsSpelled bytes

-- a page is open, and holds no anchor that an opening takes
abbrev pub IsSpoilt : Bytes → ℕ → Type 0
IsSpoilt d page = (d 0 page 0 ≡ 1) × ((a : Anchor) → Holds d page a → is_low a ≡ false)

-- a page of the pair is damaged: it is spoilt, or page 1 has the serial of page 0
abbrev pub IsDamaged : Bytes → ℕ → Type 0
IsDamaged d page = IsSpoilt d page ⊎ ((page ≡ 1) × ((a b : Anchor) × Holds d 0 a × Holds d 1 b × (a.serial ≡ b.serial)))

-- the answer to reading a pair that is not damaged: its newest anchor, or that there is none; a fault may come instead
abbrev pub IsAnswer : Option Anchor → List ℕ → Result Unit ReserveFault → Type 0
IsAnswer now bytes (Err (DiskFault chunk)) = chunk ≡ 0
IsAnswer None bytes (Err Blank) = Unit {0}
IsAnswer (Some a) bytes (Ok u) = bytes ≡ anchor_bytes 1 a
IsAnswer _ bytes _ = ⊥

-- a fault of the disk raises the count of chunk 0, and no other answer changes any
pub record HasFaultCause {T : Type 0} (before now : ℕ → ℕ) (result : Result T ReserveFault) : Type 0 where
  pub later : (c : ℕ) → before c ≤ now c
  pub fault : (chunk : ℕ) → IsErrOf result (DiskFault chunk) → (chunk ≡ 0) × HasFailed 0 before now
  pub kept : ((chunk : ℕ) → IsErrOf result (DiskFault chunk) → ⊥) → now ≡ before

-- what is told of one page: its gate is shut, or it holds the anchor of this serial and these bytes, which an opening takes
abbrev pub TellsPage : Bytes → ℕ → List ℕ → Option ℕ → Type 0
TellsPage d page bytes None = IsShut d page
TellsPage d page bytes (Some serial) = (a : Anchor) × Holds d page a × (a.serial ≡ serial) × (bytes ≡ anchor_bytes 1 a) × (is_low a ≡ true)

-- ---- where the next anchor goes

abbrev pub gate_in : List ℕ → ℕ
gate_in page = slice_index page 0

abbrev pub serial_in : List ℕ → ℕ
serial_in page = from_be_bytes w64 (take 8 (drop 8 page))

abbrev pub target : ℕ → Bool → Target
target page is_open = record { page = page; is_open = is_open }

abbrev pub shut_target : ℕ → Target
shut_target page = target page false

-- by the gates of both pages, and whether the first has the lower serial: the page that is shut, page 0 before page 1, or the one with the lower serial
abbrev pub target_by : Bool → Bool → Bool → Target
target_by false second lower = target 0 false
target_by true false lower = target 1 false
target_by true true true = target 0 true
target_by true true false = target 1 true

abbrev pub target_in : List ℕ → List ℕ → Target
target_in first second = target_by (gate_in first == 1) (gate_in second == 1) (nat_lt (serial_in first) (serial_in second))

-- the page that the anchor behind the newest goes to: the other page of the newest one
abbrev pub OtherHolds : Bytes → ℕ → Option Anchor → Type 0
OtherHolds d page None = IsShut d page
OtherHolds d page (Some a) = Holds d page a

-- an anchor older than the newest
pub record HoldsOlder (d : Bytes) (page : ℕ) (now : Option Anchor) : Type 0 where
  pub newest : Anchor
  pub is : now ≡ Some newest
  pub older : Anchor
  pub holds : Holds d page older
  pub below : older.serial < newest.serial

pub record IsTarget (d : Bytes) (now : Option Anchor) (t : Target) : Type 0 where
  pub pair : t.page < 2
  pub other : OtherHolds d (1 - t.page) now
  pub mine : MatchBool t.is_open (HoldsOlder d t.page now) (IsShut d t.page)

-- the same of all that a stop may leave
pub record HasTarget (past : Past) (now : Option Anchor) (t : Target) : Type 0 where
  pub each : (d : Bytes) → Rest past d → IsTarget d now t

-- the page has the bytes of an anchor behind a closed gate, whatever a stop leaves
pub record IsStaged (past : Past) (now : Option Anchor) (page : ℕ) (bytes : List ℕ) : Type 0 where
  pub each : (d : Bytes) → Rest past d → IsTarget d now (shut_target page)
  pub body : (d : Bytes) → Rest past d → (i : ℕ) → i < 2047 → d 0 page (1 + i) ≡ get_or bytes i 0
