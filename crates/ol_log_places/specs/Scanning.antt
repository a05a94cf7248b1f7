-- What a scan of the log answers.
use Rattle.std.specs.Prelude.{IsErrOf, Result, ℕ, ◌+◌, ◌<◌, ◌≡◌, ◌≤◌, ◌⊎◌, List, map}
use Rattle.ol_values.specs.Config.{Config, log_pages}
use Rattle.ol_values.specs.LogPages.{LogPage}
use Rattle.ol_rules.specs.DiskValue.{OpenLog}
use Rattle.ol_record.specs.LogPages.{head_of}
use Rattle.ol_chunks.specs.Places.{log_area}
use Rattle.ol_ports.specs.Causes.{HasFailed}
use Rattle.ol_log_places.specs.Heads.{IsInLog, IsLow}
use Rattle.ol_log_places.specs.Places.{Bad as BadPlace, Closed as ClosedPlace, Open as OpenPlace, Place, place_number}
use Rattle.ol_log_places.specs.Runs.{Has, StandAtPlaces, log_of, open_logs}
use Rattle.ol_log_places.specs.declared.heads.ScanFault.{ScanFault}
use Rattle.ol_log_places.specs.declared.heads.ScanFault.TheVariants.{DiskFault}
use Rattle.ol_log_places.specs.declared.heads.Stood.{Stood}
use Rattle.ol_log_places.specs.declared.reading.Seen.{Seen}
use Rattle.ol_log_places.specs.declared.reading.Seen.TheVariants.{Bad, Closed, Open}

-- where an open page stands, and its head
abbrev pub stood_of : Config → OpenLog → Stood
stood_of c l = record { chunk = (log_area c).chunk; page = (log_area c).first + place_number c l.page.uniq l.page.index; head = head_of l.page }

-- what is seen of a place
abbrev pub seen_of : Config → Place → Seen
seen_of c ClosedPlace = Closed
seen_of c BadPlace = Bad
seen_of c (OpenPlace p) = Open (stood_of c (log_of c p))

-- what is known of an open page that was seen
abbrev pub IsSeenLow : Config → Seen → Type 0
IsSeenLow c Closed = Unit {0}
IsSeenLow c Bad = Unit {0}
IsSeenLow c (Open s) = IsLow s × IsInLog c s

-- the first place that is bad
pub record IsFirstBad (c : Config) (r : ℕ → Place) (place : ℕ) : Type 0 where
  pub within : place < log_pages c
  pub bad : r place ≡ BadPlace
  pub before : (k : ℕ) → k < place → r k ≡ BadPlace → ⊥

-- the page of a place shares a position with the page of a lower place
abbrev pub Shares : (ℕ → Place) → ℕ → Type 0
Shares r place = (lower position : ℕ) × (p q : LogPage) × (lower < place) × (r lower ≡ OpenPlace p) × (r place ≡ OpenPlace q) × Has p position × Has q position

-- no place is bad, and this is the first whose page shares a position with that of a lower place
pub record IsFirstShared (c : Config) (r : ℕ → Place) (place : ℕ) : Type 0 where
  pub within : place < log_pages c
  pub good : (k : ℕ) → k < log_pages c → r k ≡ BadPlace → ⊥
  pub shares : Shares r place
  pub before : (k : ℕ) → k < place → Shares r k → ⊥

-- the heads of all open pages, in order of place; no place is bad, and each page stands at its place
pub record AreHeadsOf (c : Config) (r : ℕ → Place) (heads : List Stood) : Type 0 where
  pub are : heads ≡ map (stood_of c) (open_logs c r)
  pub good : (place : ℕ) → place < log_pages c → r place ≡ BadPlace → ⊥
  pub stand : StandAtPlaces c r

-- a page of the disk is that of a place
abbrev pub IsAt : Config → ℕ → ℕ → ℕ → Type 0
IsAt c place chunk page = (chunk ≡ (log_area c).chunk) × (page ≡ (log_area c).first + place)

-- a scan refuses the first bad place, or else the first that shares a position
abbrev pub IsRefused : Config → (ℕ → Place) → ℕ → ℕ → Type 0
IsRefused c r chunk page = (place : ℕ) × IsAt c place chunk page × (IsFirstBad c r place ⊎ IsFirstShared c r place)

-- a fault of the disk raises the count of the log's chunk, and no other answer changes any
pub record HasScanCause {T : Type 0} (c : Config) (before now : ℕ → ℕ) (result : Result T ScanFault) : Type 0 where
  pub later : (chunk : ℕ) → before chunk ≤ now chunk
  pub fault : (chunk : ℕ) → IsErrOf result (DiskFault chunk) → (chunk ≡ (log_area c).chunk) × HasFailed (log_area c).chunk before now
  pub kept : ((chunk : ℕ) → IsErrOf result (DiskFault chunk) → ⊥) → now ≡ before
