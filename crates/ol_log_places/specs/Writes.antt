-- What writes to the log make of its places.
use Rattle.std.specs.Prelude.{Bool, List, false, if◌then◌else◌, length, nat_le, nat_lt, slice_index_or, true, ℕ, ◌&&◌, ◌*◌, ◌+◌, ◌<◌, ◌==◌, ◌≡◌, ◌≢◌, ◌≤◌, ◌⊎◌}
use Rattle.ol_values.specs.declared.record.Record.{Record}
use Rattle.ol_values.specs.Config.{Config, log_pages}
use Rattle.ol_values.specs.LogPages.{LogPage}
use Rattle.ol_rules.specs.Ring.{file_of}
use Rattle.ol_record.specs.LogPages.{IsImage, IsLogPage, page_in}
use Rattle.ol_ports.specs.Disk.{Bytes, Past, Rest, seen}
use Rattle.ol_log_places.specs.Places.{Closed, Open, Place, Shows, is_of_place, places}
use Rattle.ol_log_places.specs.Runs.{Stands, end_of, journal_at}

-- the bytes are a log page of this place, whatever the gate byte is
pub record IsPageOf (c : Config) (place : ℕ) (bytes : List ℕ) : Type 0 where
  pub page : IsLogPage (page_in bytes)
  pub image : IsImage bytes
  pub here : is_of_place c place (page_in bytes) ≡ true

-- the places with a page at one of them
unfoldable pub with_page : (ℕ → Place) → ℕ → LogPage → ℕ → Place
with_page r place p k = if k == place then Open p else r k

-- the page stands there or not, and all else is as it was
abbrev pub MayHavePage : Config → (ℕ → Place) → ℕ → LogPage → Bytes → Type 0
MayHavePage c r place p d = Shows c d r ⊎ Shows c d (with_page r place p)

-- whether a place is one of a file's
unfoldable pub is_in_file : Config → ℕ → ℕ → Bool
is_in_file c file k = nat_le (file * c.log_file_pages) k && nat_lt k (file * c.log_file_pages + c.log_file_pages)

-- the places with those of a file closed
unfoldable pub without_file : Config → ℕ → (ℕ → Place) → ℕ → Place
without_file c file r k = if is_in_file c file k then Closed else r k

-- some places of a file may be closed, and all else is as it was
abbrev pub MayBeClosed : Config → (ℕ → Place) → ℕ → Bytes → Type 0
MayBeClosed c r file d = (k : ℕ) → k < log_pages c → (places c d k ≡ r k) ⊎ ((is_in_file c file k ≡ true) × (places c d k ≡ Closed))

-- whether a gate is open
abbrev pub IsGate : Bool → Place → Type 0
IsGate true place = place ≢ Closed
IsGate false place = place ≡ Closed

-- these gates are open, and no others
abbrev pub GatesAre : List Bool → (ℕ → Place) → Type 0
GatesAre gates r = (k : ℕ) → k < length gates → IsGate (slice_index_or gates k false) (r k)

-- no gate of this file is open
abbrev pub IsShutFile : Config → ℕ → List Bool → Type 0
IsShutFile c file gates = (k : ℕ) → is_in_file c file k ≡ true → slice_index_or gates k false ≡ false

-- the gates of a file's places below k are being closed: places of a stop are as before or closed, and the disk reads them as closed
pub record IsClosing (past : Past) (c : Config) (r : ℕ → Place) (file k : ℕ) : Type 0 where
  pub rest : (d : Bytes) → Rest past d → (j : ℕ) → j < log_pages c → (places c d j ≡ r j) ⊎ ((is_in_file c file j ≡ true) × (j < k) × (places c d j ≡ Closed))
  pub shut : (j : ℕ) → j < k → is_in_file c file j ≡ true → places c (seen past) j ≡ Closed

-- ---- what keeps a log

-- some open pages are closed, all of which end at or below need
abbrev pub IsThinned : Config → ℕ → (ℕ → Place) → (ℕ → Place) → Type 0
IsThinned c need old new = (k : ℕ) → k < log_pages c → (new k ≡ old k) ⊎ ((new k ≡ Closed) × ((p : LogPage) → old k ≡ Open p → end_of p ≤ need))

-- a page may be put at a place: that is closed, the page has records of the journal, open pages of its file have its unique number and lower indexes, and no open page has a greater number
pub record IsNext (c : Config) (r : ℕ → Place) (j : ℕ → Record) (place : ℕ) (p : LogPage) : Type 0 where
  pub within : place < log_pages c
  pub shut : r place ≡ Closed
  pub some : 0 < length p.records
  pub agrees : p.records ≡ journal_at j p.first (length p.records)
  pub behind : (q : LogPage) → Stands r (log_pages c) q → file_of c q.uniq ≡ file_of c p.uniq → (q.uniq ≡ p.uniq) × (q.index < p.index)
  pub newest : (q : LogPage) → Stands r (log_pages c) q → q.uniq ≤ p.uniq

-- each open page of this file ends at or below need
abbrev pub IsFreeFile : Config → ℕ → ℕ → (ℕ → Place) → Type 0
IsFreeFile c need file r = (k : ℕ) (p : LogPage) → k < log_pages c → is_in_file c file k ≡ true → r k ≡ Open p → end_of p ≤ need
