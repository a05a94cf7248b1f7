-- The physical log as plain data, and what its disk holds.
use Rattle.std.specs.List.{list_any, range_with_len}
use Rattle.std.specs.Prelude.{Bool, List, [], drop, false, fold, length, replicate, slice_index, slice_index_or, slice_set, take, true, ℕ, ◌&&◌, ◌*◌, ◌++◌, ◌+◌, ◌<◌, ◌==◌, ◌^◌, ◌∷◌, ◌≡◌, ◌≢◌, ◌≤◌, ◌⊎◌}
use Rattle.ol_values.specs.Config.{Config}
use Rattle.ol_chunks.specs.declared.table.Area.{Area}
use Rattle.ol_ports.specs.Disk.{Bytes, Past, Rest, seen}
use Rattle.ol_physlog.specs.Heads.{IsPage}
use Rattle.ol_physlog.specs.Places.{Counts, HasBody, Idle, entry_at, gate_at, generation_at, is_open_at}
use Rattle.ol_physlog.specs.declared.place.Place.{Place}

pub record Log : Type 0 where
  -- where its entries stand
  pub area : Area
  pub generation : ℕ
  -- all entries, in the order in which they are taken
  pub order : List ℕ
  -- the pages of the added entries, which are the first of the order
  pub places : List Place
  -- how many of these, the first ones, are settled
  pub settled : ℕ
  -- of each entry whether its gate is open on the disk
  pub gates : List Bool

abbrev pub no_place : Place
no_place = record { space = 0; page = 0 }

-- the number of the entry that is taken at this turn
abbrev pub entry_number : Log → ℕ → ℕ
entry_number s j = slice_index s.order j

-- the page of the entry that was taken at this turn
abbrev pub place_at : Log → ℕ → Place
place_at s j = slice_index_or s.places j no_place

abbrev pub image_at : List (List ℕ) → ℕ → List ℕ
image_at images j = slice_index_or images j []

abbrev pub gate_of : Log → ℕ → Bool
gate_of s k = slice_index_or s.gates k false

-- the entry that is taken next
abbrev pub next_entry : Log → ℕ
next_entry s = entry_number s (length s.places)

-- an entry was not added
abbrev pub IsFree : Log → ℕ → Type 0
IsFree s k = (j : ℕ) → j < length s.places → entry_number s j ≢ k

-- two places are one
abbrev pub same_page : Place → Place → Bool
same_page a b = (a.space == b.space) && (a.page == b.page)

-- whether a page has an entry
abbrev pub has_entry : Log → Place → Bool
has_entry s place = list_any (same_page place) s.places

-- ---- its steps

abbrev pub with_shut : Log → ℕ → Log
with_shut s k = record { area = s.area; generation = s.generation; order = s.order; places = s.places; settled = s.settled; gates = slice_set s.gates k false }

abbrev pub with_place : Log → Place → Log
with_place s place = record { area = s.area; generation = s.generation; order = s.order; places = s.places ++ place ∷ []; settled = s.settled; gates = s.gates }

-- an entry more, behind a closed gate
abbrev pub with_added : Log → Place → Log
with_added s place = with_place (with_shut s (next_entry s)) place

-- these gates are open
unfoldable pub with_open : List Bool → List ℕ → List Bool
with_open gates entries = fold (λ g k. slice_set g k true) gates entries

-- the added entries that are not settled
abbrev pub unsettled : Log → List ℕ
unsettled s = drop s.settled (take (length s.places) s.order)

-- all added entries are settled
abbrev pub with_settled : Log → Log
with_settled s = record { area = s.area; generation = s.generation; order = s.order; places = s.places; settled = length s.places; gates = with_open s.gates (unsettled s) }

-- no entry is added, for a new generation
abbrev pub emptied : Log → ℕ → Log
emptied s generation = record { area = s.area; generation = generation; order = range_with_len 0 s.area.count; places = []; settled = 0; gates = replicate s.area.count false }

-- ---- what is always so

pub record IsLog (s : Log) : Type 0 where
  pub some : 1 ≤ s.area.count
  pub pages : s.area.pages ≡ 2
  pub fits : s.area.first + 2 * s.area.count < 2 ^ 16
  pub generation : s.generation < 2 ^ 64
  -- each entry is taken once
  pub order : length s.order ≡ s.area.count
  pub below : (j : ℕ) → j < s.area.count → entry_number s j < s.area.count
  pub apart : (i j : ℕ) → i < s.area.count → j < s.area.count → entry_number s i ≡ entry_number s j → i ≡ j
  pub gates : length s.gates ≡ s.area.count
  pub places : length s.places ≤ s.area.count
  pub settled : s.settled ≤ length s.places
  -- no page has two entries
  pub once : (i j : ℕ) → i < j → j < length s.places → same_page (place_at s j) (place_at s i) ≡ false

-- ---- what its disk holds

-- no open entry is of a later generation
abbrev pub NoneLater : Area → Bytes → ℕ → Type 0
NoneLater a d generation = (k : ℕ) → k < a.count → gate_at a d k ≡ 1 → generation_at a d k ≤ generation

-- of a disk: each settled entry counts with its page and its image, each other added one so or not at all, no other counts, and no open entry is of a later generation
pub record HoldsEntries (c : Config) (s : Log) (images : List (List ℕ)) (d : Bytes) : Type 0 where
  pub settled : (j : ℕ) → j < s.settled → entry_at c s.area s.generation d (entry_number s j) ≡ Counts (place_at s j) (image_at images j)
  pub added : (j : ℕ) → s.settled ≤ j → j < length s.places → (entry_at c s.area s.generation d (entry_number s j) ≡ Idle) ⊎ (entry_at c s.area s.generation d (entry_number s j) ≡ Counts (place_at s j) (image_at images j))
  pub others : (k : ℕ) → k < s.area.count → IsFree s k → entry_at c s.area s.generation d k ≡ Idle
  pub older : NoneLater s.area d s.generation

-- of a disk between calls: the gates are those of the state, settled entries count, no others do, and no open entry is of a later generation
pub record IsLaidOn (c : Config) (s : Log) (images : List (List ℕ)) (d : Bytes) : Type 0 where
  pub gates : (k : ℕ) → k < s.area.count → is_open_at s.area d k ≡ gate_of s k
  pub settled : (j : ℕ) → j < s.settled → entry_at c s.area s.generation d (entry_number s j) ≡ Counts (place_at s j) (image_at images j)
  pub others : (k : ℕ) → k < s.area.count → IsFree s k → entry_at c s.area s.generation d k ≡ Idle
  pub older : NoneLater s.area d s.generation

-- between calls: so is each image that a stop may leave, and what is added and not settled stands there whole behind closed gates
pub record IsLaid (c : Config) (past : Past) (s : Log) (images : List (List ℕ)) : Type 0 where
  pub is : IsLog s
  pub paired : length images ≡ length s.places
  pub pages : (j : ℕ) → s.settled ≤ j → j < length s.places → IsPage c (place_at s j)
  pub each : (d : Bytes) → Rest past d → IsLaidOn c s images d
  pub body : (j : ℕ) → s.settled ≤ j → j < length s.places → HasBody s.area s.generation (seen past) (entry_number s j) (place_at s j) (image_at images j)
  pub shut : (j : ℕ) → s.settled ≤ j → j < length s.places → gate_of s (entry_number s j) ≡ false

-- ---- on the way

-- of a disk while gates are opened: all added entries stand there whole, and all other gates are as they were
pub record IsOpeningOn (c : Config) (s : Log) (images : List (List ℕ)) (d : Bytes) : Type 0 where
  pub settled : (j : ℕ) → j < s.settled → entry_at c s.area s.generation d (entry_number s j) ≡ Counts (place_at s j) (image_at images j)
  pub body : (j : ℕ) → s.settled ≤ j → j < length s.places → HasBody s.area s.generation d (entry_number s j) (place_at s j) (image_at images j)
  pub gates : (k : ℕ) → k < s.area.count → ((j : ℕ) → s.settled ≤ j → j < length s.places → entry_number s j ≢ k) → is_open_at s.area d k ≡ gate_of s k
  pub others : (k : ℕ) → k < s.area.count → IsFree s k → entry_at c s.area s.generation d k ≡ Idle
  pub older : NoneLater s.area d s.generation

-- the gates of the first turns are opened
pub record IsOpening (c : Config) (past : Past) (s : Log) (images : List (List ℕ)) (upto : ℕ) : Type 0 where
  pub is : IsLog s
  pub paired : length images ≡ length s.places
  pub pages : (j : ℕ) → s.settled ≤ j → j < length s.places → IsPage c (place_at s j)
  pub each : (d : Bytes) → Rest past d → IsOpeningOn c s images d
  pub opened : (j : ℕ) → s.settled ≤ j → j < upto → gate_at s.area (seen past) (entry_number s j) ≡ 1

-- of a disk while gates are closed: those from an entry on are as they were, and no open entry is of a later generation
pub record IsClosingOn (s : Log) (upto : ℕ) (d : Bytes) : Type 0 where
  pub gates : (k : ℕ) → upto ≤ k → k < s.area.count → is_open_at s.area d k ≡ gate_of s k
  pub older : NoneLater s.area d s.generation

-- the gates of the first entries are closed
pub record IsClosing (past : Past) (s : Log) (upto : ℕ) : Type 0 where
  pub is : IsLog s
  pub closed : (k : ℕ) → k < upto → gate_at s.area (seen past) k ≢ 1
  pub each : (d : Bytes) → Rest past d → IsClosingOn s upto d

-- whatever a stop leaves, no gate is open
abbrev pub AreShut : Past → Area → Type 0
AreShut past a = (d : Bytes) → Rest past d → (k : ℕ) → k < a.count → gate_at a d k ≢ 1
