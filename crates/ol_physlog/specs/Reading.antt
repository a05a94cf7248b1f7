-- What the reading of a physical log gives.
use Rattle.std.specs.Prelude.{IsErrOf, Option, option_map, position, List, Result, [], false, length, slice_index, slice_index_or, suc, true, zero, ℕ, ◌++◌, ◌+◌, ◌<◌, ◌∷◌, ◌≡◌, ◌≤◌, ◌⊎◌, Bool}
use Rattle.std.specs.List.{list_any}
use Rattle.ol_values.specs.Config.{Config}
use Rattle.ol_chunks.specs.Places.{physical_area}
use Rattle.ol_chunks.specs.declared.table.Area.{Area}
use Rattle.ol_ports.specs.Causes.{HasFailed}
use Rattle.ol_ports.specs.Disk.{Bytes}
use Rattle.ol_physlog.specs.Places.{Bad, Counts, EntryPlace, Idle, entry_at, head_page, is_open_at}
use Rattle.ol_physlog.specs.States.{Log, image_at, no_place, same_page}
use Rattle.ol_physlog.specs.declared.place.Place.{Place}
use Rattle.ol_physlog.specs.declared.reading.PhysFault.{PhysFault}
use Rattle.ol_physlog.specs.declared.reading.PhysFault.TheVariants.{DiskFault}

-- ---- the counting entries

-- an entry that counts
pub record Entry : Type 0 where
  pub number : ℕ
  pub place : Place
  pub image : List ℕ

-- an entry more, where it counts
abbrev pub with_entry : ℕ → EntryPlace → List Entry → List Entry
with_entry k Idle entries = entries
with_entry k Bad entries = entries
with_entry k (Counts place image) entries = entries ++ record { number = k; place = place; image = image } ∷ []

-- the counting ones of the first n entries of an area
unfoldable pub entries_below : Config → Area → ℕ → Bytes → ℕ → List Entry
entries_below c a generation d zero = []
entries_below c a generation d (suc n) = with_entry n (entry_at c a generation d n) (entries_below c a generation d n)

-- the counting entries of a disk, in order of their numbers
abbrev pub entries_on : Config → ℕ → Bytes → List Entry
entries_on c generation d = entries_below c (physical_area c) generation d (physical_area c).count

-- ---- what was read

pub record Found : Type 0 where
  -- the numbers of the counting entries, their pages and their images
  pub numbers : List ℕ
  pub places : List Place
  pub images : List (List ℕ)
  -- the numbers of the other entries
  pub others : List ℕ
  -- of each entry whether its gate is open
  pub gates : List Bool

-- the counting entries of these numbers, pages and images
unfoldable pub entries_of : List ℕ → List Place → List (List ℕ) → List Entry
entries_of (k ∷ numbers) (p ∷ places) (i ∷ images) = record { number = k; place = p; image = i } ∷ entries_of numbers places images
entries_of _ _ _ = []

abbrev pub entries_in : Found → List Entry
entries_in f = entries_of f.numbers f.places f.images

abbrev pub nothing_found : Found
nothing_found = record { numbers = []; places = []; images = []; others = []; gates = [] }

-- the next entry counts
abbrev pub with_counting : Found → Place → List ℕ → Found
with_counting f place image = record { numbers = f.numbers ++ length f.gates ∷ []; places = f.places ++ place ∷ []; images = f.images ++ image ∷ []; others = f.others; gates = f.gates ++ true ∷ [] }

-- the next entry does not count
abbrev pub with_other : Found → Bool → Found
with_other f is_open = record { numbers = f.numbers; places = f.places; images = f.images; others = f.others ++ length f.gates ∷ []; gates = f.gates ++ is_open ∷ [] }

abbrev pub found_place : Found → ℕ → Place
found_place f i = slice_index_or f.places i no_place

-- whether some counting entry is of this page
abbrev pub has_found : Found → Place → Bool
has_found f place = list_any (same_page place) f.places

-- each of the first entries is told once, and no page twice
pub record IsFound (f : Found) : Type 0 where
  pub paired : length f.places ≡ length f.numbers
  pub imaged : length f.images ≡ length f.numbers
  pub size : length f.numbers + length f.others ≡ length f.gates
  pub numbers : (i : ℕ) → i < length f.numbers → slice_index f.numbers i < length f.gates
  pub others : (i : ℕ) → i < length f.others → slice_index f.others i < length f.gates
  -- numbers ascend
  pub ascend : (i j : ℕ) → i < j → j < length f.numbers → slice_index f.numbers i < slice_index f.numbers j
  pub others_ascend : (i j : ℕ) → i < j → j < length f.others → slice_index f.others i < slice_index f.others j
  pub apart : (i j : ℕ) → i < length f.numbers → j < length f.others → slice_index f.numbers i ≡ slice_index f.others j → ⊥
  pub all : (k : ℕ) → k < length f.gates → ((i : ℕ) × (i < length f.numbers) × (slice_index f.numbers i ≡ k)) ⊎ ((i : ℕ) × (i < length f.others) × (slice_index f.others i ≡ k))
  pub pages : (i j : ℕ) → i < j → j < length f.places → same_page (found_place f j) (found_place f i) ≡ false

-- it tells what stands on a disk
pub record Tells (c : Config) (a : Area) (generation : ℕ) (d : Bytes) (f : Found) : Type 0 where
  pub counts : (i : ℕ) → i < length f.numbers → entry_at c a generation d (slice_index f.numbers i) ≡ Counts (found_place f i) (image_at f.images i)
  pub idle : (i : ℕ) → i < length f.others → entry_at c a generation d (slice_index f.others i) ≡ Idle
  pub gates : (k : ℕ) → k < length f.gates → is_open_at a d k ≡ slice_index_or f.gates k false
  pub entries : entries_in f ≡ entries_below c a generation d (length f.gates)

-- ---- refusals

-- an entry is off the grammar, or of the page of an earlier one that counts
abbrev pub IsRefused : Config → Area → ℕ → Bytes → ℕ → Type 0
IsRefused c a generation d k =
    (entry_at c a generation d k ≡ Bad)
    ⊎ ((earlier : ℕ) × (place : Place) × (old new : List ℕ) × (earlier < k) × (entry_at c a generation d earlier ≡ Counts place old) × (entry_at c a generation d k ≡ Counts place new))

-- the first that is
pub record IsFirstRefused (c : Config) (generation : ℕ) (d : Bytes) (k : ℕ) : Type 0 where
  pub within : k < (physical_area c).count
  pub refused : IsRefused c (physical_area c) generation d k
  pub before : (j : ℕ) → j < k → IsRefused c (physical_area c) generation d j → ⊥

-- a page is that of the head of an entry
abbrev pub IsHeadAt : Config → ℕ → ℕ → ℕ → Type 0
IsHeadAt c k chunk page = (chunk ≡ (physical_area c).chunk) × (page ≡ head_page (physical_area c) k)

-- the counts of faults never fall; a fault of the disk raises that of the log's chunk alone, and no other answer changes any
pub record HasReadCause {T : Type 0} (c : Config) (before now : ℕ → ℕ) (result : Result T PhysFault) : Type 0 where
  pub later : (chunk : ℕ) → before chunk ≤ now chunk
  pub fault : (chunk : ℕ) → IsErrOf result (DiskFault chunk) → (chunk ≡ (physical_area c).chunk) × HasFailed chunk before now
  pub kept : ((chunk : ℕ) → IsErrOf result (DiskFault chunk) → ⊥) → now ≡ before

-- ---- the log that an opening begins with

-- whose counting entries are settled, and whose other entries follow in order of their numbers
abbrev pub log_of : Config → ℕ → Found → Log
log_of c generation f = record { area = physical_area c; generation = generation; order = f.numbers ++ f.others; places = f.places; settled = length f.numbers; gates = f.gates }

-- the image of a page, where an entry of it counts
abbrev pub found_image : Found → Place → Option (List ℕ)
found_image f place = option_map (λ i. image_at f.images i) (position (same_page place) f.places)
