-- What a scan holds of the blocks that it was fed.
use Rattle.std.proofs.Common.{get_or}
use Rattle.std.specs.List.{All, enumerate_from}
use Rattle.std.specs.List.Sorted.{IsNonDecreasingBy}
use Rattle.std.specs.Prelude.{Bool, List, None, Option, Some, [], drop, find, fold, is_none, is_some, length, map, not, true, ℕ, ◌&&◌, ◌+◌, ◌<◌, ◌==◌, ◌||◌, ◌≡◌, ◌≤◌, ◌⊎◌}
use Rattle.ol_values.specs.Blocks.{Block, header_kind, mark_kind, trailer_kind}
use Rattle.ol_rules.specs.Plan.{covers, is_before}
use Rattle.ol_rules.specs.Shelf.{Object, Placed, Reached, objects_of, reach_on, readable_item}
use Rattle.ol_object_spans.specs.declared.header.Header.{Header}
use Rattle.ol_object_spans.specs.declared.header.Live.{Live}
use Rattle.ol_object_spans.specs.declared.header.Progress.{Progress}
use Rattle.ol_object_spans.specs.declared.header.Stopped.{Stopped}
use Rattle.ol_object_spans.specs.declared.headers.Headers.{Headers}
use Rattle.ol_object_spans.specs.declared.place.Place.{Place}
use Rattle.ol_object_spans.specs.declared.state.ScanState.{ScanState}
use Rattle.ol_object_spans.specs.Objects.{first_place, object_told, place_told, started}
use Rattle.ol_object_spans.specs.Passing.{start_of, starts_at}
use Rattle.ol_object_spans.specs.Places.{place_in}
use Rattle.ol_object_spans.specs.Told.{IsItem, head_told, held_told}
use Rattle.ol_object_spans.specs.Values.{HeadersValue, ScanValue, headers_value, scan_value}

-- ---- what was fed

-- a block at a place, which counts as none where a number of it is too great
abbrev pub placed : Place → Option Block → Placed
placed place b = record { drive = place.drive; volume = place.volume; block = place.block; item = readable_item b }

-- bytes that are no block, or an item
abbrev pub IsItemIn : Option Block → Type 0
IsItemIn None = Unit {0}
IsItemIn (Some b) = IsItem b

-- what stands behind the end of a stream
abbrev pub no_block : Placed
no_block = record { drive = 0; volume = 0; block = 0; item = None }

-- the block of an index in a stream
abbrev pub block_at : List Placed → ℕ → Placed
block_at l i = get_or l i no_block

-- what its bytes are
abbrev pub item_at : List Placed → ℕ → Option Block
item_at l i = (block_at l i).item

-- places of a stream that come one behind the other
abbrev pub AreRising : List Placed → Type 0
AreRising l = (i j : ℕ) → i < j → j < length l → is_before (block_at l i) (block_at l j) ≡ true

-- ---- headers

-- the block of an index is a header of index 0
pub record IsHeaderAt (l : List Placed) (s : ℕ) (h : Block) : Type 0 where
  pub item : item_at l s ≡ Some h
  pub kind : h.kind ≡ header_kind
  pub index : h.index ≡ 0

-- a header that is held is the one of its index, as it is told
pub record IsHeaderOf (l : List Placed) (x : Header) (h : Block) : Type 0 where
  pub there : IsHeaderAt l x.start h
  pub head : x.head ≡ head_told h
  pub held : x.held ≡ held_told h.payload

-- what a span has come to before its first block
abbrev pub unread : Block → Reached
unread h = record { space = 0; page = 0; position = h.a; sure = true; bad = [] }

-- what a span has come to, as an object of this head
abbrev pub course : Block → List Placed → Reached
course h span = fold (λ (r : Reached) (p : ℕ × Placed). reach_on h r p.1 p.0 p.1.item) (unread h) (enumerate_from 0 span)

-- the space of the last page, 0 where there is none
abbrev pub space_of : Option (ℕ × ℕ) → ℕ
space_of None = 0
space_of (Some last) = last.0

-- the page behind the last one, 0 where there is none
abbrev pub page_behind : Option (ℕ × ℕ) → ℕ
page_behind None = 0
page_behind (Some last) = last.1 + 1

-- what a span has come to in which each block belongs
abbrev pub reached : Progress → Reached
reached p = record { space = space_of p.last; page = page_behind p.last; position = p.position; sure = true; bad = [] }

-- a span in which each block belongs so far
pub record IsLiveOf (l : List Placed) (x : Live) : Type 0 where
  pub block : Block
  pub header : IsHeaderOf l x.header block
  pub come : course block (drop x.header.start l) ≡ reached x.progress

-- a span with its first bad block
pub record IsStoppedOf (l : List Placed) (x : Stopped) : Type 0 where
  pub block : Block
  pub header : IsHeaderOf l x.header block
  pub come : first_place (course block (drop x.header.start l)).bad ≡ Some x.bad

-- the span that goes on, if there is one
abbrev pub IsLive : List Placed → Option Live → Type 0
IsLive l None = Unit {0}
IsLive l (Some x) = IsLiveOf l x

-- the span that begins at this index goes on
abbrev pub GoesOnFrom : ℕ → Option Live → Type 0
GoesOnFrom s None = ⊥
GoesOnFrom s (Some x) = x.header.start ≡ s

-- headers that begin before the one whose span goes on, or with it
abbrev pub AreBefore : List Stopped → Option Live → Type 0
AreBefore items None = Unit {0}
AreBefore items (Some x) = All (λ (s : Stopped). s.header.start ≤ x.header.start) items

-- each header of index 0 before a number of blocks is held, as one whose span goes on or has stopped, in order
pub record HasHeaders (l : List Placed) (count : ℕ) (h : HeadersValue) : Type 0 where
  pub stopped : All (IsStoppedOf l) h.stopped
  pub live : IsLive l h.live
  pub rising : IsNonDecreasingBy start_of h.stopped
  pub before : AreBefore h.stopped h.live
  pub all : (s : ℕ) (b : Block) → s < count → IsHeaderAt l s b → GoesOnFrom s h.live ⊎ (is_some (find (starts_at s) h.stopped) ≡ true)

-- the same of the struct
abbrev pub AreHeaders : List Placed → ℕ → Headers → Type 0
AreHeaders l count h = HasHeaders l count (headers_value h)

-- ---- the first block outside

-- a block ends an object that begins at s and ends at t
abbrev pub is_span : Block → ℕ → ℕ → Bool
is_span b s t = ((b.kind == mark_kind) && (s == t)) || ((b.kind == trailer_kind) && (s + b.index == t))

-- an object covers the block of an index
pub record IsCovered (l : List Placed) (i : ℕ) : Type 0 where
  pub s : ℕ
  pub t : ℕ
  pub b : Block
  pub item : item_at l t ≡ Some b
  pub span : is_span b s t ≡ true
  pub from : s ≤ i
  pub to : i ≤ t

-- a block is the first that is none and that no object covers
pub record IsFirstOutside (l : List Placed) (j : ℕ) : Type 0 where
  pub there : j < length l
  pub none : item_at l j ≡ None
  pub bare : IsCovered l j → ⊥
  pub first : (i : ℕ) → i < j → item_at l i ≡ None → IsCovered l i

-- the first such block, or that there is none
abbrev pub IsOutside : List Placed → Option ℕ → Type 0
IsOutside l None = (i : ℕ) → i < length l → item_at l i ≡ None → IsCovered l i
IsOutside l (Some j) = IsFirstOutside l j

-- the first block of a stream that no object covers and whose bytes are no block
abbrev pub first_outside : List Placed → Option Placed
first_outside l = find (λ (p : Placed). is_none p.item && not (covers (objects_of l) p)) l

-- ---- the scan

-- a scan that has counted some blocks, noted places, and been fed some
pub record IsScanned (counted noted fed : List Placed) (s : ScanValue) : Type 0 where
  pub count : s.count ≡ length counted
  pub places : (i : ℕ) → i < length noted → place_in s.runs i ≡ place_told (block_at noted i)
  pub headers : HasHeaders fed (length fed) s.headers
  pub starts : s.starts ≡ map (λ (p : ℕ × Object). p.0) (started fed)
  pub objects : s.objects ≡ map (λ (p : ℕ × Object). object_told p.1) (started fed)
  pub outside : IsOutside fed s.outside
  pub items : (i : ℕ) (b : Block) → item_at fed i ≡ Some b → IsItem b

-- a scan that was fed these blocks
abbrev pub IsScanOf : List Placed → ScanValue → Type 0
IsScanOf l s = IsScanned l l l s

-- the same of the struct
abbrev pub HasScanned : List Placed → List Placed → List Placed → ScanState → Type 0
HasScanned counted noted fed s = IsScanned counted noted fed (scan_value s)
