-- The bytes of a block as the value that definitions of shelves speak of.
use Rattle.std.specs.Prelude.{Bool, Err, List, None, Ok, Option, Result, Some, bytes_eq, drop, false, if◌then◌else◌, is_some, map, slice_index, take, true, ℕ, ◌&&◌, ◌<◌, ◌==◌, ◌^◌, ◌||◌, ◌≡◌, ◌≤◌, ◌⊎◌}
use Rattle.sha2.specs.Sha256.{sha256}
use Rattle.ol_values.specs.Blocks.{ArchiveHead, Block, Empty, HeadHeld, LogHeld, PageHeld, Payload, archive_object, log_object, page_kind, records_kind}
use Rattle.ol_values.specs.Config.{Config}
use Rattle.ol_values.specs.Image.{IsDataPage, page_in}
use Rattle.ol_rules.specs.Shelf.{Shelf}
use Rattle.ol_chunks.specs.Reading.{config_in_text}
use Rattle.ol_object.specs.Bytes.{head_of}
use Rattle.ol_object.specs.declared.block.Block.{Block as Head}
use Rattle.ol_page.specs.Testing.{is_data_page}
use Rattle.ol_record.specs.LogPages.{IsLogPage}
use Rattle.ol_record.specs.LogPages.{page_in as log_page_in}
use Rattle.ol_record.specs.PageReading.{page_at}
use Rattle.ol_block_reading.specs.Grammar.{IsArchiveHead, IsEnd, IsLogEnd, IsMark}
use Rattle.ol_block_reading.specs.Testing.{archive_head_in, has_marks, head_in, is_end, keeps_rules}

-- ---- what a payload holds

-- an archive head with the configuration that its text gives
abbrev pub with_config : ArchiveHead → Result Config ℕ → Payload
with_config head (Ok config) = HeadHeld head config
with_config head (Err line) = Empty

-- the archive head that the used bytes are
abbrev pub archive_head_held : ArchiveHead → Payload
archive_head_held head = with_config head (config_in_text head.text)

-- the data page that has this image, if there is one
abbrev pub page_held : List ℕ → Payload
page_held payload = if is_data_page payload then PageHeld (page_in payload) else Empty

-- the log page that has this image with an open gate, if there is one
abbrev pub log_held : List ℕ → Payload
log_held payload = if (slice_index payload 0 == 1) && is_some (page_at payload) then LogHeld (log_page_in payload) else Empty

-- the header and the trailer of an archive should hold an archive head
abbrev pub wants_head : Head → Bool
wants_head h = (h.object == archive_object) && is_end h

-- the page block of an archive should hold a data page
abbrev pub wants_page : Head → Bool
wants_page h = (h.object == archive_object) && (h.kind == page_kind)

-- the records block of a log should hold a log page
abbrev pub wants_log_page : Head → Bool
wants_log_page h = (h.object == log_object) && (h.kind == records_kind)

-- what the payload of a block with this head holds
unfoldable pub payload_in : Head → List ℕ → Payload
payload_in h payload =
    if wants_head h then archive_head_held (archive_head_in (take h.used payload))
    else (if wants_page h then page_held payload
    else (if wants_log_page h then log_held payload else Empty))

-- ---- blocks

-- the value of a head and a payload
abbrev pub value_of : Head → List ℕ → Block
value_of h payload = record {
  kind = h.kind;
  object = h.object;
  incarnation = h.incarnation;
  number = h.number;
  index = h.index;
  a = h.a;
  b = h.b;
  c = h.c;
  payload = payload_in h payload;
}

-- the bytes of head and payload, which the digest is over
abbrev pub digested : List ℕ → List ℕ
digested bytes = take 2112 bytes

-- the head that stands at its place
abbrev pub head_at : List ℕ → Head
head_at bytes = head_in (take 64 (digested bytes))

-- the payload that stands at its place
abbrev pub payload_at : List ℕ → List ℕ
payload_at bytes = drop 64 (digested bytes)

-- the mark of the format, a head and a payload that keep the rules, and their digest
unfoldable pub is_block : List ℕ → Bool
is_block bytes =
    has_marks (take 64 (digested bytes))
    && (keeps_rules (head_at bytes) (payload_at bytes) && bytes_eq (sha256 (digested bytes)) (drop 2112 bytes))

-- each number is a byte
abbrev pub AreBytes : List ℕ → Type 0
AreBytes bytes = (i : ℕ) → slice_index bytes i < 256

-- what a shelf shows of the bytes of a block; nothing where they are no block
unfoldable pub item_in : List ℕ → Option Block
item_in bytes = if is_block bytes then Some (value_of (head_at bytes) (payload_at bytes)) else None

-- the shelf that has these bytes in its blocks, by drive and volume
abbrev pub shelf_of : List (List (List (List ℕ))) → Shelf
shelf_of tapes = map (map (map item_in)) tapes

-- ---- which values there are

-- incarnation and number are at most 2^62, and the other numbers fit their fields
pub record HasNumbers (b : Block) : Type 0 where
  pub incarnation : b.incarnation ≤ 2 ^ 62
  pub number : b.number ≤ 2 ^ 62
  pub index : b.index < 2 ^ 32
  pub first : b.a < 2 ^ 64
  pub second : b.b < 2 ^ 64
  pub third : b.c < 2 ^ 64

-- the header or the trailer of an archive, with an archive head and the configuration of its text
pub record IsArchiveEndOf (b : Block) (head : ArchiveHead) (config : Config) : Type 0 where
  pub object : b.object ≡ archive_object
  pub kind : IsEnd (head_of b)
  pub cut : b.a < 2 ^ 62
  pub level : b.c ≤ 2
  pub archive : IsArchiveHead head
  pub text : config_in_text head.text ≡ Ok config

-- the block of a data page
abbrev pub IsPageBlock : Block → Type 0
IsPageBlock b = (b.object ≡ archive_object) × (b.kind ≡ page_kind)

-- the block of a log page
abbrev pub IsRecordsBlock : Block → Type 0
IsRecordsBlock b = (b.object ≡ log_object) × (b.kind ≡ records_kind) × (b.c ≡ 0)

-- a block may be written with this payload: one of its kind
abbrev pub HoldsWritten : Block → Payload → Type 0
HoldsWritten b Empty = IsLogEnd (head_of b) ⊎ IsMark (head_of b)
HoldsWritten b (HeadHeld head config) = IsArchiveEndOf b head config
HoldsWritten b (PageHeld page) = IsPageBlock b × IsDataPage page
HoldsWritten b (LogHeld page) = IsRecordsBlock b × IsLogPage page

-- a block that may be written to a tape
pub record IsWritten (b : Block) : Type 0 where
  pub numbers : HasNumbers b
  pub holds : HoldsWritten b b.payload

-- whether a block with this payload should hold a page, and holds nothing
abbrev pub lacks_page_in : Block → Payload → Bool
lacks_page_in b Empty = (b.kind == page_kind) || (b.kind == records_kind)
lacks_page_in b _ = false

-- whether a block should hold a page, and holds nothing
abbrev pub lacks_page : Block → Bool
lacks_page b = lacks_page_in b b.payload

-- a block may be read with this payload: one that may be written, or nothing where a page should be
abbrev pub HoldsRead : Block → Payload → Type 0
HoldsRead b x = HoldsWritten b x ⊎ ((lacks_page_in b x ≡ true) × (IsPageBlock b ⊎ IsRecordsBlock b))

-- a block that may be read from a tape
pub record IsRead (b : Block) : Type 0 where
  pub numbers : HasNumbers b
  pub holds : HoldsRead b b.payload
