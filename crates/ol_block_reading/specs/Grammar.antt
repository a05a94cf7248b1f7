-- Which heads and payloads are blocks of a tape, and what an archive head is.
use Rattle.std.specs.Prelude.{List, Ok, [], drop, length, replicate, take, ℕ, ◌+◌, ◌-◌, ◌<◌, ◌^◌, ◌∷◌, ◌≡◌, ◌≤◌, ◌⊎◌}
use Rattle.ol_values.specs.Blocks.{ArchiveHead, Saved, archive_object, header_kind, log_object, mark_kind, mark_object, page_kind, records_kind, trailer_kind}
use Rattle.ol_values.specs.Config.{Config}
use Rattle.ol_chunks.specs.Reading.{config_in_text}
use Rattle.ol_object.specs.Bytes.{archive_head_bytes}
use Rattle.ol_object.specs.declared.block.Block.{Block}

-- ---- archive heads

-- a space that is one of so many, with a parent and a base of 8 bytes each
pub record IsSaved (spaces : ℕ) (s : Saved) : Type 0 where
  pub space : s.space < spaces
  pub parent : s.parent < 2 ^ 64
  pub base : s.base < 2 ^ 64

-- spaces that are some of so many, in ascending order, the first at least this one
abbrev pub AreAscending : ℕ → ℕ → List Saved → Type 0
AreAscending spaces least [] = Unit {0}
AreAscending spaces least (s ∷ rest) = (least ≤ s.space) × IsSaved spaces s × AreAscending spaces (s.space + 1) rest

-- 1 to 16 spaces in ascending order, and the text of a configuration that has them
pub record IsArchiveHead (h : ArchiveHead) : Type 0 where
  pub some : 1 ≤ length h.spaces
  pub few : length h.spaces ≤ 16
  pub spaces : (c : Config) × (config_in_text h.text ≡ Ok c) × AreAscending (length c.spaces) 0 h.spaces

-- ---- blocks

-- a header or a trailer
abbrev pub IsEnd : Block → Type 0
IsEnd h = (h.kind ≡ header_kind) ⊎ (h.kind ≡ trailer_kind)

-- the header or the trailer of an archive: its cut, its level, and an archive head as its used bytes
pub record IsArchiveEnd (h : Block) (used : List ℕ) : Type 0 where
  pub object : h.object ≡ archive_object
  pub kind : IsEnd h
  pub cut : h.a < 2 ^ 62
  pub level : h.c ≤ 2
  pub head : (head : ArchiveHead) × IsArchiveHead head × (used ≡ archive_head_bytes head)

-- a page of an archive, which fills the payload
pub record IsArchivePage (h : Block) : Type 0 where
  pub object : h.object ≡ archive_object
  pub kind : h.kind ≡ page_kind
  pub used : h.used ≡ 2048

-- the header or the trailer of a log: its first and its last position
pub record IsLogEnd (h : Block) : Type 0 where
  pub object : h.object ≡ log_object
  pub kind : IsEnd h
  pub first : h.a < 2 ^ 62
  pub last : h.b < 2 ^ 62
  pub no_more : h.c ≡ 0
  pub used : h.used ≡ 0

-- records of a log, which fill the payload
pub record IsLogRecords (h : Block) : Type 0 where
  pub object : h.object ≡ log_object
  pub kind : h.kind ≡ records_kind
  pub no_more : h.c ≡ 0
  pub used : h.used ≡ 2048

-- a mark: the end of the restore that began the new incarnation
pub record IsMark (h : Block) : Type 0 where
  pub object : h.object ≡ mark_object
  pub kind : h.kind ≡ mark_kind
  pub end_ : h.a < 2 ^ 62
  pub no_second : h.b ≡ 0
  pub no_third : h.c ≡ 0
  pub used : h.used ≡ 0

-- a head, with the used bytes of its payload, is of one of the five kinds
abbrev pub HasKind : Block → List ℕ → Type 0
HasKind h used = IsArchiveEnd h used ⊎ (IsArchivePage h ⊎ (IsLogEnd h ⊎ (IsLogRecords h ⊎ IsMark h)))

-- the fields of a head hold their numbers
pub record FieldsFit (h : Block) : Type 0 where
  pub kind : h.kind < 2 ^ 8
  pub object : h.object < 2 ^ 8
  pub incarnation : h.incarnation < 2 ^ 64
  pub number : h.number < 2 ^ 64
  pub index : h.index < 2 ^ 32
  pub used : h.used < 2 ^ 32
  pub a : h.a < 2 ^ 64
  pub b : h.b < 2 ^ 64
  pub c : h.c < 2 ^ 64

-- the head of a block, and its payload of 2,048 bytes, which is zero behind its used bytes
pub record IsBlock (h : Block) (payload : List ℕ) : Type 0 where
  pub fields : FieldsFit h
  pub incarnation : h.incarnation ≤ 2 ^ 62
  pub number : h.number ≤ 2 ^ 62
  pub whole : length payload ≡ 2048
  pub used : h.used ≤ 2048
  pub rest : drop h.used payload ≡ replicate (2048 - h.used) 0
  pub kind : HasKind h (take h.used payload)
