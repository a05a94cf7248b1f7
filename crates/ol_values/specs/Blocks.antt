-- Tape blocks as values: a head, and what the payload holds.
use Rattle.std.specs.Prelude.{List, length, ℕ}
use Rattle.ol_values.specs.Config.{Config}
use Rattle.ol_values.specs.LogPages.{LogPage}
use Rattle.ol_values.specs.Pages.{Page}

-- a space of an archive: its number, its parent's number and its base, which are 0 at level 0
pub record Saved : Type 0 where
  pub space : ℕ
  pub parent : ℕ
  pub base : ℕ

-- a page that an archive holds
pub record SavedPage : Type 0 where
  pub space : ℕ
  pub page : ℕ
  pub image : Page

-- ---- what a payload holds

-- an archive head: the spaces in ascending order, and the text of the configuration
pub record ArchiveHead : Type 0 where
  pub spaces : List Saved
  pub text : List ℕ

-- nothing, an archive head with the configuration of its text, a data page or a log page
pub data Payload : Type 0 where
  Empty : Payload
  HeadHeld : (head : ArchiveHead) → (config : Config) → Payload
  PageHeld : (page : Page) → Payload
  LogHeld : (page : LogPage) → Payload

-- ---- blocks

-- a block: its kind, the object that it is of, with the object's incarnation and number, its index in the object, three numbers by kind, and its payload
pub record Block : Type 0 where
  pub kind : ℕ
  pub object : ℕ
  pub incarnation : ℕ
  pub number : ℕ
  pub index : ℕ
  pub a : ℕ
  pub b : ℕ
  pub c : ℕ
  pub payload : Payload

abbrev pub header_kind : ℕ
header_kind = 1

abbrev pub page_kind : ℕ
page_kind = 2

abbrev pub records_kind : ℕ
records_kind = 3

abbrev pub trailer_kind : ℕ
trailer_kind = 4

abbrev pub mark_kind : ℕ
mark_kind = 5

abbrev pub archive_object : ℕ
archive_object = 1

abbrev pub log_object : ℕ
log_object = 2

abbrev pub mark_object : ℕ
mark_object = 3

-- the header or the trailer of an archive: its cut, its low and its level, its head, and the configuration of that
abbrev pub archive_end : ℕ → ℕ → ℕ → ℕ → ℕ → ℕ → ℕ → ArchiveHead → Config → Block
archive_end kind incarnation number index cut low level head config = record {
  kind = kind;
  object = archive_object;
  incarnation = incarnation;
  number = number;
  index = index;
  a = cut;
  b = low;
  c = level;
  payload = HeadHeld head config;
}

-- the block of a page: its space, its number and its stamp
abbrev pub archive_page : ℕ → ℕ → ℕ → SavedPage → Block
archive_page incarnation number index p = record {
  kind = page_kind;
  object = archive_object;
  incarnation = incarnation;
  number = number;
  index = index;
  a = p.space;
  b = p.page;
  c = p.image.stamp;
  payload = PageHeld p.image;
}

-- the header or the trailer of a log object: the first and the last position of its log file
abbrev pub log_end : ℕ → ℕ → ℕ → ℕ → ℕ → ℕ → Block
log_end kind incarnation uniq index first last = record {
  kind = kind;
  object = log_object;
  incarnation = incarnation;
  number = uniq;
  index = index;
  a = first;
  b = last;
  c = 0;
  payload = Empty;
}

-- the block of a log page: its first position, and how many records it has
abbrev pub log_records : ℕ → LogPage → Block
log_records index p = record {
  kind = records_kind;
  object = log_object;
  incarnation = p.incarnation;
  number = p.uniq;
  index = index;
  a = p.first;
  b = length p.records;
  c = 0;
  payload = LogHeld p;
}

-- a mark: a new incarnation, and the end of the restore that began it
abbrev pub mark : ℕ → ℕ → Block
mark incarnation end_ = record {
  kind = mark_kind;
  object = mark_object;
  incarnation = incarnation;
  number = incarnation;
  index = 0;
  a = end_;
  b = 0;
  c = 0;
  payload = Empty;
}
