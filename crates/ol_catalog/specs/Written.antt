-- An archive as the archiver writes it on a drive, and what a catalog tells of it.
use Rattle.std.specs.List.{All}
use Rattle.std.specs.Prelude.{Bool, List, None, Ok, Some, [], length, map, true, ℕ, ◌+◌, ◌<◌, ◌==◌, ◌^◌, ◌∷◌, ◌≡◌, ◌≤◌, ◌⊎◌}
use Rattle.ol_values.specs.Blocks.{ArchiveHead, Block, Saved, SavedPage, archive_end, trailer_kind}
use Rattle.ol_values.specs.Config.{Config, has_page}
use Rattle.ol_values.specs.Image.{IsDataPage}
use Rattle.ol_ports.specs.Drive.{blocks_in_order}
use Rattle.ol_ports.specs.Shelf.{volumes_at}
use Rattle.ol_rules.specs.Restored.{archive_blocks_of}
use Rattle.ol_rules.specs.Shelf.{Object, saved_in}
use Rattle.ol_chunks.specs.Reading.{config_in_text}
use Rattle.ol_object.specs.Bytes.{bytes_of}
use Rattle.ol_block_reading.specs.Grammar.{IsArchiveHead}
use Rattle.ol_object_spans.specs.declared.object.Object as told
use Rattle.ol_object_spans.specs.Objects.{first_place, place_or}
use Rattle.ol_object_spans.specs.Told.{head_told}
use Rattle.ol_catalog.specs.Streams.{drive_blocks}

-- ---- its blocks

-- an archive: what its header tells, and its pages
pub record Archived : Type 0 where
  pub incarnation : ℕ
  pub number : ℕ
  pub cut : ℕ
  pub low : ℕ
  pub level : ℕ
  pub head : ArchiveHead
  pub config : Config
  pub pages : List SavedPage

-- its trailer, behind all pages
abbrev pub trailer_of : Archived → Block
trailer_of x = archive_end trailer_kind x.incarnation x.number (length x.pages + 1) x.cut x.low x.level x.head x.config

-- its header, a block for each page, and its trailer
abbrev pub blocks_of_archive : Archived → List Block
blocks_of_archive x = archive_blocks_of x.incarnation x.number x.cut x.low x.level x.head x.config x.pages

-- ---- which archives there are

-- pages that ascend by space and page, the first not before this place
abbrev pub AreInOrder : ℕ → ℕ → List SavedPage → Type 0
AreInOrder space page [] = Unit {0}
AreInOrder space page (p ∷ rest) = ((space < p.space) ⊎ ((space ≡ p.space) × (page ≤ p.page))) × AreInOrder p.space (p.page + 1) rest

-- a page that the configuration has, of a space of the archive, with an image whose stamp is above the space's base and at most the cut
pub record IsPageOf (x : Archived) (p : SavedPage) : Type 0 where
  pub space : Saved
  pub held : saved_in p.space x.head.spaces ≡ Some space
  pub there : has_page x.config p.space p.page ≡ true
  pub image : IsDataPage p.image
  pub above : space.base < p.image.stamp
  pub upto : p.image.stamp ≤ x.cut

-- an archive whose blocks may be written: its numbers are within limits, its text gives its configuration, and its pages are in order
pub record IsArchived (x : Archived) : Type 0 where
  pub incarnation : x.incarnation ≤ 2 ^ 60
  pub number : x.number ≤ 2 ^ 60
  pub cut : x.cut < 2 ^ 62
  pub low : x.low < 2 ^ 64
  pub level : x.level ≤ 2
  pub head : IsArchiveHead x.head
  pub text : config_in_text x.head.text ≡ Ok x.config
  pub few : length x.pages + 1 < 2 ^ 32
  pub order : AreInOrder 0 0 x.pages
  pub pages : All (IsPageOf x) x.pages

-- ---- on a drive

-- the volumes of the drive, laid end to end, are the bytes of the archive's blocks
abbrev pub IsOnDrive : List (List (List (List ℕ))) → ℕ → Archived → Type 0
IsOnDrive tapes drive x = blocks_in_order (volumes_at tapes drive) ≡ map bytes_of (blocks_of_archive x)

-- the object that it is there: its trailer, and all blocks of the drive
abbrev pub object_on : List (List (List (List ℕ))) → ℕ → Archived → Object
object_on tapes drive x = record { head = trailer_of x; span = drive_blocks tapes drive }

-- what is told of the archive there: the place of the drive's first block, the fields of the trailer, no bad block, and head and configuration
abbrev pub archive_told : List (List (List (List ℕ))) → ℕ → Archived → told.Object
archive_told tapes drive x = record {
  place = place_or (first_place (drive_blocks tapes drive));
  head = head_told (trailer_of x);
  blocks = length x.pages + 2;
  bad = None;
  archive = Some (x.head, x.config);
}

-- an object that begins on this drive
abbrev pub is_of_drive : ℕ → told.Object → Bool
is_of_drive drive o = o.place.drive == drive
