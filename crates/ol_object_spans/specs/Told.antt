-- A block of ol_rules as the scan is told it.
use Rattle.std.specs.Prelude.{Bool, None, Ok, Option, Some, bytes_eq, false, if◌then◌else◌, length, nat_le, true, ℕ, ◌&&◌, ◌==◌, ◌^◌, ◌≡◌}
use Rattle.ol_values.specs.Blocks.{ArchiveHead, Block, Empty, HeadHeld, LogHeld, PageHeld, Payload, header_kind}
use Rattle.ol_values.specs.Config.{Config}
use Rattle.ol_chunks.specs.Reading.{config_in_text}
use Rattle.ol_rules.specs.Shelf.{same_saved}
use Rattle.ol_object_spans.specs.declared.block.BlockHead.{BlockHead}
use Rattle.ol_object_spans.specs.declared.block.Held.{Held}
use Rattle.ol_object_spans.specs.declared.block.Held.TheVariants.{Archive, Log, Nothing, Page}
use Rattle.ol_object_spans.specs.declared.block.ReadBlock.{ReadBlock}

-- the fields of a block
abbrev pub head_told : Block → BlockHead
head_told b = record {
  kind = b.kind;
  object = b.object;
  incarnation = b.incarnation;
  number = b.number;
  index = b.index;
  a = b.a;
  b = b.b;
  c = b.c;
}

-- what is told of a payload: an archive head with its configuration, the stamp of a page, and of a log page its file, its first position and its number of records
abbrev pub held_told : Payload → Held
held_told Empty = Nothing
held_told (HeadHeld head config) = Archive head config
held_told (PageHeld page) = Page page.stamp
held_told (LogHeld page) = Log page.uniq page.first (length page.records)

-- what is told of a block
abbrev pub told_of : Block → ReadBlock
told_of b = record { head = head_told b; held = held_told b.payload }

-- ---- items

-- an archive head, or nothing
abbrev pub IsEndHeld : Payload → Type 0
IsEndHeld Empty = Unit {0}
IsEndHeld (HeadHeld head config) = Unit {0}
IsEndHeld (PageHeld page) = ⊥
IsEndHeld (LogHeld page) = ⊥

-- a configuration beside an archive head is that of its text, and a header holds an archive head or nothing
pub record IsItem (b : Block) : Type 0 where
  pub config : (head : ArchiveHead) (config : Config) → b.payload ≡ HeadHeld head config → config_in_text head.text ≡ Ok config
  pub header : b.kind ≡ header_kind → IsEndHeld b.payload

-- ---- tests on what is told

-- a block whose incarnation and number are small enough to count
abbrev pub is_readable : BlockHead → Bool
is_readable h = nat_le h.incarnation (2 ^ 60) && nat_le h.number (2 ^ 60)

-- two heads are of one object
abbrev pub same_object : BlockHead → BlockHead → Bool
same_object g h = (g.object == h.object) && ((g.incarnation == h.incarnation) && (g.number == h.number))

-- both hold one archive head, or nothing
abbrev pub same_held : Held → Held → Bool
same_held Nothing Nothing = true
same_held (Archive g _) (Archive h _) = same_saved g.spaces h.spaces && bytes_eq g.text h.text
same_held _ _ = false

-- a data page of this stamp is held
abbrev pub stamp_in : Held → ℕ → Bool
stamp_in (Page own) stamp = own == stamp
stamp_in _ stamp = false

-- a block, where it counts
abbrev pub readable_in : Option ReadBlock → Option ReadBlock
readable_in None = None
readable_in (Some b) = if is_readable b.head then Some b else None
