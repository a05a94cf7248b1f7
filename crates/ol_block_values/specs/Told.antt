-- What wants memory in the reading of a block, and the head without its payload.
use Rattle.std.specs.Prelude.{None, Option, Some}
use Rattle.ol_values.specs.Blocks.{Block, HeadHeld, Payload}
use Rattle.ol_object.specs.declared.block.Block.{Block as Head}
use Rattle.ol_object_spans.specs.declared.block.BlockHead.{BlockHead}

-- an archive head is the one thing that wants memory
abbrev pub IsHead : Payload → Type 0
IsHead (HeadHeld head config) = Unit {0}
IsHead _ = ⊥

-- a block that holds an archive head
abbrev pub HoldsHead : Option Block → Type 0
HoldsHead None = ⊥
HoldsHead (Some b) = IsHead b.payload

-- the fields of a head but for the number of used bytes
abbrev pub head_without_used : Head → BlockHead
head_without_used h = record {
  kind = h.kind;
  object = h.object;
  incarnation = h.incarnation;
  number = h.number;
  index = h.index;
  a = h.a;
  b = h.b;
  c = h.c;
}
