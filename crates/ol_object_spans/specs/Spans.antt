-- The span that a block ends, on what is told.
use Rattle.std.specs.Prelude.{None, Option, Some, if◌then◌else◌, nat_le, nat_lt, ℕ, ◌&&◌, ◌+◌, ◌-◌, ◌==◌}
use Rattle.ol_values.specs.Blocks.{mark_kind, trailer_kind}
use Rattle.ol_object_spans.specs.declared.block.BlockHead.{BlockHead}
use Rattle.ol_object_spans.specs.declared.block.ReadBlock.{ReadBlock}
use Rattle.ol_object_spans.specs.declared.headers.Headers.{Headers}
use Rattle.ol_object_spans.specs.declared.object.Object as told
use Rattle.ol_object_spans.specs.declared.place.Place.{Place}
use Rattle.ol_object_spans.specs.declared.state.Span.{Span}
use Rattle.ol_object_spans.specs.Objects.{archive_in}
use Rattle.ol_object_spans.specs.Passing.{bad_told}

-- the span of the object that a block of this index ends: a mark alone, or back from a trailer
abbrev pub span_of : BlockHead → ℕ → Option Span
span_of h index =
    if h.kind == mark_kind then Some (record { start = index; blocks = 1 })
    else if (h.kind == trailer_kind) && nat_le h.index index then Some (record { start = index - h.index; blocks = h.index + 1 })
    else None

-- the first bad block of an object by its headers: of a mark there is none
abbrev pub bad_by : Headers → Span → Place → Place → ReadBlock → Option Place
bad_by headers span first last block =
    if block.head.kind == mark_kind then None
    else bad_told headers.live headers.stopped.items span.start first last block

-- the object of a span
abbrev pub object_by : Headers → Span → Place → Place → ReadBlock → told.Object
object_by headers span first last block = record {
  place = first;
  head = block.head;
  blocks = span.blocks;
  bad = bad_by headers span first last block;
  archive = archive_in block.held;
}

-- what stays outside where an object begins
abbrev pub left_before : ℕ → Option ℕ → Option ℕ
left_before start None = None
left_before start (Some at) = if nat_lt at start then Some at else None

-- what is outside with bytes of an index that are no block, and behind all before them
abbrev pub outside_with : ℕ → Option ℕ → Option ℕ
outside_with index None = Some index
outside_with index (Some first) = Some first
