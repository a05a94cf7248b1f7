-- The complete objects of a stream as the scan tells them.
use Rattle.std.specs.List.{range_with_len}
use Rattle.std.specs.Prelude.{List, None, Option, Some, [], flat_map, length, map, ℕ, ◌∷◌}
use Rattle.ol_values.specs.Blocks.{ArchiveHead}
use Rattle.ol_values.specs.Config.{Config}
use Rattle.ol_rules.specs.Shelf.{Object, Placed, bad_blocks, objects_from}
use Rattle.ol_object_spans.specs.declared.block.Held.{Held}
use Rattle.ol_object_spans.specs.declared.block.Held.TheVariants.{Archive}
use Rattle.ol_object_spans.specs.declared.object.Object as told
use Rattle.ol_object_spans.specs.declared.place.Place.{Place}
use Rattle.ol_object_spans.specs.Places.{nowhere}
use Rattle.ol_object_spans.specs.Told.{head_told, held_told}

-- the place of a block
abbrev pub place_told : Placed → Place
place_told p = record { drive = p.drive; volume = p.volume; block = p.block }

-- the place of the first of some blocks
abbrev pub first_place : List Placed → Option Place
first_place [] = None
first_place (p ∷ rest) = Some (place_told p)

-- a place, or none
abbrev pub place_or : Option Place → Place
place_or None = nowhere
place_or (Some p) = p

-- the archive head that is held, with its configuration
abbrev pub archive_in : Held → Option (ArchiveHead × Config)
archive_in (Archive head config) = Some (head, config)
archive_in _ = None

-- an object: the place of its first block, the fields of its last, how many it has, the first bad one, and its archive head
abbrev pub object_told : Object → told.Object
object_told o = record {
  place = place_or (first_place o.span);
  head = head_told o.head;
  blocks = length o.span;
  bad = first_place (bad_blocks o);
  archive = archive_in (held_told o.head.payload);
}

-- the objects from one start, each with that index in the stream
abbrev pub started_from : List Placed → ℕ → List (ℕ × Object)
started_from l s = map (λ (o : Object). (s, o)) (objects_from l s)

-- from all starts
abbrev pub started : List Placed → List (ℕ × Object)
started l = flat_map (started_from l) (range_with_len 0 (length l))
