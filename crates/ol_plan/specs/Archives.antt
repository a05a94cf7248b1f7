-- The archives that count and hold a space, over the objects as they are told.
use Rattle.std.specs.List.{enumerate_from}
use Rattle.std.specs.Prelude.{Bool, List, None, Option, Some, filter_map, if◌then◌else◌, is_some, unwrap_or, ℕ, ◌&&◌}
use Rattle.ol_values.specs.Blocks.{ArchiveHead, Saved, archive_object}
use Rattle.ol_values.specs.Config.{Config}
use Rattle.ol_rules.specs.Plan.{nothing_saved}
use Rattle.ol_rules.specs.Shelf.{saved_in}
use Rattle.ol_object_spans.specs.declared.object.Object.{Object}
use Rattle.ol_plan.specs.declared.archives.Link.{Link}
use Rattle.ol_plan.specs.Counting.{archive_counts, is_kind}

-- what an archive head says of a space
abbrev pub saved_told : ℕ → Option (ArchiveHead × Config) → Option Saved
saved_told space None = None
saved_told space (Some archive) = saved_in space archive.0.spaces

-- what an object saves of a space, if it holds one
abbrev pub saved_by : ℕ → Object → Option Saved
saved_by space o = saved_told space o.archive

-- an archive that counts and holds the space
abbrev pub is_link : List Object → ℕ → Object → Bool
is_link l space o = is_kind archive_object o && (archive_counts l o && is_some (saved_by space o))

-- such an archive, by its index
abbrev pub as_link : ℕ → ℕ × Object → Link
as_link space p = record {
  index = p.0;
  cut = p.1.head.a;
  low = p.1.head.b;
  level = p.1.head.c;
  number = p.1.head.number;
  parent = (unwrap_or (saved_by space p.1) nothing_saved).parent;
  base = (unwrap_or (saved_by space p.1) nothing_saved).base;
  bad = p.1.bad;
}

-- a pair of index and object as a link, if it is one
abbrev pub link_of : List Object → ℕ → ℕ × Object → Option Link
link_of l space p = if is_link l space p.1 then Some (as_link space p) else None

-- all of them, in order
abbrev pub links : List Object → ℕ → List Link
links l space = filter_map (link_of l space) (enumerate_from 0 l)

-- its index among the objects
abbrev pub index_of_link : Link → ℕ
index_of_link k = k.index
