-- Which archives count, and how far logs do, over the objects as they are told.
use Rattle.std.specs.Prelude.{Bool, List, filter, fold, if◌then◌else◌, map, max, min, nat_le, nat_lt, ℕ, ◌&&◌, ◌==◌}
use Rattle.ol_values.specs.Blocks.{log_object, mark_object}
use Rattle.ol_object_spans.specs.declared.object.Object.{Object}

-- an object of this kind
abbrev pub is_kind : ℕ → Object → Bool
is_kind object o = o.head.object == object

-- a mark of a higher incarnation
abbrev pub is_mark_above : ℕ → Object → Bool
is_mark_above incarnation o = is_kind mark_object o && nat_lt incarnation o.head.incarnation

-- the least of a position and the ends that marks of a higher incarnation name
abbrev pub least_end : List Object → ℕ → ℕ → ℕ
least_end l incarnation from = fold min from (map (λ (m : Object). m.head.a) (filter (is_mark_above incarnation) l))

-- no such mark names an end below the archive's cut
abbrev pub archive_counts : List Object → Object → Bool
archive_counts l o = nat_le o.head.a (least_end l o.head.incarnation o.head.a)

-- the last position that a log object counts for
abbrev pub reach_of : List Object → Object → ℕ
reach_of l o = least_end l o.head.incarnation o.head.b

-- the greater of an end and the last position that an object counts for as a log
abbrev pub end_with : List Object → ℕ → Object → ℕ
end_with l e o = if is_kind log_object o && nat_le o.head.a (reach_of l o) then max e (reach_of l o) else e

-- the greatest position that a log object counts for, or 0
abbrev pub end_of : List Object → ℕ
end_of l = fold (end_with l) 0 l
