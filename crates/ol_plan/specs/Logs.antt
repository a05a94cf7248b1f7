-- The log objects for needed positions, over the objects as they are told.
use Rattle.std.specs.List.{enumerate_from, take_while}
use Rattle.std.specs.Prelude.{Bool, List, None, Option, Some, [], false, filter_map, find, fold, if◌then◌else◌, is_some, length, min, nat_le, nat_lt, not, slice_get, ℕ, ◌&&◌, ◌++◌, ◌-◌, ◌==◌, ◌≡◌, ◌∷◌}
use Rattle.ol_values.specs.Blocks.{log_object}
use Rattle.ol_rules.specs.Plan.{needed}
use Rattle.ol_object_spans.specs.declared.object.Object.{Object}
use Rattle.ol_plan.specs.declared.logs.LogSpan.{LogSpan}
use Rattle.ol_plan.specs.declared.logs.Runs.{Runs}
use Rattle.ol_plan.specs.Counting.{is_kind, reach_of}

-- a log object by its index
abbrev pub as_log : List Object → ℕ × Object → LogSpan
as_log l p = record { index = p.0; first = p.1.head.a; reach = reach_of l p.1; bad = p.1.bad }

-- a pair of index and object as a log object, if it is one
abbrev pub log_of : List Object → ℕ × Object → Option LogSpan
log_of l p = if is_kind log_object p.1 then Some (as_log l p) else None

-- all of them, in order
abbrev pub logs : List Object → List LogSpan
logs l = filter_map (log_of l) (enumerate_from 0 l)

-- it counts for the position
abbrev pub counts_at : ℕ → LogSpan → Bool
counts_at position s = nat_le s.first position && nat_le position s.reach

-- of equals the first stands
abbrev pub further_of : Option LogSpan → LogSpan → Option LogSpan
further_of None s = Some s
further_of (Some best) s = if nat_lt best.reach s.reach then Some s else Some best

-- the one of two that reaches further, where the second counts
abbrev pub with_span : ℕ → Option LogSpan → LogSpan → Option LogSpan
with_span position best s = if counts_at position s then further_of best s else best

-- of the log objects that count at a position the one that reaches furthest
abbrev pub span_at : List LogSpan → ℕ → Option LogSpan
span_at logs position = fold (with_span position) None logs

-- some log object counts for the position
abbrev pub is_covered : List LogSpan → ℕ → Bool
is_covered logs position = is_some (span_at logs position)

-- the last one taken is the same
abbrev pub goes_on : Option LogSpan → LogSpan → Bool
goes_on None s = false
goes_on (Some last) s = last.index == s.index

-- the objects taken with one more, unless that is the last
abbrev pub with_run : List LogSpan → LogSpan → List LogSpan
with_run taken s = if goes_on (slice_get taken (length taken - 1)) s then taken else taken ++ s ∷ []

-- the objects of the needed positions up to the first that has none, in order, with consecutive equal ones taken once
abbrev pub runs : List LogSpan → ℕ → ℕ → List LogSpan
runs logs low end_ = fold with_run [] (filter_map (span_at logs) (take_while (is_covered logs) (needed low end_)))

-- that first position
abbrev pub short : List LogSpan → ℕ → ℕ → Option ℕ
short logs low end_ = find (λ position. not (is_covered logs position)) (needed low end_)

-- what the program takes for the needed positions
pub record IsRuns (logs : List LogSpan) (low end_ : ℕ) (r : Runs) : Type 0 where
  pub taken : r.logs.items ≡ runs logs low end_
  pub behind : r.short ≡ short logs low end_

-- ---- how far one object stays the best

-- an end, or the position before an object begins behind a position
abbrev pub before_start : ℕ → ℕ → LogSpan → ℕ
before_start position end_ s = if nat_lt position s.first then min end_ (s.first - 1) else end_

-- the last position up to a limit before any object behind the position begins
abbrev pub run_end : List LogSpan → ℕ → ℕ → ℕ
run_end logs position limit = fold (before_start position) limit logs

-- its index among the objects
abbrev pub index_of_log : LogSpan → ℕ
index_of_log s = s.index
