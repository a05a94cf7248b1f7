-- What the turns that change rows do beside the turns of the parts.
use Rattle.std.specs.Prelude.{None, Option, Some}
use Rattle.ol_values.specs.declared.record.Rid.{Rid}
use Rattle.ol_values.specs.declared.row.Row.{Row}
use Rattle.ol_free_slots.specs.declared.hints.Hints.{Hints}
use Rattle.ol_free_slots.specs.Filled.{with_emptied}

-- the slot of a change, if there is one, may be emptied
abbrev pub hints_opened : Option (Rid × Option Row) → Hints → Hints
hints_opened None h = h
hints_opened (Some last) h = with_emptied h last.0.space last.0.page

-- the slot that a change leaves empty is emptied
abbrev pub hints_behind : Option Row → Rid → Hints → Hints
hints_behind None rid h = with_emptied h rid.space rid.page
hints_behind (Some row) rid h = h
