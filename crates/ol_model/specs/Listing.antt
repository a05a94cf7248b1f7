-- The text of a listing of all rows.
use Rattle.std.specs.List.{enumerate_from}
use Rattle.std.specs.Prelude.{List, None, Option, Some, [], codes, flat_map, if◌then◌else◌, ℕ, ◌++◌, ◌∷◌}
use Rattle.ol_values.specs.declared.record.Rid.{Rid}
use Rattle.ol_values.specs.declared.row.Row.{Row}
use Rattle.ol_values.specs.Config.{Config, space_at}
use Rattle.ol_values.specs.Text.{rid_text, row_text}
use Rattle.ol_rules.specs.Lasting.{SpaceState}
use Rattle.ol_model.specs.Machine.{slots_of}

-- a row with its place, and the end of the line
abbrev pub listed_row : Config → (Rid → Option Row) → Rid → List ℕ
listed_row c rows rid = elim (rows rid) [ None ↦ [] | Some row ↦ rid_text c rid ++ (32 ∷ row_text row ++ 10 ∷ []) ]

-- the rows of a space in order of page and slot, or that it is down
abbrev pub listed_space : Config → (Rid → Option Row) → ℕ × SpaceState → List ℕ
listed_space c rows s =
    if s.1.up then flat_map (listed_row c rows) (slots_of c s.0) else (space_at c s.0).name ++ codes " down\n"

-- every row, for each space in ascending order
unfoldable pub list_text : Config → List SpaceState → (Rid → Option Row) → List ℕ
list_text c spaces rows = flat_map (listed_space c rows) (enumerate_from 0 spaces)
