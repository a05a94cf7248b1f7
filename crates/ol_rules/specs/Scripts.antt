-- The lines of a script by their actors and numbers.
use Rattle.std.specs.Prelude.{List, [], filter, ℕ, ◌<◌, ◌∷◌}
use Rattle.ol_values.specs.declared.history.Actor.{Actor}
use Rattle.ol_values.specs.declared.line.Line.{Line}
use Rattle.ol_values.specs.Text.{same_actor}

-- the lines of an actor
abbrev pub lines_of : Actor → List Line → List Line
lines_of actor lines = filter (λ (l : Line). same_actor l.actor actor) lines

-- the lines have rising numbers
abbrev pub Ascends : List Line → Type 0
Ascends [] = Unit {0}
Ascends (line ∷ []) = Unit {0}
Ascends (line ∷ next ∷ lines) = (line.number < next.number) × Ascends (next ∷ lines)
