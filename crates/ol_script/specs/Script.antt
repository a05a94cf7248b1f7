-- A script's text: its lines, or the number of the first line that is off the grammar.
use Rattle.std.specs.Prelude.{Err, List, None, Ok, Option, Result, Some, [], if◌then◌else◌, length, nat_lt, ℕ, ◌*◌, ◌+◌, ◌∷◌}
use Rattle.ol_values.specs.declared.history.Actor.{Actor}
use Rattle.ol_values.specs.declared.line.Form.{Form}
use Rattle.ol_values.specs.declared.line.Line.{Line}
use Rattle.ol_script.specs.Forms.{form_of}
use Rattle.ol_script.specs.Pieces.{first_piece, pieces_of}
use Rattle.ol_bytes.specs.Reading.{◌>>=◌}
use Rattle.ol_script.specs.Words.{actor_of}

abbrev pub line_with : ℕ → Actor → Form → Line
line_with k actor form = record { actor = actor; number = k; form = form }

-- the line of these words: an actor, a verb and its arguments
unfoldable pub line_by : ℕ → List (List ℕ) → Option Line
line_by k words = do
  w ← first_piece words
  actor ← actor_of w.0
  v ← first_piece w.1
  form ← form_of actor v.0 v.1
  Some (line_with k actor form)

-- the line of number k, of at most 255 bytes, with single blanks between its words
abbrev pub line_in_text : ℕ → List ℕ → Option Line
line_in_text k bytes = if nat_lt 255 (length bytes) then None else line_by k (pieces_of 32 bytes)

-- a script has at most 65,535 lines
abbrev pub line_at : ℕ → List ℕ → Option Line
line_at k bytes = if nat_lt 65535 k then None else line_in_text k bytes

-- a line in front of those behind it
abbrev pub with_line : Line → Result (List Line) ℕ → Result (List Line) ℕ
with_line line (Ok lines) = Ok (line ∷ lines)
with_line line (Err n) = Err n

-- the line of number k, if there is one, and then those behind it
abbrev pub line_before : ℕ → Option Line → Result (List Line) ℕ → Result (List Line) ℕ
line_before k None rest = Err k
line_before k (Some line) rest = with_line line rest

-- nothing stands behind the last line feed
abbrev pub ends_at : ℕ → List ℕ → Result (List Line) ℕ
ends_at k [] = Ok []
ends_at k (b ∷ piece) = Err k

-- the lines from number k on
abbrev pub script_from : ℕ → List (List ℕ) → Result (List Line) ℕ
script_from k [] = Err k
script_from k (piece ∷ []) = ends_at k piece
script_from k (piece ∷ next ∷ pieces) = line_before k (line_at k piece) (script_from (k + 1) (next ∷ pieces))

-- the lines of a script's text, or the number of the first that is off the grammar
abbrev pub script_of : List ℕ → Result (List Line) ℕ
script_of text = script_from 1 (pieces_of 10 text)

-- the most bytes that the lines of a script have, and one more
abbrev pub script_limit : ℕ
script_limit = 65535 * 256 + 1
