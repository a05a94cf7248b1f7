-- A reader of a script's lines, one by one.
use Rattle.std.specs.Prelude.{Err, List, None, Ok, Option, Result, Some, [], ℕ}
use Rattle.ol_values.specs.declared.line.Line.{Line}
use Rattle.ol_script.specs.declared.reader.LineReader.{LineReader}
use Rattle.ol_script.specs.Pieces.{pieces_of}
use Rattle.ol_script.specs.Script.{script_from, with_line}

-- the lines that are still to be read, or the number of the first that is off the grammar
abbrev pub unread : LineReader → Result (List Line) ℕ
unread reader = script_from reader.number (pieces_of 10 reader.rest.now)

-- what a reader gives next, and then what is still to be read
abbrev pub with_next : Result (Option Line) ℕ → Result (List Line) ℕ → Result (List Line) ℕ
with_next (Err n) rest = Err n
with_next (Ok None) rest = Ok []
with_next (Ok (Some line)) rest = with_line line rest
