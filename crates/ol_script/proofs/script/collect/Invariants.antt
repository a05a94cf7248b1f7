use Rattle.std.proofs.Common.{length, ◌≡◌}
use Rattle.ol_script.specs.Reader.{unread}
use Rattle.ol_script.specs.Script.{script_of}
use Rattle.ol_script.proofs.ScriptLaws.{with_lines}
use Rattle.ol_script.proofs.script.collect.Given as goal

abbrev pub invariant-loop-line : goal.invariant-loop-line
invariant-loop-line l = with_lines l.lines (unread l.reader) ≡ script_of l.text

abbrev pub decreases-loop-line : goal.decreases-loop-line
decreases-loop-line l = length l.reader.rest.now
