use Rattle.std.specs.Result.{result_err}
use Rattle.std.proofs.Common.{length, ◌≡◌}
use Rattle.ol_script.specs.Reader.{unread}
use Rattle.ol_script.specs.Script.{script_of}
use Rattle.ol_script.proofs.script.judge.Given as goal

abbrev pub invariant-loop : goal.invariant-loop
invariant-loop l = result_err (unread l.reader) ≡ result_err (script_of l.text)

abbrev pub decreases-loop : goal.decreases-loop
decreases-loop l = length l.reader.rest.now
