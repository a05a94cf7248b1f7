use Rattle.std.proofs.Common.{drop, ◌++◌, ◌≡◌}
use Rattle.ol_rules.specs.Scripts.{lines_of}
use Rattle.ol_script.proofs.script.Script.lines.Given as goal

abbrev pub invariant-loop-line : goal.invariant-loop-line
invariant-loop-line l = l.lines ++ lines_of l.actor (drop l.line-index l.line-items) ≡ lines_of l.actor l.self
