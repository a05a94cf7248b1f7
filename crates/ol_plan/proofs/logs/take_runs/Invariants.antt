use Rattle.std.proofs.Common.{◌+◌, ◌-◌}
use Rattle.ol_plan.proofs.LogLaws.{IsPart}
use Rattle.ol_plan.proofs.logs.take_runs.Given as goal

abbrev pub invariant-loop-position : goal.invariant-loop-position
invariant-loop-position l = IsPart l.logs l.low l.end l.taken.items l.position

abbrev pub decreases-loop-position : goal.decreases-loop-position
decreases-loop-position l = l.end + 1 - l.position
