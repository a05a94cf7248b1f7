use Rattle.std.proofs.Common.{◌≡◌, fold, take}
use Rattle.ol_plan.specs.Logs.{before_start}
use Rattle.ol_plan.proofs.logs.run_end.Given as goal

abbrev pub invariant-loop-log : goal.invariant-loop-log
invariant-loop-log l = l.end ≡ fold (before_start l.position) l.limit (take l.log-index l.logs)
