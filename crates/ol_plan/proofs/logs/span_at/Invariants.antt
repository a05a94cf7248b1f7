use Rattle.std.proofs.Common.{◌≡◌, None, fold, take}
use Rattle.ol_plan.specs.Logs.{with_span}
use Rattle.ol_plan.proofs.logs.span_at.Given as goal

abbrev pub invariant-loop-log : goal.invariant-loop-log
invariant-loop-log l = l.best ≡ fold (with_span l.position) None (take l.log-index l.logs)
