use Rattle.std.proofs.Common.{◌≡◌, take}
use Rattle.std.specs.List.{enumerate_from}
use Rattle.std.specs.Prelude.{filter_map}
use Rattle.ol_plan.specs.Logs.{log_of}
use Rattle.ol_plan.proofs.logs.logs.Given as goal

abbrev pub invariant-loop-index : goal.invariant-loop-index
invariant-loop-index l = l.logs.items ≡ filter_map (log_of l.objects) (take l.index (enumerate_from 0 l.objects))
