use Rattle.std.proofs.Common.{◌≡◌, map, take}
use Rattle.ol_plan.specs.Chains.{chain_of}
use Rattle.ol_plan.specs.Damage.{first_bad}
use Rattle.ol_plan.proofs.damage.first_bad.Given as goal

abbrev pub invariant-loop-log : goal.invariant-loop-log
invariant-loop-log l = l.bad ≡ first_bad (map chain_of l.chains) (take l.log-index l.logs)
