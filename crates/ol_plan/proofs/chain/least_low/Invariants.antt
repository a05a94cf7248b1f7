use Rattle.std.proofs.Common.{◌≡◌, take, map}
use Rattle.ol_plan.specs.Chains.{chain_of, least_low}
use Rattle.ol_plan.proofs.chain.least_low.Given as goal

abbrev pub invariant-loop-chain : goal.invariant-loop-chain
invariant-loop-chain l = l.low ≡ least_low l.end (map chain_of (take l.chain-index l.chains))
