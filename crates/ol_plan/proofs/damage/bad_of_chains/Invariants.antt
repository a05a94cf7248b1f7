use Rattle.std.proofs.Common.{◌≡◌, map, take}
use Rattle.ol_plan.specs.Chains.{chain_of}
use Rattle.ol_plan.specs.Damage.{bad_of_chains}
use Rattle.ol_plan.proofs.damage.bad_of_chains.Given as goal

abbrev pub invariant-loop-chain : goal.invariant-loop-chain
invariant-loop-chain l = l.bad ≡ bad_of_chains (map chain_of (take l.chain-index l.chains))
