use Rattle.std.proofs.Common.{◌≡◌, map, take}
use Rattle.ol_plan.specs.Chains.{chain_of}
use Rattle.ol_plan.specs.Drafts.{archives_of, links_in}
use Rattle.ol_plan.proofs.plan.chains_of.Given as goal

abbrev pub invariant-loop-chain : goal.invariant-loop-chain
invariant-loop-chain l = map archives_of l.list.items ≡ map links_in (map chain_of (take l.chain-index l.chains))
