use Rattle.std.proofs.Common.{◌≡◌, drop, map}
use Rattle.ol_plan.specs.Chains.{chain_of, chains}
use Rattle.ol_plan.proofs.ChainLaws.{behind}
use Rattle.ol_plan.proofs.chain.chains.Given as goal

abbrev pub invariant-loop-space : goal.invariant-loop-space
invariant-loop-space l = behind (map chain_of l.chains.items) (chains l.objects l.end (drop l.space-index l.spaces)) ≡ chains l.objects l.end l.spaces
