use Rattle.std.proofs.Common.{◌≡◌, None, fold, take}
use Rattle.ol_plan.specs.Chains.{with_later}
use Rattle.ol_plan.proofs.chain.last_link.Given as goal

abbrev pub invariant-loop-link : goal.invariant-loop-link
invariant-loop-link l = l.best ≡ fold (with_later l.end) None (take l.link-index l.links)
