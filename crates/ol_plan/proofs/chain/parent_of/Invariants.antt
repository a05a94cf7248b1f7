use Rattle.std.proofs.Common.{◌≡◌, drop}
use Rattle.std.specs.Prelude.{find}
use Rattle.ol_plan.specs.Chains.{is_parent}
use Rattle.ol_plan.proofs.chain.parent_of.Given as goal

abbrev pub invariant-loop-link : goal.invariant-loop-link
invariant-loop-link l = find (is_parent l.child) (drop l.link-index l.links) ≡ find (is_parent l.child) l.links
