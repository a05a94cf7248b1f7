use Rattle.std.proofs.Common.{◌≡◌, take}
use Rattle.ol_plan.specs.Damage.{bad_of_links}
use Rattle.ol_plan.proofs.damage.bad_of_links.Given as goal

abbrev pub invariant-loop-link : goal.invariant-loop-link
invariant-loop-link l = l.bad ≡ bad_of_links l.fn.best (take l.link-index l.links)
