use Rattle.std.proofs.Common.{None, drop, fold, ◌≡◌}
use Rattle.ol_rollfwd.specs.Rolls.{lesser}
use Rattle.ol_rollfwd.proofs.roll.least_cut.Given as goal

abbrev pub invariant-loop-cut : goal.invariant-loop-cut
invariant-loop-cut l = fold lesser l.least (drop l.cut-index l.cuts) ≡ fold lesser None l.cuts
