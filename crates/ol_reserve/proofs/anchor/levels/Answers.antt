use Rattle.std.proofs.Common.{◌<◌, ◌≢◌, ◌∙◌, arith, below_more, get_or-set_other, get_or-set_same, length}
use Rattle.std.proofs.Math.ListN.{length-set}
use Rattle.ol_reserve.proofs.anchor.levels.Goals as goal

pub loop-space-preserved : goal.loop-space-preserved
loop-space-preserved c = record {
  whole = length-set c.loop-space.levels c.loop-space.space _ ∙ c.loop-space.invariant.whole;
  each = below_more _ _
      (λ k h. let ne : k ≢ c.loop-space.space = omega arith in rw get_or-set_other (c.loop-space.invariant.each k h))
      (let lt : c.loop-space.space < length c.loop-space.levels = omega (arith, c.loop-space.invariant.whole) in rw get_or-set_same);
}
