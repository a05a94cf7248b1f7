use Rattle.std.proofs.Common.{length, ◌-◌, ◌≤◌}
use Rattle.ol_before.specs.Images.{rank_of}
use Rattle.ol_before.proofs.order.rank.Given as goal

abbrev pub invariant-loop-low : goal.invariant-loop-low
invariant-loop-low l = (l.low ≤ rank_of l.space l.page l.held) × (rank_of l.space l.page l.held ≤ l.high) × (l.high ≤ length l.held)

abbrev pub decreases-loop-low : goal.decreases-loop-low
decreases-loop-low l = l.high - l.low
