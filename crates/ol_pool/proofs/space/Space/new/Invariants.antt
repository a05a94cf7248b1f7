use Rattle.std.proofs.Common.{None, replicate, ◌≡◌}
use Rattle.ol_pool.proofs.space.Space.new.Given as goal

abbrev pub invariant-loop : goal.invariant-loop
invariant-loop l = l.frames.items ≡ replicate l.counter None
