use Rattle.std.proofs.Common.{drop, ◌≡◌}
use Rattle.ol_rollfwd.proofs.feed.skip.Given as goal

abbrev pub invariant-loop : goal.invariant-loop
invariant-loop l = l.records ≡ drop l.counter l.fn.records
