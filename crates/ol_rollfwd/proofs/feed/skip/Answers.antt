use Rattle.std.proofs.Common.{arith, sym, ◌∙◌}
use Rattle.ol_rollfwd.proofs.FeedLaws.{passed_all, passed_one}
use Rattle.ol_rollfwd.proofs.feed.skip.Goals as goal

pub returns-in_default : goal.returns-in_default
returns-in_default c =
    sym c.in_default.ensures.next ∙ c.in_default.ensures.none
    ∙ passed_all c.loop.counter c.args.count c.args.records.now c.loop.records c.loop.invariant c.in_default.ensures.none (omega arith)

pub loop-preserved : goal.loop-preserved
loop-preserved c = passed_one c.loop.counter c.args.records.now c.next.new.self c.in-Some._record (sym c.in-Some.ensures.next ∙ c.loop.invariant)
