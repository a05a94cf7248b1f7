use Rattle.std.proofs.Common.{◌∙◌, ap}
use Rattle.ol_plan.specs.Chains.{last_of}
use Rattle.ol_plan.proofs.ChainLaws.{low_more}
use Rattle.ol_plan.proofs.chain.least_low.Goals as goal

pub loop-chain-preserved : goal.loop-chain-preserved
loop-chain-preserved c =
    c.lower-low.ensures
    ∙ low_more c.args.end c.args.chains.now c.loop-chain.chain-index c.chain-item.result c.loop-chain.low _ c.loop-chain-test.true c.chain-item.is c.loop-chain.invariant
    (c.last.ensures.value ∙ ap last_of c.deref.ensures.value)
