use Rattle.std.proofs.lemmas.Result.{err_from_is_err_and}
use Rattle.ol_plan.proofs.ChainLaws.{lacking}
use Rattle.ol_plan.proofs.chain.chains.Goals as goal

pub returns-in_err-links : goal.returns-in_err-links
returns-in_err-links c =
    let p = err_from_is_err_and c.from_residual.result c.from_residual.ensures.1 in
    rw (p.1, p.2) (lacking c.args.objects.now c.args.end c.args.spaces.now c.loop-space.space-index _ c.in_err-links.field-0.0 c.loop-space-test.true c.loop-space.invariant c.in_err-links.ensures)
