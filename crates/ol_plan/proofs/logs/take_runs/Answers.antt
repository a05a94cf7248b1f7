use Rattle.std.proofs.Common.{◌+◌, ◌∙◌, ap, arith, subst, sym}
use Rattle.ol_plan.specs.Logs.{run_end, with_run}
use Rattle.ol_plan.proofs.LogLaws.{IsPart, ahead, one_run}
use Rattle.ol_plan.proofs.logs.take_runs.Goals as goal

pub loop-position-smaller : goal.loop-position-smaller
loop-position-smaller c =
    let on = ahead c.args.logs.now c.loop-position.position c.args.end c.in-Some.log (sym c.span_at.ensures ∙ c.in-Some.is) (omega arith) in
    let same = c.from-position.ensures ∙ c.run_end.ensures ∙ ap (run_end c.args.logs.now c.loop-position.position) c.min.ensures in
    omega (arith, on, same)

pub loop-position-preserved : goal.loop-position-preserved
loop-position-preserved c =
    let same = c.from-position.ensures ∙ c.run_end.ensures ∙ ap (run_end c.args.logs.now c.loop-position.position) c.min.ensures in
    subst (λ t. IsPart c.args.logs.now c.args.low c.args.end t (c.from-position.result + 1)) (sym c.in_ok-take_run.ensures) (
    subst (λ q. IsPart c.args.logs.now c.args.low c.args.end (with_run c.loop-position.taken.items c.in-Some.log) (q + 1)) (sym same) (
    one_run c.args.logs.now c.args.low c.args.end c.loop-position.taken.items c.loop-position.position c.in-Some.log (omega arith) (sym c.span_at.ensures ∙ c.in-Some.is) c.loop-position.invariant
    )
    )
