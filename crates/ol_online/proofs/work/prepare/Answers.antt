use Rattle.std.specs.Prelude.{Err, List, refl}
use Rattle.std.proofs.Common.{ap, inr, sym, ◌∙◌}
use Rattle.ol_values.specs.declared.line.Line.{Line}
use Rattle.ol_online.specs.Planning.{lines_planned}
use Rattle.ol_online.proofs.work.prepare.Goals as goal

pub returns-in-Err-plan-clause-err : goal.returns-in-Err-plan-clause-err
returns-in-Err-plan-clause-err g c =
    let same = ap (λ (l : List Line). lines_planned c.in-Ok-open.table l) (sym c.as_slice.ensures.value) in
    let plans = same ∙ sym c.in-Err-plan.ensures.value ∙ ap Err (sym c.from.ensures) in
    inr (inr (c.in-Ok.script, c.in-Ok-open.table, c.from.result, record { says = c.in-Ok.ensures.ended; opens = c.in-Ok-open.ensures.ended; plans = plans }, refl))
