use Rattle.std.proofs.Common.{inr, subst, sym, ◌∙◌}
use Rattle.ol_log_places.specs.Scanning.{AreHeadsOf}
use Rattle.ol_log_places.proofs.Listed.{err_again}
use Rattle.ol_log_places.proofs.reading.scan.Goals as goal

pub returns-in-Ok-clause-bad : goal.returns-in-Ok-clause-bad
returns-in-Ok-clause-bad g c tells chunk page is =
    let b = c.standing_run.ensures.bad c.args.table.now _ (subst (AreHeadsOf c.args.table.now _) (sym c.deref.ensures.value) (c.in-Ok.ensures.heads tells)) chunk page (c.in-Err-standing_run.is ∙ err_again _ _ is) in
    (b.0, b.1, inr b.2)
