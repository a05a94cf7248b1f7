use Rattle.std.proofs.Common.{subst, ℕ}
use Rattle.ol_core.specs.Core.{ShowsCount}
use Rattle.ol_online.proofs.LineLaws.{gave_up}
use Rattle.ol_online.proofs.archive.give_up.Goals as goal

pub returns-in-Ok-clause-gave_up : goal.returns-in-Ok-clause-gave_up
returns-in-Ok-clause-gave_up c lines job k next turned running one =
    gave_up k next c.reason.result c.args.end c.requires c.by_of.ensures.actor c.by_of.ensures.line turned running c.in-Ok.ensures.ok c.reason.ensures one
    (subst (λ (n : ℕ). ShowsCount n c.in-Ok.field-0) c.faults_of.ensures c.in-Ok.ensures.count)
