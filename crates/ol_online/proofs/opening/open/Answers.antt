use Rattle.std.proofs.Common.{ap, subst, sym, ◌∙◌}
use Rattle.std.specs.Prelude.{Err, Result}
use Rattle.ol_values.specs.Config.{Config}
use Rattle.ol_online.proofs.OpeningLaws.{anchor_cause}
use Rattle.ol_online.specs.Opening.{HasStatusCause, opened_of}
use Rattle.ol_online.specs.declared.status.Status.{Status}
use Rattle.ol_online.proofs.opening.open.Goals as goal

pub returns-in-Ok-clause-ended : goal.returns-in-Ok-clause-ended
returns-in-Ok-clause-ended g c = record { read = c.read_anchor.result; answer = ap opened_of (sym c.in-Ok.is); ended = c.read_anchor.ensures.read }

pub returns-in-Err-clause-ended : goal.returns-in-Err-clause-ended
returns-in-Err-clause-ended g c =
    record {
      read = c.read_anchor.result;
      answer = ap (λ (s : Status). let r : Result Config Status = Err s in r) c.status_of.ensures.value ∙ ap opened_of (sym c.in-Err.is);
      ended = c.read_anchor.ensures.read;
    }

pub returns-in-Err-clause-cause : goal.returns-in-Err-clause-cause
returns-in-Err-clause-cause g c =
    subst (λ (s : Status). HasStatusCause (g.D.Disk.fault_counts c.args.disk.now) (g.D.Disk.fault_counts c.read_anchor.new.disk) s) (sym c.status_of.ensures.value)
    (anchor_cause _ _ c.in-Err.fault c.in-Err.ensures.cause)
