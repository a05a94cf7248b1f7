use Rattle.ol_online.proofs.CommandLaws.{whole_part}
use Rattle.ol_online.proofs.told.report.Goals as goal

pub returns-in-Ok-clause-output : goal.returns-in-Ok-clause-output
returns-in-Ok-clause-output g c =
    record {
      calm = λ calm. (c.requires.no_write, c.in-Ok.ensures.ok);
      part = whole_part _ _ _ c.in-Ok.ensures.ok;
      whole = λ is. c.in-Ok.ensures.ok;
    }
