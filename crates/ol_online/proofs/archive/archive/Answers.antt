use Rattle.std.proofs.Common.{subst, sym}
use Rattle.ol_core.specs.Core.{Seen}
use Rattle.ol_core.specs.Machine.{journal_in}
use Rattle.ol_online.specs.declared.archive.PlayEnd.TheVariants.{NoMemory}
use Rattle.ol_online.specs.Playing.{EndsPlay, job_of}
use Rattle.ol_online.proofs.LineLaws.{starved_first}
use Rattle.ol_online.proofs.archive.archive.Goals as goal

pub returns-in-Ok-clause-well : goal.returns-in-Ok-clause-well
returns-in-Ok-clause-well g c config lines named reached waiting =
    c.run_archive.ensures.well lines (job_of config c.args.line.now (journal_in c.args.core.now.machine)) (c.in-Ok.ensures.begun config lines named reached waiting)

pub returns-in-Ok-clause-ended : goal.returns-in-Ok-clause-ended
returns-in-Ok-clause-ended g c config lines named reached waiting =
    c.run_archive.ensures.ended lines (job_of config c.args.line.now (journal_in c.args.core.now.machine)) (c.in-Ok.ensures.begun config lines named reached waiting)

pub returns-in-Err-clause-ended : goal.returns-in-Err-clause-ended
returns-in-Err-clause-ended g c config lines named reached waiting =
    let job = job_of config c.args.line.now (journal_in c.args.core.now.machine) in
    subst (λ (s : Seen). EndsPlay lines job c.args.writer.now s c.args.writer.now NoMemory) (sym c.in-Err.ensures.err) (starved_first c.args.writer.now reached)
