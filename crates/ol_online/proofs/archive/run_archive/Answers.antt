use Rattle.std.proofs.Common.{subst, sym}
use Rattle.ol_core.specs.Core.{Seen}
use Rattle.ol_online.specs.declared.archive.PlayEnd.{PlayEnd}
use Rattle.ol_online.specs.declared.archive.PlayEnd.TheVariants.{NoMemory, Tape}
use Rattle.ol_online.specs.Playing.{EndsPlay, Interrupts}
use Rattle.ol_online.proofs.LineLaws.{drive_is, ended_by_tape, ends_well, starved_copy, starved_end, starved_giving_up}
use Rattle.ol_online.proofs.archive.run_archive.Goals as goal

pub returns-in-Ok-end_archive-clause-well : goal.returns-in-Ok-end_archive-clause-well
returns-in-Ok-end_archive-clause-well g c lines job begun =
    let on_tape = c.in-Ok.ensures.copied lines job begun in
    ends_well on_tape c.in-Ok-end_archive.ensures.journal (c.in-Ok-end_archive.ensures.ended job.config lines on_tape.reached)

pub returns-in-Err-clause-ended : goal.returns-in-Err-clause-ended
returns-in-Err-clause-ended g c lines job begun =
    subst (λ (s : Seen). EndsPlay lines job c.args.writer.now s c.copy_archive.new.writer NoMemory) (sym c.in-Err.ensures.err) (starved_end (c.in-Ok.ensures.copied lines job begun))

pub returns-in-Err-NoMemory-clause-ended : goal.returns-in-Err-NoMemory-clause-ended
returns-in-Err-NoMemory-clause-ended g c lines job begun =
    starved_copy lines c.args.line.now job c.args.writer.now c.copy_archive.new.writer c.copy_archive.new.core
    (subst (λ (e : PlayEnd). Interrupts lines c.args.line.now job c.args.writer.now c.copy_archive.new.core c.copy_archive.new.writer e) c.in-Err-NoMemory.field-0-is (c.in-Err-NoMemory.ensures.ended lines job begun))

pub returns-in-Ok-give_up-clause-ended : goal.returns-in-Ok-give_up-clause-ended
returns-in-Ok-give_up-clause-ended g c lines job begun =
    let stopped : Interrupts lines c.args.line.now job c.args.writer.now c.copy_archive.new.core c.copy_archive.new.writer (Tape c.in-Err-Tape.end) =
    subst (λ (e : PlayEnd). Interrupts lines c.args.line.now job c.args.writer.now c.copy_archive.new.core c.copy_archive.new.writer e) c.in-Err-Tape.field-0-is (c.in-Err-Tape.ensures.ended lines job begun) in
    ended_by_tape lines c.args.line.now job c.args.writer.now c.copy_archive.new.writer c.copy_archive.new.core c.give_up.new.core c.in-Err-Tape.end stopped
    (c.in-Ok-give_up.ensures.gave_up lines job stopped.1.0 stopped.0.0 stopped.0.1 stopped.1.1 (drive_is lines c.args.line.now job c.args.writer.now c.copy_archive.new.writer c.copy_archive.new.core c.in-Err-Tape.end c.requires.drive stopped))

pub returns-in-Err-give_up-clause-ended : goal.returns-in-Err-give_up-clause-ended
returns-in-Err-give_up-clause-ended g c lines job begun =
    let stopped : Interrupts lines c.args.line.now job c.args.writer.now c.copy_archive.new.core c.copy_archive.new.writer (Tape c.in-Err-Tape.end) =
    subst (λ (e : PlayEnd). Interrupts lines c.args.line.now job c.args.writer.now c.copy_archive.new.core c.copy_archive.new.writer e) c.in-Err-Tape.field-0-is (c.in-Err-Tape.ensures.ended lines job begun) in
    subst (λ (s : Seen). EndsPlay lines job c.args.writer.now s c.copy_archive.new.writer NoMemory) (sym c.in-Err-give_up.ensures.err)
    (starved_giving_up lines c.args.line.now job c.args.writer.now c.copy_archive.new.writer c.copy_archive.new.core c.in-Err-Tape.end stopped)
