use Rattle.std.proofs.Common.{Bool, subst, sym}
use Rattle.std.specs.Prelude.{MatchBool}
use Rattle.ol_core.specs.Core.{Seen}
use Rattle.ol_online.specs.declared.archive.PlayEnd.TheVariants.{NoMemory}
use Rattle.ol_online.specs.Playing.{Interrupts, IsCopied, IsPaged}
use Rattle.ol_online.proofs.ArchiveLaws.{copied_page, refused_page, starved_copying}
use Rattle.ol_online.proofs.archive.take_page.Goals as goal

pub returns-in-Ok-false-clause-taken : goal.returns-in-Ok-false-clause-taken
returns-in-Ok-false-clause-taken g c lines job w k copying =
    let v = c.args.writer.now in
    subst (λ (b : Bool). MatchBool b (IsPaged lines c.args.line.now job w c.next_page.new.core v k c.next_page.new.block) (IsCopied lines c.args.line.now job w c.next_page.new.core v k)) c.in-Ok-false.field-0-test
    (c.in-Ok-false.ensures.taken lines job w v k copying)

pub returns-in-Err-clause-ended : goal.returns-in-Err-clause-ended
returns-in-Err-clause-ended g c lines job w k copying =
    subst (λ (s : Seen). Interrupts lines c.args.line.now job w s c.args.writer.now NoMemory) (sym c.in-Err.ensures.err) (starved_copying copying)

pub returns-in-Ok-clause-taken : goal.returns-in-Ok-clause-taken
returns-in-Ok-clause-taken g c lines job w k copying =
    let v = c.args.writer.now in
    let paged : IsPaged lines c.args.line.now job w c.next_page.new.core v k c.next_page.new.block =
    subst (λ (b : Bool). MatchBool b (IsPaged lines c.args.line.now job w c.next_page.new.core v k c.next_page.new.block) (IsCopied lines c.args.line.now job w c.next_page.new.core v k)) c.in-Ok-true.field-0-test
    (c.in-Ok-true.ensures.taken lines job w v k copying) in
    copied_page _ _ _ _ _ _ _ _ _ paged c.in-Ok.ensures.ok

pub returns-in-Err-put-clause-ended : goal.returns-in-Err-put-clause-ended
returns-in-Err-put-clause-ended g c lines job w k copying =
    let v = c.args.writer.now in
    let paged : IsPaged lines c.args.line.now job w c.next_page.new.core v k c.next_page.new.block =
    subst (λ (b : Bool). MatchBool b (IsPaged lines c.args.line.now job w c.next_page.new.core v k c.next_page.new.block) (IsCopied lines c.args.line.now job w c.next_page.new.core v k)) c.in-Ok-true.field-0-test
    (c.in-Ok-true.ensures.taken lines job w v k copying) in
    refused_page _ _ _ _ _ _ _ _ _ _ paged c.in-Err-put.ensures.err
