use Rattle.std.proofs.Common.{Bool, subst, ◌+◌}
use Rattle.std.specs.Prelude.{MatchBool}
use Rattle.ol_online.specs.Playing.{IsCopied, IsCopying}
use Rattle.ol_online.proofs.archive.take_pages.Goals as goal

pub loop-end-preserved : goal.loop-end-preserved
loop-end-preserved g c lines job w copying =
    let p = c.loop-end.invariant lines job w copying in (
      p.0 + 1,
      subst (λ (b : Bool). MatchBool b (IsCopying lines c.args.line.now job w c.take_page.new.core c.take_page.new.writer (p.0 + 1)) (IsCopied lines c.args.line.now job w c.take_page.new.core c.take_page.new.writer p.0)) c.in-Ok-true.field-0-test
          (c.in-Ok-true.ensures.taken lines job w p.0 p.1),
    )

pub returns-in-Ok-false-clause-taken : goal.returns-in-Ok-false-clause-taken
returns-in-Ok-false-clause-taken g c lines job w copying =
    let p = c.loop-end.invariant lines job w copying in (
      p.0,
      subst (λ (b : Bool). MatchBool b (IsCopying lines c.args.line.now job w c.take_page.new.core c.take_page.new.writer (p.0 + 1)) (IsCopied lines c.args.line.now job w c.take_page.new.core c.take_page.new.writer p.0)) c.in-Ok-false.field-0-test
          (c.in-Ok-false.ensures.taken lines job w p.0 p.1),
    )
