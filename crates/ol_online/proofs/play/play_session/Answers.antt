use Rattle.std.proofs.Common.{List, drop, inr, refl, subst, sym, ◌++◌, ◌+◌}
use Rattle.ol_core.specs.Core.{Seen}
use Rattle.std.specs.Prelude.{true}
use Rattle.ol_values.specs.declared.line.Line.{Line}
use Rattle.ol_core.specs.Lines.{First}
use Rattle.ol_online.specs.Playing.{IsReached, IsRun}
use Rattle.ol_online.proofs.PlayLaws.{run_stopped}
use Rattle.ol_online.proofs.WholePlay.{next_line}
use Rattle.ol_online.proofs.play.play_session.Goals as goal

pub returns-in-Err-clause-err : goal.returns-in-Err-clause-err
returns-in-Err-clause-err c config all rest reached =
    subst (λ (s : Seen). IsRun config all true s) (sym c.in-Err.ensures.err) (run_stopped true (c.loop-line.invariant.reached config all rest reached) (inr refl))

pub loop-line-preserved : goal.loop-line-preserved
loop-line-preserved c = record {
  idle = c.in-Ok.ensures.idle;
  waiting = λ config waiting. c.in-Ok.ensures.waiting config (c.loop-line.invariant.waiting config waiting);
  reached = λ config all rest reached.
      let i = c.loop-line.line-index in
      let lines = c.args.lines.now in
      c.in-Ok.ensures.ok config all (drop (i + 1) lines ++ rest)
      (subst (λ (l : List Line). IsReached config all c.loop-line.core l First) (next_line lines rest i c.line-item.result c.loop-line-test.true c.line-item.is) (c.loop-line.invariant.reached config all rest reached));
}
