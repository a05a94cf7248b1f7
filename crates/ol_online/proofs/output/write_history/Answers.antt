use Rattle.std.proofs.Common.{◌+◌, drop, ◌∙◌, ℕ, List, take, subst}
use Rattle.std.specs.Io.KnownBytes.{Appends}
use Rattle.ol_values.specs.Text.{text}
use Rattle.ol_online.proofs.OutputLaws.{at_entry, ends_line_true, ends_line_false, in_line_order_at, in_line_order_after, on_err, written_more, written_part, written_skip}
use Rattle.ol_online.proofs.output.write_history.Goals as goal
use Rattle.ol_online.proofs.output.write_history.Goals.{then-ends_line+in_ok-write_all, else-ends_line}

pub returns-in_err-write_all-clause-err : goal.returns-in_err-write_all-clause-err
returns-in_err-write_all-clause-err g c =
    let h = c.args.history.now in
    let i = c.loop-i.i in
    let e = c.index-history-i.result in
    let start = g.K.Sink.contents c.args.sink.now in
    let at = at_entry c.args.table.now start (g.K.Sink.contents c.loop-i.sink) h i e (text c.args.table.now h) c.loop-i-test.true c.index-history-i.is c.loop-i.invariant.written in
    let part = c.in_err-write_all.ensures.err in
    let P : List ℕ → Type 0 = λ l. Appends (g.K.Sink.contents c.loop-i.sink) (g.K.Sink.contents c.write_all.new.sink) (take part.0 l) in
    on_err c.from_residual.result
    (written_part c.args.table.now start (g.K.Sink.contents c.loop-i.sink) (g.K.Sink.contents c.write_all.new.sink) e (drop (i + 1) h) (text c.args.table.now h) part.0
    (ends_line_true h i e c.ends_line.result c.if-ends_line.true c.ends_line.ensures) at (subst P c.text-length.ensures.text part.1))

pub loop-i-preserved : goal.loop-i-preserved
loop-i-preserved g c =
    let h = c.args.history.now in
    let i = c.loop-i.i in
    let e = c.index-history-i.result in
    let start = g.K.Sink.contents c.args.sink.now in
    let middle = g.K.Sink.contents c.loop-i.sink in
    let at = at_entry c.args.table.now start middle h i e (text c.args.table.now h) c.loop-i-test.true c.index-history-i.is c.loop-i.invariant.written in
    let order = in_line_order_after h i e (in_line_order_at h i e c.loop-i-test.true c.index-history-i.is c.loop-i.invariant.order) in
    elim c.if-ends_line.branch [
      | then-ends_line+in_ok-write_all w ↦
          let new = g.K.Sink.contents w.write_all.new.sink in
          let P : List ℕ → Type 0 = λ l. Appends middle new l in
          rw w.sink-is (record {
            order = order;
            written = written_more c.args.table.now start middle new e (drop (i + 1) h) (text c.args.table.now h) (ends_line_true h i e c.ends_line.result w.if-ends_line.true c.ends_line.ensures) at (subst P w.text-length.ensures.text w.in_ok-write_all.ensures.ok);
            faults = w.in_ok-write_all.ensures.cause.kept ∙ c.loop-i.invariant.faults;
          })
      | else-ends_line w ↦
          rw w.sink-is (record {
            order = order;
            written = written_skip c.args.table.now start middle e (drop (i + 1) h) (text c.args.table.now h) (ends_line_false h i e c.ends_line.result w.if-ends_line.false c.ends_line.ensures) at;
            faults = c.loop-i.invariant.faults;
          })
    ]
