use Rattle.std.proofs.Common.{List, ap, arith, length, ◌<◌, ◌∙◌}
use Rattle.std.proofs.lemmas.List.{get_or_read}
use Rattle.ol_core.specs.Filled.{Filled, filled_at, no_rows, pages_used}
use Rattle.ol_core.proofs.Walks.{count_marked, none_behind, used_unmarked}
use Rattle.ol_core.proofs.pages.Pages.count.Goals as goal

pub overflow_add-count : goal.overflow_add-count
overflow_add-count c =
    let same = c.deref-pages-items.ensures.value ∙ c.self.view_is in
    let at = get_or_read c.deref-pages-items.result.now c.loop-space.space c.pages-item.result c.loop-space-test.true c.pages-item.is no_rows ∙ ap (λ (l : List Filled). filled_at l c.loop-space.space) same in
    let used = c.used-count.ensures ∙ ap (λ (f : Filled). pages_used f.rows) at in
    omega (arith, used, c.requires.few c.loop-space.space, c.loop-space.invariant.1, c.loop-space-test.true, ap length same, c.requires.limit)

pub loop-space-preserved : goal.loop-space-preserved
loop-space-preserved c =
    let same = c.deref-pages-items.ensures.value ∙ c.self.view_is in
    let at = get_or_read c.deref-pages-items.result.now c.loop-space.space c.pages-item.result c.loop-space-test.true c.pages-item.is no_rows ∙ ap (λ (l : List Filled). filled_at l c.loop-space.space) same in
    let used = c.used-count.ensures ∙ ap (λ (f : Filled). pages_used f.rows) at in
    let here : c.loop-space.space < 16 = omega (arith, c.loop-space-test.true, ap length same, c.requires.limit) in
    let more = count_marked c.args.self.now c.args.marks.now c.loop-space.space here c.if-not-marks-space.false in
    (omega (arith, c.loop-space.invariant.0, more, used), omega (arith, used, c.requires.few c.loop-space.space, c.loop-space.invariant.1))

pub loop-space-preserved-then-not-marks-space : goal.loop-space-preserved-then-not-marks-space
loop-space-preserved-then-not-marks-space c =
    let same = c.deref-pages-items.ensures.value ∙ c.self.view_is in
    let here : c.loop-space.space < 16 = omega (arith, c.loop-space-test.true, ap length same, c.requires.limit) in
    let past = ap length (used_unmarked c.args.self.now c.args.marks.now c.loop-space.space here c.if-not-marks-space.true) in
    (omega (arith, c.loop-space.invariant.0, past), omega (arith, c.loop-space.invariant.1))

pub returns-clause-value : goal.returns-clause-value
returns-clause-value c =
    let same = c.deref-pages-items.ensures.value ∙ c.self.view_is in
    let none = ap length (none_behind c.args.self.now c.args.marks.now c.loop-space.space (omega (arith, c.loop-space-test.false, ap length same))) in
    omega (arith, c.loop-space.invariant.0, none)
