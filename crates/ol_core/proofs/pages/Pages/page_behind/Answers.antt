use Rattle.std.proofs.Common.{List, ap, arith, drop, length, sym, ◌+◌, ◌-◌, ◌<◌, ◌∙◌, ℕ}
use Rattle.std.proofs.lemmas.List.{get_or_read}
use Rattle.ol_core.specs.Filled.{Filled, filled_at, first_place, no_rows, pages_used, used_from}
use Rattle.ol_core.proofs.Walks.{none_behind, none_left, place_here, place_later, used_unmarked}
use Rattle.ol_core.proofs.pages.Pages.page_behind.Goals as goal

pub loop-space-preserved-then-not-marks-space : goal.loop-space-preserved-then-not-marks-space
loop-space-preserved-then-not-marks-space c =
    let same = c.deref-pages-items.ensures.value ∙ c.self.view_is in
    let here : c.loop-space.space < 16 = omega (arith, c.loop-space-test.true, ap length same, c.requires.limit) in
    ap (drop c.loop-space.left) (sym (used_unmarked c.args.self.now c.args.marks.now c.loop-space.space here c.if-not-marks-space.true)) ∙ c.loop-space.invariant

pub overflow_cast-result-then-left-count : goal.overflow_cast-result-then-left-count
overflow_cast-result-then-left-count c =
    let same = c.deref-pages-items.ensures.value ∙ c.self.view_is in
    let at = get_or_read c.deref-pages-items.result.now c.loop-space.space c.pages-item.result c.loop-space-test.true c.pages-item.is no_rows ∙ ap (λ (l : List Filled). filled_at l c.loop-space.space) same in
    let used = c.used-count.ensures ∙ ap (λ (f : Filled). pages_used f.rows) at in
    omega (arith, used, c.requires.few c.loop-space.space, c.if-left-count.true)

pub returns-then-left-count-clause-value : goal.returns-then-left-count-clause-value
returns-then-left-count-clause-value c =
    let same = c.deref-pages-items.ensures.value ∙ c.self.view_is in
    let at = get_or_read c.deref-pages-items.result.now c.loop-space.space c.pages-item.result c.loop-space-test.true c.pages-item.is no_rows ∙ ap (λ (l : List Filled). filled_at l c.loop-space.space) same in
    let used = c.used-count.ensures ∙ ap (λ (f : Filled). pages_used f.rows) at in
    let here : c.loop-space.space < 16 = omega (arith, c.loop-space-test.true, ap length same, c.requires.limit) in
    sym (place_here c.args.self.now c.args.marks.now c.loop-space.space c.loop-space.left here c.if-not-marks-space.false (omega (arith, used, c.if-left-count.true))) ∙ ap first_place c.loop-space.invariant

pub loop-space-preserved : goal.loop-space-preserved
loop-space-preserved c =
    let same = c.deref-pages-items.ensures.value ∙ c.self.view_is in
    let at = get_or_read c.deref-pages-items.result.now c.loop-space.space c.pages-item.result c.loop-space-test.true c.pages-item.is no_rows ∙ ap (λ (l : List Filled). filled_at l c.loop-space.space) same in
    let used = c.used-count.ensures ∙ ap (λ (f : Filled). pages_used f.rows) at in
    let here : c.loop-space.space < 16 = omega (arith, c.loop-space-test.true, ap length same, c.requires.limit) in
    ap (λ (n : ℕ). drop (c.loop-space.left - n) (used_from c.args.self.now c.args.marks.now (c.loop-space.space + 1))) used
    ∙ sym (place_later c.args.self.now c.args.marks.now c.loop-space.space c.loop-space.left here c.if-not-marks-space.false (omega (arith, used, c.if-left-count.false))) ∙ c.loop-space.invariant

pub returns-clause-value : goal.returns-clause-value
returns-clause-value c =
    let same = c.deref-pages-items.ensures.value ∙ c.self.view_is in
    let none = none_behind c.args.self.now c.args.marks.now c.loop-space.space (omega (arith, c.loop-space-test.false, ap length same)) in
    sym (none_left c.loop-space.left (used_from c.args.self.now c.args.marks.now c.loop-space.space) none) ∙ ap first_place c.loop-space.invariant
