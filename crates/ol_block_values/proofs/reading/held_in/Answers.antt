use Rattle.std.proofs.Common.{ap, sym, ◌∙◌}
use Rattle.ol_object_spans.specs.Told.{held_told}
use Rattle.ol_block_values.proofs.Payloads.{as_log_page, as_nothing, as_page}
use Rattle.ol_block_values.proofs.reading.held_in.Goals as goal

pub returns-then-wants_page-clause-value : goal.returns-then-wants_page-clause-value
returns-then-wants_page-clause-value c =
    c.page_in.ensures ∙ ap held_told (sym (as_page c.args.head.now c.args.payload.now (sym c.wants_head.ensures ∙ c.if-wants_head.false) (sym c.wants_page.ensures ∙ c.if-wants_page.true)))

pub returns-then-wants_log_page-clause-value : goal.returns-then-wants_log_page-clause-value
returns-then-wants_log_page-clause-value c =
    c.log_page_in.ensures
    ∙ ap held_told (sym (as_log_page c.args.head.now c.args.payload.now (sym c.wants_head.ensures ∙ c.if-wants_head.false) (sym c.wants_page.ensures ∙ c.if-wants_page.false) (sym c.wants_log_page.ensures ∙ c.if-wants_log_page.true)))

pub returns-clause-value : goal.returns-clause-value
returns-clause-value c =
    ap held_told (sym (as_nothing c.args.head.now c.args.payload.now (sym c.wants_head.ensures ∙ c.if-wants_head.false) (sym c.wants_page.ensures ∙ c.if-wants_page.false) (sym c.wants_log_page.ensures ∙ c.if-wants_log_page.false)))
