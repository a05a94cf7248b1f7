use Rattle.std.proofs.Common.{arith, sym, ◌∙◌, true, false, ◌≡◌}
use Rattle.ol_page.proofs.Reading.{page_again, page_takes}
use Rattle.ol_page.proofs.check.Goals as goal

pub returns-then-is_data_page-clause-found : goal.returns-then-is_data_page-clause-found
returns-then-is_data_page-clause-found c =
    page_takes c.args.page.now c.requires (λ i. omega (arith, c.type_inv.page i)) (sym c.is_data_page.ensures ∙ c.if-is_data_page.true)

pub returns-else-is_data_page-clause-only : goal.returns-else-is_data_page-clause-only
returns-else-is_data_page-clause-only c p is e =
    let never : false ≡ true = sym c.if-is_data_page.false ∙ c.is_data_page.ensures ∙ page_again p c.args.page.now is e in never
