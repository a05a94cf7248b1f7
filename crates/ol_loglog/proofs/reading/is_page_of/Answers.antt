use Rattle.std.specs.Prelude.{None, Some, ◌≡◌}
use Rattle.std.proofs.Common.{sym, ◌∙◌}
use Rattle.ol_loglog.proofs.FoundPages.{head_is, no_page, one_page, spelling}
use Rattle.ol_loglog.proofs.reading.is_page_of.Goals as goal

pub returns-in-Some-clause-right : goal.returns-in-Some-clause-right
returns-in-Some-clause-right c =
    let found = c.in-Some.ensures.found in
    one_page c.args.page.now c.in-Some.found c.args.head c.tell_one_page.result (head_is c.args.page.now c.in-Some.found found.0 found.1 found.2) c.tell_one_page.ensures

pub returns-in-Some-clause-spelled : goal.returns-in-Some-clause-spelled
returns-in-Some-clause-spelled c = spelling c.args.page.now c.fits-page c.told-page

pub returns-in-None-clause-right : goal.returns-in-None-clause-right
returns-in-None-clause-right c = no_page c.args.page.now c.args.head c.fits-page c.told-page (λ gate p is image. let clash : None ≡ Some _ = sym c.in-None.is ∙ c.log_head.ensures.only gate p is image in cc)

pub returns-in-None-clause-spelled : goal.returns-in-None-clause-spelled
returns-in-None-clause-spelled c = spelling c.args.page.now c.fits-page c.told-page
