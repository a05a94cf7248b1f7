use Rattle.ol_record.proofs.Logged.{is_found, is_only}
use Rattle.ol_record.proofs.testing.log_head.Goals as goal

pub returns-clause-found : goal.returns-clause-found
returns-clause-found c = is_found c.args.page.now c.page_of.result c.fits-page c.told-page c.page_of.ensures

pub returns-clause-only : goal.returns-clause-only
returns-clause-only c = is_only c.args.page.now c.page_of.result c.page_of.ensures
