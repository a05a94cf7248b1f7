use Rattle.std.proofs.Common.{refl}
use Rattle.ol_page_opening.proofs.pages.judge.Goals as goal

pub returns-in-None-clause-images : goal.returns-in-None-clause-images
returns-in-None-clause-images c = c.in-None.ensures.all refl
