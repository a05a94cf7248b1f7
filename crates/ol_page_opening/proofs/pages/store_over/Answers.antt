use Rattle.std.proofs.Common.{subst, sym}
use Rattle.ol_physlog.specs.States.{Log}
use Rattle.ol_store.specs.Holding.{IsFresh}
use Rattle.ol_page_opening.proofs.pages.store_over.Goals as goal

pub returns-in-Ok-new-2-clause-stored : goal.returns-in-Ok-new-2-clause-stored
returns-in-Ok-new-2-clause-stored c past v fresh = c.in-Ok-new-2.ensures.stored past v (subst (λ (l : Log). IsFresh past c.args.table.now l v) (sym c.in-Ok.ensures.value) fresh)
