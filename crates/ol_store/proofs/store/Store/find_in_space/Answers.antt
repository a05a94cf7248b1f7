use Rattle.ol_store.proofs.CutLaws.{none_in_space}
use Rattle.ol_store.proofs.store.Store.find_in_space.Goals as goal

pub returns-clause-given : goal.returns-clause-given
returns-clause-given g c tells v h up none =
    none_in_space c.args.self.now.config c.args.cursor.now c.args.self.now.before v c.args.space c.loop-page.page c.page_count-page-end.result c.page_count-page-end.ensures c.loop-page-test.false (c.loop-page.invariant.none tells v h up none)
