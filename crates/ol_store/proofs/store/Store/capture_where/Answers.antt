use Rattle.ol_store.proofs.RowSteps.{before_alone}
use Rattle.ol_store.proofs.store.Store.capture_where.Goals as goal

pub returns-then-capture-clause-rest : goal.returns-then-capture-clause-rest
returns-then-capture-clause-rest c = before_alone c.args.self.now c.capture.new.self _ (c.capture.ensures c.requires.there.0 c.requires.there.1)
