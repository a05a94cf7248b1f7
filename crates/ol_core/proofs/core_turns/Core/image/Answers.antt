use Rattle.ol_core.proofs.Held.{length-image}
use Rattle.ol_core.proofs.core_turns.Core.image.Goals as goal

pub returns-clause-whole : goal.returns-clause-whole
returns-clause-whole c = length-image _ _ c.args.space _ c.args.page c.image.result.now c.image.ensures (c.self.invariant.filled c.args.space)
