use Rattle.ol_store_cases.proofs.KnownLaws.{none_marked}
use Rattle.ol_store_cases.proofs.rig.Rig.checkpoint.Goals as goal

pub checkpoint-requires-clause-flushed : goal.checkpoint-requires-clause-flushed
checkpoint-requires-clause-flushed g c = c.flushed_to.ensures.flushed c.self.invariant.last

pub empty-requires-clause-synced : goal.empty-requires-clause-synced
empty-requires-clause-synced g c = none_marked c.flushed_to.new.self c.checkpoint.new.self c.in-Ok.ensures.value
