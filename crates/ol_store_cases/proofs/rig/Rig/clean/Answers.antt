use Rattle.ol_store_cases.proofs.KnownLaws.{first_flushed}
use Rattle.ol_store_cases.proofs.rig.Rig.clean.Goals as goal

pub clean_one-requires-clause-flushed : goal.clean_one-requires-clause-flushed
clean_one-requires-clause-flushed g c = first_flushed c.flushed_to.new.self (c.flushed_to.ensures.flushed c.self.invariant.last)
