use Rattle.ol_store_cases.proofs.KnownLaws.{known_begun}
use Rattle.ol_store_cases.proofs.rig.Rig.new.Goals as goal

pub invariant_of-result : goal.invariant_of-result
invariant_of-result g c =
    known_begun c.in_ok-table.table c.in-Ok.log c.in_ok-entries.entries c.in_ok-before.before c.in-Ok-new.store c.flushed_to.new.self c.args.generation c.args.flushed c.in-Ok.ensures.value c.in-Ok-new.ensures.value c.flushed_to.ensures.value
