use Rattle.ol_record.specs.LogPages.{IsBuffer}
use Rattle.ol_vectors.proofs.log.tell_records.Given as goal

abbrev pub invariant-loop : goal.invariant-loop
invariant-loop l = IsBuffer l.again
