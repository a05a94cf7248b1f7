use Rattle.ol_record.specs.LogPages.{IsBuffer}
use Rattle.ol_vectors.proofs.log.times_pushed.Given as goal

abbrev pub invariant-loop-times : goal.invariant-loop-times
invariant-loop-times l = IsBuffer l.page
