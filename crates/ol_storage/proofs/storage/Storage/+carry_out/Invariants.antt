use Rattle.std.proofs.Common.{length}
use Rattle.ol_storage.proofs.storage.Storage.+carry_out.Given as goal

abbrev pub decreases-carry_out : goal.decreases-carry_out
decreases-carry_out g l = length l.operations.now
