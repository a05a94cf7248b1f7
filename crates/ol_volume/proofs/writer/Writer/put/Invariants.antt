use Rattle.std.proofs.Common.{length}
use Rattle.ol_volume.proofs.Streams.{IsUnderWay}
use Rattle.ol_volume.proofs.writer.Writer.put.Given as goal

abbrev pub invariant-loop-self : goal.invariant-loop-self
invariant-loop-self g l =
    IsUnderWay l.fn.self (g.T.Drive.tape l.self-inside.drive) (g.T.Drive.fault_count l.self-inside.drive) l.self-inside.number l.self-inside.mounted

abbrev pub decreases-loop-self : goal.decreases-loop-self
decreases-loop-self g l = length (g.T.Drive.tape l.self-inside.drive).rooms
