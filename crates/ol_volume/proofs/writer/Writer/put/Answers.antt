use Rattle.std.proofs.Common.{refl}
use Rattle.ol_volume.proofs.Streams.{puts_block, faults_at_write}
use Rattle.ol_volume.proofs.writer.Writer.put.Goals as goal

pub returns-in-Done-clause-ok : goal.returns-in-Done-clause-ok
returns-in-Done-clause-ok g c =
    puts_block _ _ _ _ _ _ _ _ c.loop-self.invariant c.in-Done.ensures.gives (c.in-Done.ensures.kept (λ e. cc))

pub returns-in-Failed-clause-err : goal.returns-in-Failed-clause-err
returns-in-Failed-clause-err g c =
    rw c.fault_of.ensures (faults_at_write _ _ _ _ _ _ _ _ c.loop-self.invariant c.in-Failed.ensures.gives (c.in-Failed.ensures.cause refl))
