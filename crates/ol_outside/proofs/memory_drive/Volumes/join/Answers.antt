use Rattle.std.proofs.Common.{is_ok}
use Rattle.ol_outside.proofs.ShelfLaws.{joined-fit}
use Rattle.ol_outside.proofs.memory_drive.Volumes.join.Goals as goal

pub invariant_of-self : goal.invariant_of-self
invariant_of-self c =
    joined-fit (is_ok c.append.result) c.self.inside.volumes.items c.more.inside.volumes.items c.append.new.self.items c.append.ensures.items c.self.invariant c.more.invariant
