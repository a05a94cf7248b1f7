use Rattle.std.proofs.Common.{arith}
use Rattle.ol_opening.proofs.Anchors.{all_there}
use Rattle.ol_opening.proofs.opening.storage_of.Goals as goal

pub flushed_to-requires : goal.flushed_to-requires
flushed_to-requires g c = omega (arith, c.requires.fresh)

pub new-requires-clause-sizes : goal.new-requires-clause-sizes
new-requires-clause-sizes g c = all_there _ _ _ c.requires.opened.online
