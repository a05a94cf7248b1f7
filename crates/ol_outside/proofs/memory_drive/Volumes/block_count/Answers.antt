use Rattle.std.proofs.Common.{length, ap, subst, arith}
use Rattle.ol_outside.specs.Volumes.{BlocksFit}
use Rattle.ol_outside.proofs.LastVolume.{blocks-fit-at}
use Rattle.ol_outside.proofs.ShelfLaws.{volume-element, volumes-count}
use Rattle.ol_outside.proofs.memory_drive.Volumes.block_count.Goals as goal

pub overflow_cast-result : goal.overflow_cast-result
overflow_cast-result c =
    let items = c.self.inside.volumes.items in
    let there = volumes-count items c.args.self.now c.self.view_is in
    let is = volume-element items c.args.self.now c.args.volume c.index.result.now c.self.view_is (omega arith) c.index.ensures in
    let fit = blocks-fit-at c.args.self.now c.args.volume (subst BlocksFit c.self.view_is c.self.invariant) in
    omega (arith, c.len.ensures, ap length is, fit, c.index.result.now.ok.0)
