use Rattle.std.proofs.Common.{Bool, subst}
use Rattle.ol_shelf_reader.specs.Steps.{Steps}
use Rattle.ol_catalog.specs.Streams.{drive_blocks}
use Rattle.ol_catalog.proofs.Feeding.{fed_end}
use Rattle.ol_catalog.proofs.Places.{drive_rises}
use Rattle.ol_catalog.proofs.drive.read_drive.Goals as goal

pub returns-clause-objects : goal.returns-clause-objects
returns-clause-objects g c = λ t.
    let shape = g.F.Shelf.shape c.loop-scan.shelf in
    let tapes = g.F.Shelf.tapes c.args.shelf.now in
    let step = subst (λ (more : Bool). Steps shape c.loop-scan.reader c.feed_next.new.reader more) c.if-branch.false c.in_ok-feed_next.ensures.step in
    c.finish.ensures.objects (drive_blocks tapes c.args.drive)
    (fed_end tapes (g.F.Shelf.tapes c.loop-scan.shelf) shape c.loop-scan.reader c.feed_next.new.reader c.loop-scan.scan c.feed_next.new.scan c.args.drive (g.met.F.Shelf.shaped c.loop-scan.shelf t)
    (c.loop-scan.invariant.tapes t) c.loop-scan.invariant.drive step (λ fed. c.in_ok-feed_next.ensures.fed t fed) (c.loop-scan.invariant.fed t))

pub returns-clause-outside : goal.returns-clause-outside
returns-clause-outside g c = λ t.
    let shape = g.F.Shelf.shape c.loop-scan.shelf in
    let tapes = g.F.Shelf.tapes c.args.shelf.now in
    let step = subst (λ (more : Bool). Steps shape c.loop-scan.reader c.feed_next.new.reader more) c.if-branch.false c.in_ok-feed_next.ensures.step in
    c.finish.ensures.outside (drive_blocks tapes c.args.drive)
    (fed_end tapes (g.F.Shelf.tapes c.loop-scan.shelf) shape c.loop-scan.reader c.feed_next.new.reader c.loop-scan.scan c.feed_next.new.scan c.args.drive (g.met.F.Shelf.shaped c.loop-scan.shelf t)
    (c.loop-scan.invariant.tapes t) c.loop-scan.invariant.drive step (λ fed. c.in_ok-feed_next.ensures.fed t fed) (c.loop-scan.invariant.fed t))
    (drive_rises tapes c.args.drive)
