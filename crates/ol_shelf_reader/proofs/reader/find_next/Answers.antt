use Rattle.std.proofs.Common.{rules}
use Rattle.ol_shelf_reader.specs.Streams.{Position}
use Rattle.ol_shelf_reader.proofs.Places.{stands_first}
use Rattle.ol_shelf_reader.proofs.reader.find_next.Goals as goal

pub returns-then-block-blocks-clause-next : goal.returns-then-block-blocks-clause-next
returns-then-block-blocks-clause-next g c =
    let at : Position = record { drive = c.args.drive; volume = c.loop-volume.volume; block = c.loop-volume.block } in
    let first = stands_first (g.F.Shelf.shape c.args.shelf.now) at (search rules) in
    (first.0, rw (← c.loop-volume.invariant.left) first.1)
