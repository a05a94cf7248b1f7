use Rattle.std.proofs.Common.{◌≡◌, length}
use Rattle.ol_shelf_reader.specs.Streams.{places_left}
use Rattle.ol_catalog.specs.Streams.{IsFed}
use Rattle.ol_catalog.proofs.drive.read_drive.Given as goal

abbrev pub invariant-loop-scan : goal.invariant-loop-scan
invariant-loop-scan g l = record {
  fed : g.F.Shelf.tells → IsFed (g.F.Shelf.tapes l.fn.shelf) l.reader l.scan;
  drive : l.reader.drive ≡ l.drive;
  shape : g.F.Shelf.shape l.shelf ≡ g.F.Shelf.shape l.fn.shelf;
  tapes : g.F.Shelf.tells → g.F.Shelf.tapes l.shelf ≡ g.F.Shelf.tapes l.fn.shelf;
  faults : g.F.Shelf.fault_count l.shelf ≡ g.F.Shelf.fault_count l.fn.shelf;
}

abbrev pub decreases-loop-scan : goal.decreases-loop-scan
decreases-loop-scan g l = length (places_left (g.F.Shelf.shape l.fn.shelf) l.reader)
