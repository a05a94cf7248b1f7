use Rattle.std.proofs.Common.{◌≡◌, ◌<◌}
use Rattle.ol_shelf_reader.specs.Streams.{Position, places_left}
use Rattle.ol_shelf_reader.proofs.reader.find_next.Given as goal

abbrev pub invariant-loop-volume : goal.invariant-loop-volume
invariant-loop-volume g l =
    let from : Position = record { drive = l.drive; volume = l.fn.first; block = l.fn.block } in
    let at : Position = record { drive = l.drive; volume = l.volume; block = l.block } in
    record {
      left : places_left (g.F.Shelf.shape l.fn.shelf) at ≡ places_left (g.F.Shelf.shape l.fn.shelf) from;
      counted : 0 < l.volume;
      shape : g.F.Shelf.shape l.shelf ≡ g.F.Shelf.shape l.fn.shelf;
      tapes : g.F.Shelf.tells → g.F.Shelf.tapes l.shelf ≡ g.F.Shelf.tapes l.fn.shelf;
      faults : g.F.Shelf.fault_count l.shelf ≡ g.F.Shelf.fault_count l.fn.shelf;
    }
