use Rattle.std.proofs.Common.{◌≡◌, map, option_map}
use Rattle.ol_rules.specs.Plan.{bad_outside}
use Rattle.ol_rules.specs.Shelf.{objects}
use Rattle.ol_object_spans.specs.Objects.{object_told, place_told}
use Rattle.ol_catalog.specs.Streams.{shelf_to}
use Rattle.ol_catalog.proofs.catalog.read.Given as goal

abbrev pub invariant-loop-drive : goal.invariant-loop-drive
invariant-loop-drive g l = record {
  found : g.F.Shelf.tells → l.all.items ≡ map object_told (objects (shelf_to (g.F.Shelf.tapes l.fn.shelf) l.drive));
  outside : g.F.Shelf.tells → l.outside ≡ option_map place_told (bad_outside (shelf_to (g.F.Shelf.tapes l.fn.shelf) l.drive));
  shape : g.F.Shelf.shape l.shelf ≡ g.F.Shelf.shape l.fn.shelf;
  tapes : g.F.Shelf.tells → g.F.Shelf.tapes l.shelf ≡ g.F.Shelf.tapes l.fn.shelf;
  faults : g.F.Shelf.fault_count l.shelf ≡ g.F.Shelf.fault_count l.fn.shelf;
}
