use Rattle.std.proofs.Common.{◌≡◌, ◌≤◌, ◌*◌, ℕ}
use Rattle.ol_ports.specs.Frames.{FramedIn, ReadsOutside}
use Rattle.ol_ports.specs.Stops.{Stops}
use Rattle.ol_log_places.specs.Places.{IsPlaced, Place, in_log}
use Rattle.ol_log_places.specs.Writes.{GatesAre, IsClosing, MayBeClosed}
use Rattle.ol_log_places.proofs.pages.close_gates.Given as goal

abbrev pub invariant-loop-place : goal.invariant-loop-place
invariant-loop-place g l = record {
  from : l.file * l.table.log_file_pages ≤ l.place;
  stops : g.D.Disk.tells → (r : ℕ → Place) → IsPlaced (g.D.Disk.past l.fn.disk) l.table r → GatesAre l.gates r → Stops (g.D.Disk.past l.fn.disk) (g.D.Disk.past l.disk) (MayBeClosed l.table r l.file);
  closing : g.D.Disk.tells → (r : ℕ → Place) → IsPlaced (g.D.Disk.past l.fn.disk) l.table r → GatesAre l.gates r → IsClosing (g.D.Disk.past l.disk) l.table r l.file l.place;
  frame : g.D.Disk.tells → Stops (g.D.Disk.past l.fn.disk) (g.D.Disk.past l.disk) (FramedIn (g.D.Disk.past l.fn.disk) (in_log l.table));
  reads : g.D.Disk.tells → ReadsOutside (g.D.Disk.past l.fn.disk) (g.D.Disk.past l.disk) (in_log l.table);
  sizes : g.D.Disk.sizes l.disk ≡ g.D.Disk.sizes l.fn.disk;
  faults : g.D.Disk.fault_counts l.disk ≡ g.D.Disk.fault_counts l.fn.disk;
}
