use Rattle.std.proofs.Common.{[], ℕ, ◌<◌, ◌≡◌, ◌≤◌}
use Rattle.ol_values.specs.Config.{Config}
use Rattle.ol_chunks.specs.Places.{lies_in}
use Rattle.ol_ports.specs.Frames.{FramedIn, ReadsOutside}
use Rattle.ol_ports.specs.Stops.{Stops}
use Rattle.ol_physlog.specs.States.{HoldsEntries, IsClosing, emptied}
use Rattle.ol_physlog.proofs.log.PhysLog.shut_gates.Given as goal

abbrev pub invariant-loop-entry : goal.invariant-loop-entry
invariant-loop-entry g l = record {
  within : l.entry ≤ l.self.area.count;
  stops : g.D.Disk.tells → (c : Config) (generation : ℕ) → IsClosing (g.D.Disk.past l.fn.disk) l.self 0 → l.self.generation < generation → Stops (g.D.Disk.past l.fn.disk) (g.D.Disk.past l.disk) (HoldsEntries c (emptied l.self generation) []);
  closing : g.D.Disk.tells → IsClosing (g.D.Disk.past l.fn.disk) l.self 0 → IsClosing (g.D.Disk.past l.disk) l.self l.entry;
  frame : g.D.Disk.tells → Stops (g.D.Disk.past l.fn.disk) (g.D.Disk.past l.disk) (FramedIn (g.D.Disk.past l.fn.disk) (lies_in l.self.area));
  reads : g.D.Disk.tells → ReadsOutside (g.D.Disk.past l.fn.disk) (g.D.Disk.past l.disk) (lies_in l.self.area);
  sizes : g.D.Disk.sizes l.disk ≡ g.D.Disk.sizes l.fn.disk;
  faults : g.D.Disk.fault_counts l.disk ≡ g.D.Disk.fault_counts l.fn.disk;
}
