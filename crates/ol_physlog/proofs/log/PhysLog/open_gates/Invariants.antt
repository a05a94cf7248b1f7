use Rattle.std.proofs.Common.{List, length, ℕ, ◌≡◌, ◌≤◌}
use Rattle.ol_values.specs.Config.{Config}
use Rattle.ol_chunks.specs.Places.{lies_in}
use Rattle.ol_ports.specs.Frames.{FramedIn, ReadsOutside}
use Rattle.ol_ports.specs.Stops.{Stops}
use Rattle.ol_physlog.specs.States.{HoldsEntries, IsOpening}
use Rattle.ol_physlog.proofs.log.PhysLog.open_gates.Given as goal

abbrev pub invariant-loop-turn : goal.invariant-loop-turn
invariant-loop-turn g l = record {
  from : l.self.settled ≤ l.turn;
  within : l.turn ≤ length l.self.places;
  stops : g.D.Disk.tells → (c : Config) (images : List (List ℕ)) → IsOpening c (g.D.Disk.past l.fn.disk) l.self images l.self.settled → Stops (g.D.Disk.past l.fn.disk) (g.D.Disk.past l.disk) (HoldsEntries c l.self images);
  opening : g.D.Disk.tells → (c : Config) (images : List (List ℕ)) → IsOpening c (g.D.Disk.past l.fn.disk) l.self images l.self.settled → IsOpening c (g.D.Disk.past l.disk) l.self images l.turn;
  frame : g.D.Disk.tells → Stops (g.D.Disk.past l.fn.disk) (g.D.Disk.past l.disk) (FramedIn (g.D.Disk.past l.fn.disk) (lies_in l.self.area));
  reads : g.D.Disk.tells → ReadsOutside (g.D.Disk.past l.fn.disk) (g.D.Disk.past l.disk) (lies_in l.self.area);
  sizes : g.D.Disk.sizes l.disk ≡ g.D.Disk.sizes l.fn.disk;
  faults : g.D.Disk.fault_counts l.disk ≡ g.D.Disk.fault_counts l.fn.disk;
}
