use Rattle.std.proofs.Common.{None, ◌≡◌}
use Rattle.ol_reserve.specs.Pair.{Newest}
use Rattle.ol_ports.specs.Frames.{FramedIn}
use Rattle.ol_ports.specs.Stops.{Stops}
use Rattle.ol_chunks.specs.Places.{in_spaces}
use Rattle.ol_format.specs.Formatted.{AreZeroed, IsBlank}
use Rattle.ol_format.proofs.zeros.zero_chunks.Given as goal

abbrev pub invariant-loop-chunk : goal.invariant-loop-chunk
invariant-loop-chunk g l = record {
  zeroed : g.D.Disk.tells → IsBlank (g.D.Disk.past l.fn.disk) → AreZeroed (g.D.Disk.past l.disk) l.table l.chunk;
  stops : g.D.Disk.tells → IsBlank (g.D.Disk.past l.fn.disk) → Stops (g.D.Disk.past l.fn.disk) (g.D.Disk.past l.disk) (λ d. Newest d None);
  frame : g.D.Disk.tells → Stops (g.D.Disk.past l.fn.disk) (g.D.Disk.past l.disk) (FramedIn (g.D.Disk.past l.fn.disk) (in_spaces l.table));
  sizes : g.D.Disk.sizes l.disk ≡ g.D.Disk.sizes l.fn.disk;
  faults : g.D.Disk.fault_counts l.disk ≡ g.D.Disk.fault_counts l.fn.disk;
}
