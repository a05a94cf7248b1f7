use Rattle.std.proofs.Common.{◌≡◌}
use Rattle.ol_ports.specs.Disk.{Rest}
use Rattle.ol_ports.specs.Stops.{Stops}
use Rattle.ol_data_pages.specs.Places.{HasNoMark}
use Rattle.ol_data_pages.proofs.SyncLaws.{IsSyncedBelow}
use Rattle.ol_data_pages.proofs.pages.sync_marked.Given as goal

abbrev pub invariant-loop-chunk : goal.invariant-loop-chunk
invariant-loop-chunk g l = record {
  stops : g.D.Disk.tells → Stops (g.D.Disk.past l.fn.disk) (g.D.Disk.past l.disk) (Rest (g.D.Disk.past l.fn.disk));
  synced : g.D.Disk.tells → IsSyncedBelow (g.D.Disk.past l.fn.disk) (g.D.Disk.past l.disk) l.written l.chunk;
  idle : HasNoMark l.written → l.disk ≡ l.fn.disk;
  sizes : g.D.Disk.sizes l.disk ≡ g.D.Disk.sizes l.fn.disk;
  faults : g.D.Disk.fault_counts l.disk ≡ g.D.Disk.fault_counts l.fn.disk;
}
