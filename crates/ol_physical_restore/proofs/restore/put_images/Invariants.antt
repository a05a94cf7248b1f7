use Rattle.std.proofs.Common.{[], ◌≡◌}
use Rattle.ol_ports.specs.Disk.{seen}
use Rattle.ol_ports.specs.Frames.{FramedIn, ReadsOutside}
use Rattle.ol_ports.specs.Stops.{Stops}
use Rattle.ol_data_pages.specs.Places.{MarkSpaces}
use Rattle.ol_physical_restore.specs.Restores.{AreMarked, ArePut, is_restored}
use Rattle.ol_physical_restore.proofs.restore.put_images.Given as goal

abbrev pub invariant-loop-index : goal.invariant-loop-index
invariant-loop-index g l = record {
  stops : g.D.Disk.tells → Stops (g.D.Disk.past l.fn.disk) (g.D.Disk.past l.disk) (FramedIn (g.D.Disk.past l.fn.disk) (is_restored l.table l.entries));
  put : g.D.Disk.tells → ArePut l.table l.entries l.index (seen (g.D.Disk.past l.disk));
  reads : g.D.Disk.tells → ReadsOutside (g.D.Disk.past l.fn.disk) (g.D.Disk.past l.disk) (is_restored l.table l.entries);
  marks : MarkSpaces l.table l.written;
  marked : AreMarked l.table l.entries l.index l.written;
  idle : l.entries.numbers ≡ [] → (l.disk ≡ l.fn.disk) × (l.written ≡ l.fn.written);
  sizes : g.D.Disk.sizes l.disk ≡ g.D.Disk.sizes l.fn.disk;
  faults : g.D.Disk.fault_counts l.disk ≡ g.D.Disk.fault_counts l.fn.disk;
}
