use Rattle.std.proofs.Common.{◌≡◌}
use Rattle.ol_store.specs.Archives.{AreUp, NoneBefore}
use Rattle.ol_store.specs.Holding.{IsOnDisk}
use Rattle.ol_store.specs.Pages.{Pages}
use Rattle.ol_store.proofs.store.Store.find_in_space.Given as goal

abbrev pub invariant-loop-page : goal.invariant-loop-page
invariant-loop-page g l = record {
  none : g.D.Disk.tells → (v : Pages) → IsOnDisk (g.D.Disk.past l.fn.disk) l.self v → AreUp l.cursor v → NoneBefore l.self.config l.cursor l.self.before v (l.space, 0) → NoneBefore l.self.config l.cursor l.self.before v (l.space, l.page);
  past : g.D.Disk.tells → g.D.Disk.past l.disk ≡ g.D.Disk.past l.fn.disk;
  sizes : g.D.Disk.sizes l.disk ≡ g.D.Disk.sizes l.fn.disk;
  faults : g.D.Disk.fault_counts l.disk ≡ g.D.Disk.fault_counts l.fn.disk;
}
