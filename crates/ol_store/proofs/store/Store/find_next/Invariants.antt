use Rattle.std.proofs.Common.{◌≡◌}
use Rattle.ol_store.specs.Archives.{AreUp, NoneBefore}
use Rattle.ol_store.specs.Holding.{IsOnDisk}
use Rattle.ol_store.specs.Pages.{Pages}
use Rattle.ol_store.proofs.store.Store.find_next.Given as goal

abbrev pub invariant-loop-space : goal.invariant-loop-space
invariant-loop-space g l = record {
  none : g.D.Disk.tells → (v : Pages) → IsOnDisk (g.D.Disk.past l.fn.disk) l.self v → AreUp l.cursor v → NoneBefore l.self.config l.cursor l.self.before v (l.space, 0);
  past : g.D.Disk.tells → g.D.Disk.past l.disk ≡ g.D.Disk.past l.fn.disk;
  sizes : g.D.Disk.sizes l.disk ≡ g.D.Disk.sizes l.fn.disk;
  faults : g.D.Disk.fault_counts l.disk ≡ g.D.Disk.fault_counts l.fn.disk;
}
