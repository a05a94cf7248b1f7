use Rattle.std.proofs.Common.{length, ◌≡◌}
use Rattle.ol_ports.specs.Frames.{FramedIn, ReadsOutside}
use Rattle.ol_ports.specs.Stops.{Stops}
use Rattle.ol_store.specs.Holding.{CleanAreFlushed, HoldsPages, IsOnDisk, in_store}
use Rattle.ol_store.specs.Pages.{Pages}
use Rattle.ol_store.specs.Stores.{AreFlushed, AreSettled, with_some_dirty}
use Rattle.ol_store.proofs.store.Store.write_all_dirty.Given as goal

abbrev pub invariant-loop-space : goal.invariant-loop-space
invariant-loop-space g l = record {
  rest : l.self ≡ with_some_dirty l.fn.self l.self.pool.dirty l.self.written;
  flushed : AreFlushed l.self;
  stops : g.D.Disk.tells → (v : Pages) → IsOnDisk (g.D.Disk.past l.fn.disk) l.fn.self v → AreSettled l.fn.self.log → Stops (g.D.Disk.past l.fn.disk) (g.D.Disk.past l.disk) (HoldsPages l.fn.self.config l.fn.self.log.generation v);
  stored : g.D.Disk.tells → (v : Pages) → IsOnDisk (g.D.Disk.past l.fn.disk) l.fn.self v → AreSettled l.fn.self.log → IsOnDisk (g.D.Disk.past l.disk) l.self v;
  logged : g.D.Disk.tells → (v : Pages) → IsOnDisk (g.D.Disk.past l.fn.disk) l.fn.self v → AreSettled l.fn.self.log → CleanAreFlushed l.fn.self v → CleanAreFlushed l.self v;
  frame : g.D.Disk.tells → Stops (g.D.Disk.past l.fn.disk) (g.D.Disk.past l.disk) (FramedIn (g.D.Disk.past l.fn.disk) (in_store l.fn.self.config));
  reads : g.D.Disk.tells → ReadsOutside (g.D.Disk.past l.fn.disk) (g.D.Disk.past l.disk) (in_store l.fn.self.config);
  sizes : g.D.Disk.sizes l.disk ≡ g.D.Disk.sizes l.fn.disk;
  faults : g.D.Disk.fault_counts l.disk ≡ g.D.Disk.fault_counts l.fn.disk;
}

abbrev pub decreases-loop-space : goal.decreases-loop-space
decreases-loop-space g l = length l.self.pool.dirty
