use Rattle.std.specs.Prelude.{List, Some, ℕ, ◌<◌, ◌≡◌}
use Rattle.ol_pool.specs.Frames.{frame_of}
use Rattle.ol_storage.specs.Behind.{Behind}
use Rattle.ol_storage.specs.Storing.{IsStored}
use Rattle.ol_txn.specs.Seats.{table_of}
use Rattle.ol_free_slots.specs.Slots.{AreTaken, IsRead, rows_of}
use Rattle.ol_free_slots.proofs.look.look_at.Given as goal

abbrev pub invariant-loop-slot : goal.invariant-loop-slot
invariant-loop-slot g l = record {
  read : IsRead l.fn.storage.now l.storage.now;
  past : g.D.Disk.tells → g.D.Disk.past l.storage.disk ≡ g.D.Disk.past l.fn.storage.disk;
  stored : g.D.Disk.tells → (b : Behind) → IsStored (g.D.Disk.past l.fn.storage.disk) l.fn.storage.now b → IsStored (g.D.Disk.past l.storage.disk) l.storage.now b;
  faults : g.D.Disk.fault_counts l.storage.disk ≡ g.D.Disk.fault_counts l.fn.storage.disk;
  there : 0 < l.slot → (bytes : List ℕ) × (frame_of l.storage.now.store.pool l.space l.page ≡ Some bytes);
  taken : g.D.Disk.tells → (b : Behind) → IsStored (g.D.Disk.past l.fn.storage.disk) l.fn.storage.now b → AreTaken (rows_of b) (table_of l.locks) l.space l.page l.slot l.full;
}
