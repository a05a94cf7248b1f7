use Rattle.std.specs.Prelude.{length, ◌≡◌}
use Rattle.ol_storage.specs.Behind.{Behind}
use Rattle.ol_storage.specs.Installation.{config_of}
use Rattle.ol_storage.specs.Storing.{IsStored}
use Rattle.ol_txn.specs.Seats.{table_of}
use Rattle.ol_free_slots.specs.Filled.{AreFilled, HasRisenFor}
use Rattle.ol_free_slots.specs.Slots.{IsRead, rows_of}
use Rattle.ol_free_slots.proofs.Finding.{IsEdge, IsSought}
use Rattle.ol_free_slots.proofs.search.find_free.Given as goal

abbrev pub invariant-loop-page : goal.invariant-loop-page
invariant-loop-page g l = record {
  read : IsRead l.fn.storage.now l.storage.now;
  past : g.D.Disk.tells → g.D.Disk.past l.storage.disk ≡ g.D.Disk.past l.fn.storage.disk;
  stored : g.D.Disk.tells → (b : Behind) → IsStored (g.D.Disk.past l.fn.storage.disk) l.fn.storage.now b → IsStored (g.D.Disk.past l.storage.disk) l.storage.now b;
  faults : g.D.Disk.fault_counts l.storage.disk ≡ g.D.Disk.fault_counts l.fn.storage.disk;
  filled : g.D.Disk.tells → (b : Behind) → IsStored (g.D.Disk.past l.fn.storage.disk) l.fn.storage.now b → AreFilled l.fn.hints (config_of l.fn.storage.now) (rows_of b) → AreFilled l.hints (config_of l.fn.storage.now) (rows_of b);
  sought : g.D.Disk.tells → (b : Behind) → IsStored (g.D.Disk.past l.fn.storage.disk) l.fn.storage.now b → AreFilled l.fn.hints (config_of l.fn.storage.now) (rows_of b) → IsSought (config_of l.fn.storage.now) (rows_of b) (table_of l.locks) l.space l.page;
  spaces : length l.hints.first ≡ 16;
  risen : HasRisenFor l.space l.fn.hints l.hints;
  edge : g.D.Disk.tells → (b : Behind) → IsStored (g.D.Disk.past l.fn.storage.disk) l.fn.storage.now b → IsEdge l.hints (rows_of b) l.space l.page;
}
