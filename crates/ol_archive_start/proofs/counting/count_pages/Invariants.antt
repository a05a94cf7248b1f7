use Rattle.std.specs.Prelude.{◌*◌, ◌≡◌, ◌≤◌}
use Rattle.ol_free_slots.specs.Slots.{IsRead}
use Rattle.ol_storage.specs.Behind.{Behind, pages_of}
use Rattle.ol_storage.specs.Installation.{config_of}
use Rattle.ol_storage.specs.Storing.{IsStored}
use Rattle.ol_archive_start.specs.Starting.{changed_of}
use Rattle.ol_archive_start.proofs.counting.count_pages.Given as goal

abbrev pub invariant-loop-space : goal.invariant-loop-space
invariant-loop-space g l = record {
  read : IsRead l.fn.storage.now l.storage.now;
  past : g.D.Disk.tells → g.D.Disk.past l.storage.disk ≡ g.D.Disk.past l.fn.storage.disk;
  stored : g.D.Disk.tells → (b : Behind) → IsStored (g.D.Disk.past l.fn.storage.disk) l.fn.storage.now b → IsStored (g.D.Disk.past l.storage.disk) l.storage.now b;
  faults : g.D.Disk.fault_counts l.storage.disk ≡ g.D.Disk.fault_counts l.fn.storage.disk;
  limit : l.count ≤ l.space * 65535;
  counted : g.D.Disk.tells → (b : Behind) → IsStored (g.D.Disk.past l.fn.storage.disk) l.fn.storage.now b → l.count ≡ changed_of (pages_of l.fn.storage.now.anchor b) (config_of l.fn.storage.now) l.cursor l.space;
}
