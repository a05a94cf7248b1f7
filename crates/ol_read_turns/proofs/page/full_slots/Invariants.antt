use Rattle.std.specs.Prelude.{is_some, ◌<◌, ◌^◌, ◌≡◌}
use Rattle.ol_storage.specs.Behind.{Behind}
use Rattle.ol_storage.specs.Storing.{IsStored}
use Rattle.ol_free_slots.specs.Slots.{IsRead, rows_of}
use Rattle.ol_read_turns.specs.PageSlots.{bits_of, full_among}
use Rattle.ol_read_turns.proofs.page.full_slots.Given as goal

abbrev pub invariant-loop-slot : goal.invariant-loop-slot
invariant-loop-slot g l = record {
  read : IsRead l.fn.storage.now l.storage.now;
  past : g.D.Disk.tells → g.D.Disk.past l.storage.disk ≡ g.D.Disk.past l.fn.storage.disk;
  stored : g.D.Disk.tells → (b : Behind) → IsStored (g.D.Disk.past l.fn.storage.disk) l.fn.storage.now b → IsStored (g.D.Disk.past l.storage.disk) l.storage.now b;
  faults : g.D.Disk.fault_counts l.storage.disk ≡ g.D.Disk.fault_counts l.fn.storage.disk;
  small : l.bits < 2 ^ l.slot;
  bits : g.D.Disk.tells → (b : Behind) → IsStored (g.D.Disk.past l.fn.storage.disk) l.fn.storage.now b → l.bits ≡ bits_of (full_among (λ rid. is_some (rows_of b rid)) l.space l.page l.slot);
}
