use Rattle.std.proofs.Common.{length, ℕ, ◌<◌, ◌≡◌}
use Rattle.ol_chunks.specs.Places.{physical_area}
use Rattle.ol_ports.specs.Disk.{seen}
use Rattle.ol_physlog.specs.Reading.{IsFound, IsRefused, Tells}
use Rattle.ol_physlog.proofs.reading.read_entries.Given as goal

abbrev pub invariant-loop-entry : goal.invariant-loop-entry
invariant-loop-entry g l = record {
  found : IsFound l.found;
  reached : length l.found.gates ≡ l._entry;
  tells : g.D.Disk.tells → Tells l.table (physical_area l.table) l.generation (seen (g.D.Disk.past l.fn.disk)) l.found;
  good : g.D.Disk.tells → (k : ℕ) → k < l._entry → IsRefused l.table (physical_area l.table) l.generation (seen (g.D.Disk.past l.fn.disk)) k → ⊥;
  past : g.D.Disk.tells → g.D.Disk.past l.disk ≡ g.D.Disk.past l.fn.disk;
  sizes : g.D.Disk.sizes l.disk ≡ g.D.Disk.sizes l.fn.disk;
  faults : g.D.Disk.fault_counts l.disk ≡ g.D.Disk.fault_counts l.fn.disk;
}
