use Rattle.std.proofs.Common.{◌≡◌, ◌<◌, ◌≤◌, ℕ, length, map}
use Rattle.ol_ports.specs.Disk.{seen}
use Rattle.ol_log_places.specs.Heads.{AreInLog, AreLow}
use Rattle.ol_log_places.specs.Places.{Bad, places}
use Rattle.ol_log_places.specs.Runs.{logs_below}
use Rattle.ol_log_places.specs.Scanning.{stood_of}
use Rattle.ol_log_places.specs.Writes.{GatesAre}
use Rattle.ol_log_places.proofs.reading.read_places.Given as goal

abbrev pub invariant-loop-place : goal.invariant-loop-place
invariant-loop-place g l = record {
  heads : g.D.Disk.tells → l.heads.items ≡ map (stood_of l.table) (logs_below l.table (places l.table (seen (g.D.Disk.past l.fn.disk))) l.place);
  good : g.D.Disk.tells → (k : ℕ) → k < l.place → places l.table (seen (g.D.Disk.past l.fn.disk)) k ≡ Bad → ⊥;
  gates : g.D.Disk.tells → GatesAre l.gates.items (places l.table (seen (g.D.Disk.past l.fn.disk)));
  count : length l.gates.items ≡ l.place;
  low : AreLow l.heads.items;
  inside : AreInLog l.table l.heads.items;
  few : length l.heads.items ≤ l.place;
  past : g.D.Disk.tells → g.D.Disk.past l.disk ≡ g.D.Disk.past l.fn.disk;
  sizes : g.D.Disk.sizes l.disk ≡ g.D.Disk.sizes l.fn.disk;
  faults : g.D.Disk.fault_counts l.disk ≡ g.D.Disk.fault_counts l.fn.disk;
}
