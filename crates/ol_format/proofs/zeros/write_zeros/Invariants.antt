use Rattle.std.proofs.Common.{◌≡◌}
use Rattle.ol_ports.specs.Disk.{seen}
use Rattle.ol_ports.specs.Frames.{FramedIn, ReadsAs, in_pages}
use Rattle.ol_ports.specs.Stops.{Stops}
use Rattle.ol_format.specs.Formatted.{zeros}
use Rattle.ol_format.proofs.zeros.write_zeros.Given as goal

abbrev pub invariant-loop-page : goal.invariant-loop-page
invariant-loop-page g l = record {
  written : g.D.Disk.tells → ReadsAs (λ c p i. in_pages l.chunk l.from l.page c p) zeros (seen (g.D.Disk.past l.disk));
  stops : g.D.Disk.tells → Stops (g.D.Disk.past l.fn.disk) (g.D.Disk.past l.disk) (FramedIn (g.D.Disk.past l.fn.disk) (in_pages l.chunk l.from l.end));
  sizes : g.D.Disk.sizes l.disk ≡ g.D.Disk.sizes l.fn.disk;
  faults : g.D.Disk.fault_counts l.disk ≡ g.D.Disk.fault_counts l.fn.disk;
}
