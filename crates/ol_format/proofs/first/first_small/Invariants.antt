use Rattle.ol_format.specs.First.{AreLarge}
use Rattle.ol_format.proofs.first.first_small.Given as goal

abbrev pub invariant-loop-chunk : goal.invariant-loop-chunk
invariant-loop-chunk g l = AreLarge (g.D.Disk.sizes l.disk) l.table l.chunk
