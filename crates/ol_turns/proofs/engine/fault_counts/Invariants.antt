use Rattle.std.specs.Prelude.{length, slice_index_or, ℕ, ◌<◌, ◌≡◌}
use Rattle.ol_turns.proofs.engine.fault_counts.Given as goal

abbrev pub invariant-loop-chunk : goal.invariant-loop-chunk
invariant-loop-chunk g l = record {
  long : length l.counts ≡ 32;
  same : (i : ℕ) → i < l.chunk → slice_index_or l.counts i 0 ≡ g.D.Disk.fault_counts l.disk i;
}
