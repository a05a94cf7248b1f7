use Rattle.std.specs.Prelude.{slice_index_or, ℕ, ◌-◌, ◌<◌, ◌^◌, ◌≢◌}
use Rattle.ol_turns.proofs.answers.full_chunk.Given as goal

abbrev pub invariant-loop-chunk : goal.invariant-loop-chunk
invariant-loop-chunk l = record {
  none : (i : ℕ) → i < l.chunk → slice_index_or l.counts i 0 ≢ 2 ^ 64 - 1;
}
