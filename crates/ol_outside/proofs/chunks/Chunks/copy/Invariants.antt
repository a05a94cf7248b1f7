use Rattle.std.proofs.Common.{◌≡◌, take, map}
use Rattle.ol_outside.proofs.ChunkLaws.{vec_bytes}
use Rattle.ol_outside.proofs.chunks.Chunks.copy.Given as goal

abbrev pub invariant-loop-chunk : goal.invariant-loop-chunk
invariant-loop-chunk l = map vec_bytes l.chunks.items ≡ take l.chunk-index l.self
