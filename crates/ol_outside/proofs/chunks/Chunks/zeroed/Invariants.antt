use Rattle.std.proofs.Common.{◌≡◌, take, map}
use Rattle.ol_outside.specs.Chunks.{zero_chunks}
use Rattle.ol_outside.proofs.ChunkLaws.{vec_bytes}
use Rattle.ol_outside.proofs.chunks.Chunks.zeroed.Given as goal

abbrev pub invariant-loop-pages : goal.invariant-loop-pages
invariant-loop-pages l = map vec_bytes l.chunks.items ≡ take l.pages-index (zero_chunks l.sizes)
