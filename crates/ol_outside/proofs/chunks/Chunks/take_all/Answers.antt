use Rattle.std.proofs.Common.{◌<◌, ◌+◌, length, take, [], ◌∷◌, ◌++◌, sym, ap, ◌∙◌, arith}
use Rattle.ol_outside.specs.Chunks.{chunk_bytes, lengths}
use Rattle.ol_outside.proofs.ChunkLaws.{chunks-count, lengths-count, lengths-chunk, lengths-set}
use Rattle.std.proofs.lemmas.List.{take_more, take_more_set}
use Rattle.ol_outside.proofs.chunks.Chunks.take_all.Goals as goal

pub loop-chunk-preserved : goal.loop-chunk-preserved
loop-chunk-preserved c =
    let was = c.loop-chunk.self in
    let from = c.args.from.now in
    let i = c.loop-chunk.chunk in
    let same = lengths-count was from c.loop-chunk.invariant.lengths in
    let lt : i < length was =
    omega (arith, chunks-count c.self.inside.chunks.items c.args.self.now c.self.view_is, lengths-count c.args.self.now from c.requires) in
    record {
      lengths = ap lengths c.take_chunk.ensures ∙ lengths-set was i (chunk_bytes from i) (sym (lengths-chunk was from i c.loop-chunk.invariant.lengths)) ∙ c.loop-chunk.invariant.lengths;
      front = ap (take (i + 1)) c.take_chunk.ensures ∙ take_more_set was i (chunk_bytes from i) lt ∙ ap (λ l. l ++ chunk_bytes from i ∷ []) c.loop-chunk.invariant.front ∙ sym (take_more from i [] (omega (arith, lt)));
    }
