use Rattle.std.proofs.Common.{rules, ◌≡◌, ◌<◌, length, map, get_or, ap, ◌∙◌, arith}
use Rattle.ol_outside.specs.Chunks.{chunk_bytes}
use Rattle.ol_outside.proofs.ChunkLaws.{vec_bytes, chunk-element, chunks-count, chunks-pushed}
use Rattle.ol_outside.proofs.chunks.Chunks.copy.Goals as goal

pub loop-chunk-preserved : goal.loop-chunk-preserved
loop-chunk-preserved c =
    let chunks = c.args.self.now in
    let items = c.self.inside.chunks.items in
    let i = c.loop-chunk.chunk-index in
    let v = c.in_ok-from_slice.field-0 in
    let w = c.chunk-item.result in
    let lt : i < length chunks = omega (arith, chunks-count items chunks c.self.view_is, ap length c.deref-chunk-items.ensures.value) in
    let is : vec_bytes v ≡ chunk_bytes chunks i =
    (let copied : vec_bytes v ≡ c.deref.result.now = search rules in copied) ∙ c.deref.ensures.value ∙ chunk-element items chunks i w c.self.view_is (omega (arith, chunks-count items chunks c.self.view_is)) (c.chunk-item.is ∙ ap (λ l. get_or l i w) c.deref-chunk-items.ensures.value) in
    ap (map vec_bytes) c.in_ok-push.ensures.items ∙ chunks-pushed c.loop-chunk.chunks.items chunks i v c.loop-chunk.invariant lt is
