use Rattle.std.proofs.Common.{◌≡◌, ◌<◌, ◌*◌, ℕ, length, replicate, List, [], map, sym, ap, ◌∙◌, arith}
use Rattle.ol_outside.specs.Chunks.{chunk_bytes, zero_chunks}
use Rattle.ol_outside.proofs.ChunkLaws.{vec_bytes, chunks-pushed}
use Rattle.std.proofs.lemmas.List.{get_or-map, length-map}
use Rattle.ol_outside.proofs.chunks.Chunks.zeroed.Goals as goal

abbrev zeros : ℕ → List ℕ
zeros pages = replicate (2048 * pages) 0

pub loop-pages-preserved : goal.loop-pages-preserved
loop-pages-preserved c =
    let sizes = c.args.sizes.now in
    let chunks = zero_chunks sizes in
    let i = c.loop-pages.pages-index in
    let v = c.in_ok-vec.field-0 in
    let lt : i < length chunks = omega (arith, length-map sizes zeros) in
    let is : vec_bytes v ≡ chunk_bytes chunks i =
    c.in_ok-vec.ensures.items_if_clones_equal (λ y e. e) ∙ sym (get_or-map zeros sizes i 0 [] (omega arith)) in
    ap (map vec_bytes) c.in_ok-push.ensures.items ∙ chunks-pushed c.loop-pages.chunks.items chunks i v c.loop-pages.invariant lt is
