use Rattle.std.proofs.Common.{◌<◌, ℕ, length, replicate, List, ap, ◌∙◌, arith}
use Rattle.ol_outside.specs.Chunks.{chunk_bytes}
use Rattle.ol_outside.proofs.ChunkLaws.{chunk-element, chunks-count, chunk-replaced}
use Rattle.ol_outside.proofs.chunks.Chunks.zero.Goals as goal

abbrev zeros : ℕ → List ℕ
zeros n = replicate n 0

pub returns : goal.returns
returns c =
    let chunks = c.args.self.now in
    let items = c.self.inside.chunks.items in
    let there : c.args.chunk < length items = omega (arith, chunks-count items chunks c.self.view_is) in
    let old = chunk-element items chunks c.args.chunk c.index_mut-bytes.result.now c.self.view_is there c.index_mut-bytes.ensures.value in
    chunk-replaced items chunks c.args.chunk c.fill.new.self (replicate (length (chunk_bytes chunks c.args.chunk)) 0) c.self.view_is (c.fill.ensures.items (λ y e. e) ∙ ap zeros (omega (arith, ap length old, c.index_mut-bytes.result.now.ok.0)))
