use Rattle.std.proofs.Common.{◌≡◌, ◌<◌, ◌+◌, ◌*◌, length, ap, ◌∙◌, arith, vec_len}
use Rattle.ol_outside.specs.Chunks.{chunk_bytes, spliced}
use Rattle.ol_outside.proofs.ChunkLaws.{chunk-element, chunks-count, chunk-replaced, chunk-there}
use Rattle.std.proofs.lemmas.List.{with_items_is}
use Rattle.std.specs.Vec.{with_items}
use Rattle.ol_outside.proofs.chunks.Chunks.put.Goals as goal

pub returns : goal.returns
returns c =
    let chunks = c.args.self.now in
    let items = c.self.inside.chunks.items in
    let v = c.index_mut-bytes.result.now in
    let at = 2048 * c.args.page + c.args.offset in
    let there : c.args.chunk < length items = omega (arith, chunks-count items chunks c.self.view_is, chunk-there chunks c.args.chunk c.args.page c.requires.page) in
    let old = c.as_mut_slice.ensures.value ∙ chunk-element items chunks c.args.chunk v c.self.view_is there c.index_mut-bytes.ensures.value in
    let same : length c.splice.new.bytes ≡ vec_len v = c.splice.auto.bytes ∙ c.as_mut_slice.ensures.len in
    let new = with_items_is v c.splice.new.bytes same ∙ c.splice.ensures ∙ ap (λ l. spliced l at c.args.piece.now) old in
    chunk-replaced items chunks c.args.chunk (with_items v c.splice.new.bytes) (spliced (chunk_bytes chunks c.args.chunk) at c.args.piece.now) c.self.view_is new
