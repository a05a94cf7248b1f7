use Rattle.std.proofs.Common.{◌<◌, length, ap, ◌∙◌, arith}
use Rattle.ol_outside.specs.Chunks.{chunk_bytes}
use Rattle.ol_outside.proofs.ChunkLaws.{chunk-element, chunks-count, chunk-replaced, lengths-count, lengths-chunk}
use Rattle.ol_outside.proofs.chunks.Chunks.take_chunk.Goals as goal

pub copy_from_slice-requires : goal.copy_from_slice-requires
copy_from_slice-requires c =
    let mine = c.self.inside.chunks.items in
    let theirs = c.from.inside.chunks.items in
    let there : c.args.chunk < length mine = omega (arith, chunks-count mine c.args.self.now c.self.view_is) in
    let there_too : c.args.chunk < length theirs = omega (arith, chunks-count theirs c.args.from.now c.from.view_is, lengths-count c.args.self.now c.args.from.now c.requires.lengths) in
    let old = chunk-element mine c.args.self.now c.args.chunk c.index_mut-bytes.result.now c.self.view_is there c.index_mut-bytes.ensures.value in
    let new = c.deref.ensures.value ∙ chunk-element theirs c.args.from.now c.args.chunk c.index.result.now c.from.view_is there_too c.index.ensures in
    omega (arith, ap length old, ap length new, lengths-chunk c.args.self.now c.args.from.now c.args.chunk c.requires.lengths, c.index_mut-bytes.result.now.ok.0)

pub returns : goal.returns
returns c =
    let mine = c.self.inside.chunks.items in
    let theirs = c.from.inside.chunks.items in
    let there_too : c.args.chunk < length theirs = omega (arith, chunks-count theirs c.args.from.now c.from.view_is, lengths-count c.args.self.now c.args.from.now c.requires.lengths) in
    let new = c.deref.ensures.value ∙ chunk-element theirs c.args.from.now c.args.chunk c.index.result.now c.from.view_is there_too c.index.ensures in
    chunk-replaced mine c.args.self.now c.args.chunk c.copy_from_slice.new.self (chunk_bytes c.args.from.now c.args.chunk) c.self.view_is (c.copy_from_slice.ensures.items ∙ new)
