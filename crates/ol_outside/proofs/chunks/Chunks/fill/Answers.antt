use Rattle.std.proofs.Common.{◌≡◌, ◌+◌, ◌*◌, take, replicate, ap, ◌∙◌, arith}
use Rattle.ol_outside.specs.Chunks.{with_piece}
use Rattle.std.proofs.lemmas.List.{take-replicate}
use Rattle.ol_outside.proofs.chunks.Chunks.fill.Goals as goal

pub returns : goal.returns
returns c =
    let front : take c.args.length (replicate 2048 c.args.byte) ≡ replicate c.args.length c.args.byte = take-replicate c.args.length 2048 c.args.byte (omega arith) in
    c.put.ensures ∙ ap (with_piece c.args.self.now c.args.chunk (2048 * c.args.page + c.args.offset)) front
