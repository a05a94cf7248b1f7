use Rattle.std.proofs.Common.{◌≡◌, ◌<◌, ◌+◌, ◌*◌, ◌-◌, length, take, drop, ap, ◌∙◌, arith}
use Rattle.ol_outside.proofs.ChunkLaws.{chunk-element, chunks-count, chunk-there}
use Rattle.ol_outside.proofs.chunks.Chunks.page.Goals as goal

pub returns-clause-bytes : goal.returns-clause-bytes
returns-clause-bytes c =
    let chunks = c.args.self.now in
    let items = c.self.inside.chunks.items in
    let at = 2048 * c.args.page in
    let width : at + 2048 - at ≡ 2048 = omega arith in
    let there : c.args.chunk < length items = omega (arith, chunks-count items chunks c.self.view_is, chunk-there chunks c.args.chunk c.args.page c.requires) in
    let is = c.deref.ensures.value ∙ chunk-element items chunks c.args.chunk c.index.result.now c.self.view_is there c.index.ensures in
    ap (λ n. take n (drop at c.deref.result.now)) width ∙ ap (λ l. take 2048 (drop at l)) is
