use Rattle.std.proofs.Common.{◌<◌, ap, arith, length}
use Rattle.ol_values.specs.Config.{Config}
use Rattle.ol_chunks.specs.Drafts.{config_in}
use Rattle.ol_chunks.proofs.Chunks.{few_pages}
use Rattle.ol_chunks.proofs.table.ChunkTable.pages.Goals as goal

pub returns-clause-limit : goal.returns-clause-limit
returns-clause-limit c =
    let there : c.from-space.result < length c.self.inside.layout.spaces.items =
    omega (arith, c.from-space.ensures, c.requires, ap (λ (q : Config). length q.spaces) c.self.view_is) in
    rw (c.all_pages.ensures, c.area_pages.ensures, c.chunks.ensures) (few_pages (config_in c.self.inside.layout) c.self.invariant.0 c.from-space.result there)
