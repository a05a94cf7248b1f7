use Rattle.std.proofs.Common.{◌+◌, ◌<◌, arith, length, sym}
use Rattle.ol_chunks.specs.Drafts.{config_in}
use Rattle.ol_chunks.proofs.Chunks.{place_inside}
use Rattle.ol_chunks.proofs.table.ChunkTable.place.Goals as goal

pub returns-clause-inside : goal.returns-clause-inside
returns-clause-inside c =
    let there : c.from-space.result < length c.self.inside.layout.spaces.items = omega arith in
    rw (← c.self.view_is)
    (place_inside (config_in c.self.inside.layout) c.from-space.result c.first_number-first.result (c.area_pages.result + c.from.result) c.chunks.result.now (c.in_ok-chunk.chunk, c.in_ok-chunk.page)
    there c.first_number-first.ensures.value c.chunks.ensures (sym c.in_ok-chunk.ensures.value))
