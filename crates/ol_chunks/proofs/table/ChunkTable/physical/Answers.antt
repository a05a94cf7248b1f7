use Rattle.ol_chunks.specs.Drafts.{config_in}
use Rattle.ol_chunks.proofs.Chunks.{physical_inside}
use Rattle.ol_chunks.proofs.table.ChunkTable.physical.Goals as goal

pub returns-clause-inside : goal.returns-clause-inside
returns-clause-inside c =
    rw (c.reserved_pages.ensures, c.from.ensures, c.first_number.ensures.value, c.from-space.ensures, ← c.self.view_is)
    (physical_inside (config_in c.self.inside.layout) c.self.invariant.0)
