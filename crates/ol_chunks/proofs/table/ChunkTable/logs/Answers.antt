use Rattle.ol_chunks.specs.Drafts.{config_in}
use Rattle.ol_chunks.proofs.Chunks.{logs_inside}
use Rattle.ol_chunks.proofs.table.ChunkTable.logs.Goals as goal

pub returns-clause-inside : goal.returns-clause-inside
returns-clause-inside c =
    rw (c.reserved_pages.ensures, c.physical_pages.ensures, c.from.ensures, c.from-2.ensures, c.first_number.ensures.value, c.from-space.ensures, ← c.self.view_is)
    (logs_inside (config_in c.self.inside.layout) c.self.invariant.0)
