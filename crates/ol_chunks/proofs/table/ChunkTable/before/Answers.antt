use Rattle.std.proofs.Common.{sym}
use Rattle.ol_chunks.specs.Drafts.{config_in}
use Rattle.ol_chunks.proofs.Chunks.{image_pages}
use Rattle.ol_chunks.proofs.table.ChunkTable.before.Goals as goal

pub returns-clause-inside : goal.returns-clause-inside
returns-clause-inside c =
    rw (c.from.ensures, c.count_chunks.ensures, c.deref.ensures.0, ← c.self.view_is) (sym (image_pages (config_in c.self.inside.layout)))
