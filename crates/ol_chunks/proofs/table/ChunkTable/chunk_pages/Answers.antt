use Rattle.ol_chunks.specs.Drafts.{config_in}
use Rattle.ol_chunks.proofs.Chunks.{some_pages}
use Rattle.ol_chunks.proofs.table.ChunkTable.chunk_pages.Goals as goal

pub returns-clause-some : goal.returns-clause-some
returns-clause-some c =
    rw (c.from-2.ensures, c.size_of_chunk.ensures, c.deref.ensures.0, c.from.ensures, ← c.self.view_is)
    (λ le. some_pages (config_in c.self.inside.layout) c.self.invariant.0 c.args.chunk le)
