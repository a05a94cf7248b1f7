use Rattle.ol_cursor.proofs.PageLaws.{pages_ascend, started_ascend}
use Rattle.ol_cursor.proofs.laws.archive_pages_ascend.Goals as goal

pub returns-clause-pages : goal.returns-clause-pages
returns-clause-pages c = λ m a short from. pages_ascend m a short from

pub returns-clause-started : goal.returns-clause-started
returns-clause-started c = λ m level spaces. started_ascend m level spaces
