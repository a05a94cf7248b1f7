use Rattle.ol_archive_laws.proofs.ArchivedLaws.{blocks_are}
use Rattle.ol_archive_laws.proofs.BegunLaws.{begun_of}
use Rattle.ol_archive_laws.proofs.archivers_write_archives.Goals as goal

pub returns-clause-blocks : goal.returns-clause-blocks
returns-clause-blocks c = λ m a. blocks_are m a

pub returns-clause-journal : goal.returns-clause-journal
returns-clause-journal c = λ on journal shelf k a m e b may. begun_of on journal shelf k a m e b may
