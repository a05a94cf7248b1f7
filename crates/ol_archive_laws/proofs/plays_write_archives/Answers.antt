use Rattle.ol_archive_laws.proofs.PlayedLaws.{played_blocks, played_of}
use Rattle.ol_archive_laws.proofs.plays_write_archives.Goals as goal

pub returns-clause-blocks : goal.returns-clause-blocks
returns-clause-blocks c = λ f journal a. played_blocks f journal a

pub returns-clause-journal : goal.returns-clause-journal
returns-clause-journal c = λ config journal spaces sound some. played_of config journal spaces sound some
