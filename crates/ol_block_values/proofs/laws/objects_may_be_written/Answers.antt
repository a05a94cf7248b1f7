use Rattle.ol_block_values.proofs.MadeLaws.{archive_end_written, archive_page_written, log_end_written, log_records_written, mark_written}
use Rattle.ol_block_values.proofs.laws.objects_may_be_written.Goals as goal

pub returns-clause-archive_end : goal.returns-clause-archive_end
returns-clause-archive_end c = λ kind incarnation number index cut low level head config end_ i n x a l v is text. archive_end_written kind incarnation number index cut low level head config end_ i n x a l v is text

pub returns-clause-archive_page : goal.returns-clause-archive_page
returns-clause-archive_page c = λ incarnation number index p i n x s k is. archive_page_written incarnation number index p i n x s k is

pub returns-clause-log_end : goal.returns-clause-log_end
returns-clause-log_end c = λ kind incarnation uniq index first last end_ i n x f l. log_end_written kind incarnation uniq index first last end_ i n x f l

pub returns-clause-log_records : goal.returns-clause-log_records
returns-clause-log_records c = λ index p x is. log_records_written index p x is

pub returns-clause-mark : goal.returns-clause-mark
returns-clause-mark c = λ incarnation end_ i e. mark_written incarnation end_ i e
