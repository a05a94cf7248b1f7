use Rattle.ol_chunks.proofs.AgainLaws.{length-text, read_again}
use Rattle.ol_chunks.proofs.laws.text_is_read.Goals as goal

pub returns-clause-read : goal.returns-clause-read
returns-clause-read c = λ config is. read_again config is

pub returns-clause-limit : goal.returns-clause-limit
returns-clause-limit c = λ config is. length-text config is
