use Rattle.ol_block_reading.proofs.Heads.{head_is_short, same_head}
use Rattle.ol_block_reading.proofs.laws.written_heads_are_read.Goals as goal

pub returns-clause-one : goal.returns-clause-one
returns-clause-one c = λ h is k also e. same_head h k is also e

pub returns-clause-limit : goal.returns-clause-limit
returns-clause-limit c = λ h is. head_is_short h is
