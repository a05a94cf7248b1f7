use Rattle.ol_block_reading.proofs.Blocks.{same_block}
use Rattle.ol_block_reading.proofs.laws.written_blocks_are_read.Goals as goal

pub returns : goal.returns
returns c = λ h p is k q also e. same_block h p k q is also e
