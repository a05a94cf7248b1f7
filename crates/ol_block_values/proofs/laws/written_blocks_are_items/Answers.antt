use Rattle.ol_block_values.proofs.WrittenLaws.{tapes_are_read, written_is_item}
use Rattle.ol_block_values.proofs.laws.written_blocks_are_items.Goals as goal

pub returns-clause-one : goal.returns-clause-one
returns-clause-one c = λ b is. written_is_item b is

pub returns-clause-tapes : goal.returns-clause-tapes
returns-clause-tapes c = λ tapes all. tapes_are_read tapes all
