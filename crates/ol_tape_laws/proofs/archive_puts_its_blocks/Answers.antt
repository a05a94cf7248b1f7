use Rattle.ol_tape_laws.proofs.RunLaws.{run_rest, run_whole}
use Rattle.ol_tape_laws.proofs.archive_puts_its_blocks.Goals as goal

pub returns-clause-rest : goal.returns-clause-rest
returns-clause-rest c = λ shelf k a h m n new steps runs. run_rest shelf k a h m n new steps runs

pub returns-clause-whole : goal.returns-clause-whole
returns-clause-whole c = λ shelf k a e h m n begins steps runs. run_whole shelf k a e h m n begins steps runs
