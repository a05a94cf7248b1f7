use Rattle.ol_turn_laws.proofs.LowLaws.{appended_low, changed_low}
use Rattle.ol_turn_laws.proofs.StepLaws.{appended_last, appended_row, appended_txns, changed_last, changed_row, changed_txns}
use Rattle.ol_turn_laws.proofs.machine_follows_its_record.Goals as goal

pub returns-clause-transactions : goal.returns-clause-transactions
returns-clause-transactions k = λ r m. appended_txns r m

pub returns-clause-row : goal.returns-clause-row
returns-clause-row k = λ r m rid. appended_row r m rid

pub returns-clause-last : goal.returns-clause-last
returns-clause-last k = λ r m. appended_last r m

pub returns-clause-change_transactions : goal.returns-clause-change_transactions
returns-clause-change_transactions k = λ n place r m. changed_txns n place r m

pub returns-clause-change_row : goal.returns-clause-change_row
returns-clause-change_row k = λ n place r m rid. changed_row n place r m rid

pub returns-clause-change_last : goal.returns-clause-change_last
returns-clause-change_last k = λ n place r m. changed_last n place r m

pub returns-clause-low : goal.returns-clause-low
returns-clause-low k = λ r m order within from. appended_low r m order within from

pub returns-clause-change_low : goal.returns-clause-change_low
returns-clause-change_low k = λ n place r m order within from. changed_low n place r m order within from
