use Rattle.ol_laws.proofs.NeedLaws.{from_records, open_from_need}
use Rattle.ol_laws.proofs.laws.closed_transactions_drop_out.Goals as goal

pub returns-clause-commutes : goal.returns-clause-commutes
returns-clause-commutes c = λ low txns records begins. from_records low txns records begins

pub returns-clause-need : goal.returns-clause-need
returns-clause-need c = λ k past kept more s e. open_from_need k past kept more s e
