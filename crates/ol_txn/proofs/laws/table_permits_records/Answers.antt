use Rattle.ol_txn.proofs.TellingSeats.{may_begin, may_change, may_commit, may_end, may_undo}
use Rattle.ol_txn.proofs.laws.table_permits_records.Goals as goal

pub returns-clause-begin : goal.returns-clause-begin
returns-clause-begin c = λ m b seats k n long is idle number told. may_begin m b seats k n long is idle number told

pub returns-clause-change : goal.returns-clause-change
returns-clause-change c =
    λ m b seats k n h rid before after long order e is may told. may_change m b seats k n h rid before after long order e is may told

pub returns-clause-undo : goal.returns-clause-undo
returns-clause-undo c = λ m b seats k n h rid value order e is newest there told. may_undo m b seats k n h rid value order e is newest there told

pub returns-clause-commit : goal.returns-clause-commit
returns-clause-commit c = λ m b seats k n h order e is forward told. may_commit m b seats k n h order e is forward told

pub returns-clause-rolled : goal.returns-clause-rolled
returns-clause-rolled c = λ m b seats k n h order e is none told. may_end m b seats k n h order e is none told
