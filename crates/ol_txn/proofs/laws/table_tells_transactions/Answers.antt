use Rattle.ol_txn.proofs.TellingSeats.{told_begin, told_change, told_end, told_none, told_reserve, told_share, told_undo}
use Rattle.ol_txn.proofs.laws.table_tells_transactions.Goals as goal

pub returns-clause-none : goal.returns-clause-none
returns-clause-none c = told_none

pub returns-clause-begin : goal.returns-clause-begin
returns-clause-begin c = λ txns seats k n long is idle told. told_begin txns seats k n long is idle told

pub returns-clause-change : goal.returns-clause-change
returns-clause-change c = λ txns seats k n h rid before after order e is told. told_change txns seats k n h rid before after order e is told

pub returns-clause-undo : goal.returns-clause-undo
returns-clause-undo c = λ txns seats k n h rid value order e is told. told_undo txns seats k n h rid value order e is told

pub returns-clause-commit : goal.returns-clause-commit
returns-clause-commit c = λ txns seats k n h order e is told. told_end txns seats k n h order e is told

pub returns-clause-rolled : goal.returns-clause-rolled
returns-clause-rolled c = λ txns seats k n h order e is told. told_end txns seats k n h order e is told

pub returns-clause-share : goal.returns-clause-share
returns-clause-share c = λ txns seats k rid told. told_share txns seats k rid told

pub returns-clause-reserve : goal.returns-clause-reserve
returns-clause-reserve c = λ txns seats k n told. told_reserve txns seats k n told
