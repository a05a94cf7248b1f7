use Rattle.ol_stand_laws.proofs.PageMoves.{change_more, change_moves, other_more, other_stays, undo_more, undo_moves}
use Rattle.ol_stand_laws.proofs.records_move_one_page.Goals as goal

pub returns-clause-change : goal.returns-clause-change
returns-clause-change k = λ p n txn rid before after whole lt. change_moves p n txn rid before after whole lt

pub returns-clause-undo : goal.returns-clause-undo
returns-clause-undo k = λ p n txn rid value whole lt. undo_moves p n txn rid value whole lt

pub returns-clause-other : goal.returns-clause-other
returns-clause-other k = λ p n r space page whole untouched. other_stays p n r space page whole untouched

pub returns-clause-change_more : goal.returns-clause-change_more
returns-clause-change_more k = λ base first records txn rid before after lt. change_more base first records txn rid before after lt

pub returns-clause-undo_more : goal.returns-clause-undo_more
returns-clause-undo_more k = λ base first records txn rid value lt. undo_more base first records txn rid value lt

pub returns-clause-other_more : goal.returns-clause-other_more
returns-clause-other_more k = λ base first records r space page untouched. other_more base first records r space page untouched
