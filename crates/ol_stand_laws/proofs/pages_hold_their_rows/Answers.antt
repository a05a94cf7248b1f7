use Rattle.std.proofs.Common.{arith}
use Rattle.ol_stand_laws.proofs.PageSlots.{slot_folded, slot_of_journal, stamp_within}
use Rattle.ol_stand_laws.proofs.pages_hold_their_rows.Goals as goal

pub returns-clause-slot : goal.returns-clause-slot
returns-clause-slot c = λ base first records space page slot lt. slot_folded base first records space page slot lt

pub returns-clause-journal : goal.returns-clause-journal
returns-clause-journal c = λ journal space page slot lt. slot_of_journal journal space page slot lt

pub returns-clause-stamp : goal.returns-clause-stamp
returns-clause-stamp c = λ stamp first records space page lt. stamp_within stamp first records space page lt

pub returns-clause-last : goal.returns-clause-last
returns-clause-last c = λ journal space page. omega (arith, stamp_within 0 1 journal space page (omega arith))
