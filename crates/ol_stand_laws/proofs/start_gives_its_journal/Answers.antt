use Rattle.ol_stand_laws.proofs.StartLaws.{last_is, need_is, pages_are, rows_are, stamps_are, txns_are}
use Rattle.ol_stand_laws.proofs.start_gives_its_journal.Goals as goal

pub returns-clause-last : goal.returns-clause-last
returns-clause-last k = λ c up journal records s is. last_is c up journal records s is

pub returns-clause-rows : goal.returns-clause-rows
returns-clause-rows k = λ c up journal records s rid is on there slot. rows_are c up journal records s rid is on there slot

pub returns-clause-pages : goal.returns-clause-pages
returns-clause-pages k = λ c up journal records s space page is on there. pages_are c up journal records s space page is on there

pub returns-clause-stamps : goal.returns-clause-stamps
returns-clause-stamps k = λ c up journal records s space page is on there. stamps_are c up journal records s space page is on there

pub returns-clause-transactions : goal.returns-clause-transactions
returns-clause-transactions k = λ c up journal records s is sound. txns_are c up journal records s is sound

pub returns-clause-need : goal.returns-clause-need
returns-clause-need k = λ c up journal records s is sound. need_is c up journal records s is sound
