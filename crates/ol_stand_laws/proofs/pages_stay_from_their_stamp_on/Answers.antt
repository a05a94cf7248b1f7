use Rattle.ol_laws.proofs.PageLaws.{page_below}
use Rattle.ol_stand_laws.proofs.StartLaws.{stays_below}
use Rattle.ol_stand_laws.proofs.pages_stay_from_their_stamp_on.Goals as goal

pub returns-clause-start : goal.returns-clause-start
returns-clause-start k = λ c up journal records s position space page is on there from within. stays_below c up journal records s position space page is on there from within

pub returns-clause-journal : goal.returns-clause-journal
returns-clause-journal k = λ journal more space page h. page_below journal more space page h
