use Rattle.ol_physlog.proofs.EmptyLaws.{emptied_holds}
use Rattle.ol_physlog.proofs.StateLaws.{laid_holds}
use Rattle.ol_physlog.proofs.StopLaws.{counts_added, none_refused, settled_count}
use Rattle.ol_physlog.proofs.laws.stops_are_read.Goals as goal

pub returns-clause-held : goal.returns-clause-held
returns-clause-held c config past s images laid = laid_holds config past s images laid

pub returns-clause-settled : goal.returns-clause-settled
returns-clause-settled c config past s images laid all = settled_count config past s images laid all

pub returns-clause-good : goal.returns-clause-good
returns-clause-good c config s images d holds is = none_refused config s images d holds is

pub returns-clause-added : goal.returns-clause-added
returns-clause-added c config s images d holds = counts_added config s images d holds

pub returns-clause-later : goal.returns-clause-later
returns-clause-later c config s images d generation holds newer = emptied_holds config s generation d newer holds.older
