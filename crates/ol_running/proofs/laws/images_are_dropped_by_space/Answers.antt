use Rattle.ol_running.proofs.EndLaws.{drop_all, drop_next, drop_none, drop_other}
use Rattle.ol_running.proofs.laws.images_are_dropped_by_space.Goals as goal

pub returns-clause-none : goal.returns-clause-none
returns-clause-none q = λ c b. drop_none c b

pub returns-clause-next : goal.returns-clause-next
returns-clause-next q = λ c b space is. drop_next c b space is

pub returns-clause-other : goal.returns-clause-other
returns-clause-other q = λ c b space is. drop_other c b space is

pub returns-clause-all : goal.returns-clause-all
returns-clause-all q = λ c b sixteen. drop_all c b sixteen
