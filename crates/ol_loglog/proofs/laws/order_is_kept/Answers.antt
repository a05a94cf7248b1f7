use Rattle.ol_loglog.proofs.Kept.{order_backed, order_need, order_switched}
use Rattle.ol_loglog.proofs.laws.order_is_kept.Goals as goal

pub returns-clause-switched : goal.returns-clause-switched
returns-clause-switched a c s order = order_switched c s order

pub returns-clause-backed : goal.returns-clause-backed
returns-clause-backed a c s uniq order = order_backed c s uniq order

pub returns-clause-need : goal.returns-clause-need
returns-clause-need a c s need order = order_need c s need order
