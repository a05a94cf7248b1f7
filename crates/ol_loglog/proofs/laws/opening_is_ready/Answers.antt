use Rattle.ol_loglog.proofs.Opening.{order_opened, ready_opened}
use Rattle.ol_loglog.proofs.laws.opening_is_ready.Goals as goal

pub returns-clause-ready : goal.returns-clause-ready
returns-clause-ready g past c r floor upto j gates start a placed are log near next uniq backed = ready_opened c r j floor upto log start a uniq backed near next past gates placed are

pub returns-clause-order : goal.returns-clause-order
returns-clause-order g c r floor upto j start a config fits log near next uniq backed = order_opened c r j floor upto log start a uniq backed near next config fits
