use Rattle.ol_loglog.proofs.Readies.{near_next}
use Rattle.ol_loglog.proofs.Steps.{number_between}
use Rattle.ol_loglog.proofs.laws.next_number_is_near.Goals as goal

pub returns-clause-current : goal.returns-clause-current
returns-clause-current a f = number_between f

pub returns-clause-last : goal.returns-clause-last
returns-clause-last a past v r floor j ready = near_next _ v.config v.state v.gates past r floor j ready
