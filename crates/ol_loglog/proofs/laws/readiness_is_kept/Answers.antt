use Rattle.ol_loglog.proofs.Kept.{ready_backed, ready_elsewhere, ready_higher, ready_need, ready_switched}
use Rattle.ol_loglog.proofs.laws.readiness_is_kept.Goals as goal

pub returns-clause-switched : goal.returns-clause-switched
returns-clause-switched a past v r floor j ready = ready_switched past v r floor j ready

pub returns-clause-backed : goal.returns-clause-backed
returns-clause-backed a past v r floor uniq j ready = ready_backed past v r floor uniq j ready

pub returns-clause-need : goal.returns-clause-need
returns-clause-need a past v r floor need j ready = ready_need past v r floor need j ready

pub returns-clause-floor : goal.returns-clause-floor
returns-clause-floor a past v r floor higher j le ready = ready_higher past v r floor higher j le ready

pub returns-clause-elsewhere : goal.returns-clause-elsewhere
returns-clause-elsewhere a past now v r floor j placed ready = ready_elsewhere past now v r floor j placed ready
