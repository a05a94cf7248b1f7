use Rattle.ol_loglog.proofs.Kept.{unbacked_started, unbacked_switched, unbacked_turned}
use Rattle.ol_loglog.proofs.laws.next_use_is_not_backed_up.Goals as goal

pub returns-clause-started : goal.returns-clause-started
returns-clause-started a area start heads = unbacked_started area start heads

pub returns-clause-turned : goal.returns-clause-turned
returns-clause-turned a s below = unbacked_turned s below

pub returns-clause-switched : goal.returns-clause-switched
returns-clause-switched a s below = unbacked_switched s below
