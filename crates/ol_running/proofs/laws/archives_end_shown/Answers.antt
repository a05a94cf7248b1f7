use Rattle.ol_running.proofs.TurnLaws.{cancel_shown, end_broken, end_shown, pages_left_shown, take_broken}
use Rattle.ol_running.proofs.laws.archives_end_shown.Goals as goal

pub returns-clause-ended : goal.returns-clause-ended
returns-clause-ended q = λ l b m k r from to s is whole none. end_shown l b m k r from to s is whole none

pub returns-clause-left : goal.returns-clause-left
returns-clause-left q = λ l b m k r from s is whole some. pages_left_shown l b m k r from s is whole some

pub returns-clause-broken : goal.returns-clause-broken
returns-clause-broken q = λ l b m k r entry from to s is broken. end_broken l b m k r entry from to s is broken

pub returns-clause-broken_take : goal.returns-clause-broken_take
returns-clause-broken_take q = λ l b m k r entry from to s is broken. take_broken l b m k r entry from to s is broken

pub returns-clause-cancelled : goal.returns-clause-cancelled
returns-clause-cancelled q = λ l b m k r count why from to s is. cancel_shown l b m k r count why from to s is
