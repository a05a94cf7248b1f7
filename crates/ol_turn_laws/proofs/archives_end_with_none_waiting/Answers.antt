use Rattle.std.specs.Prelude.{refl}
use Rattle.ol_turn_laws.proofs.WaitingLaws.{broken_end_none, broken_take_none, cancelled_none, ended_none}
use Rattle.ol_turn_laws.proofs.archives_end_with_none_waiting.Goals as goal

pub returns-clause-cancel : goal.returns-clause-cancel
returns-clause-cancel c = λ count m k why. cancelled_none count m k why

pub returns-clause-end : goal.returns-clause-end
returns-clause-end c = λ m k a whole left. ended_none m k a whole left

pub returns-clause-broken_end : goal.returns-clause-broken_end
returns-clause-broken_end c = λ m k a entry broken. broken_end_none m k a entry broken

pub returns-clause-broken_take : goal.returns-clause-broken_take
returns-clause-broken_take c = λ m k a entry broken. broken_take_none m k a entry broken

pub returns-clause-waiting : goal.returns-clause-waiting
returns-clause-waiting c = λ m. refl
