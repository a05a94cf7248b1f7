use Rattle.ol_turn_laws.proofs.WaitingLaws.{left_passed, takes_left, takes_own, takes_page, takes_waiting}
use Rattle.ol_turn_laws.proofs.page_passes_alone.Goals as goal

pub returns-clause-one : goal.returns-clause-one
returns-clause-one c = λ m a. left_passed m a

pub returns-clause-turn : goal.returns-clause-turn
returns-clause-turn c = λ m k a p rest whole left. takes_page m k a p rest whole left

pub returns-clause-archive : goal.returns-clause-archive
returns-clause-archive c = λ m k a p rest within whole left. takes_own m k a p rest within whole left

pub returns-clause-left : goal.returns-clause-left
returns-clause-left c = λ m k a p rest whole left. takes_left m k a p rest whole left

pub returns-clause-waiting : goal.returns-clause-waiting
returns-clause-waiting c = λ m a p rest left. takes_waiting m a p rest left
