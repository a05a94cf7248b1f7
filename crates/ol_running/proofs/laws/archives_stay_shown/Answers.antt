use Rattle.ol_running.proofs.StepLaws.{beside_shown, untouched_shown}
use Rattle.ol_running.proofs.laws.archives_stay_shown.Goals as goal

pub returns-clause-beside : goal.returns-clause-beside
returns-clause-beside k = λ l b m n config start records archives s. beside_shown l b m n config start records archives s

pub returns-clause-appended : goal.returns-clause-appended
returns-clause-appended k = λ l b m r none s. untouched_shown l b m r none s
