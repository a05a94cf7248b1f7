use Rattle.ol_running.proofs.ShowLaws.{none_formatted, none_shown}
use Rattle.ol_running.proofs.laws.none_run.Goals as goal

pub returns-clause-formatted : goal.returns-clause-formatted
returns-clause-formatted k = λ c short. none_formatted c short

pub returns-clause-none : goal.returns-clause-none
returns-clause-none k = λ m none short stamps. none_shown m none short stamps
