use Rattle.ol_running.proofs.StartLaws.{start_shown}
use Rattle.ol_running.proofs.laws.archives_start_shown.Goals as goal

pub returns : goal.returns
returns q = λ l b m k level names c a from to s none is of_it next left low. start_shown l b m k level names c a from to s none is of_it next left low
