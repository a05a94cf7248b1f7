use Rattle.ol_script.proofs.LineLaws.{spelled_script}
use Rattle.ol_script.proofs.laws.spelled_script_is_read.Goals as goal

pub returns : goal.returns
returns c = λ lines are. spelled_script lines are
