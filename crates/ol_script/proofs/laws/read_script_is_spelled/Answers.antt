use Rattle.ol_script.proofs.LineLaws.{read_script}
use Rattle.ol_script.proofs.laws.read_script_is_spelled.Goals as goal

pub returns : goal.returns
returns c = λ text lines e. read_script text lines e
