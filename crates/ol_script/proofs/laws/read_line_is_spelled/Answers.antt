use Rattle.ol_script.proofs.LineLaws.{line_takes}
use Rattle.ol_script.proofs.laws.read_line_is_spelled.Goals as goal

pub returns : goal.returns
returns c = λ k bytes line e. line_takes k bytes line e
