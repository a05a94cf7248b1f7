use Rattle.ol_script.proofs.LineLaws.{line_again}
use Rattle.ol_script.proofs.laws.spelled_line_is_read.Goals as goal

pub returns : goal.returns
returns c = λ k actor form is short. line_again k actor form is short
