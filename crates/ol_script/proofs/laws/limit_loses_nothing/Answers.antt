use Rattle.ol_script.proofs.LimitLaws.{limit_loses_nothing}
use Rattle.ol_script.proofs.laws.limit_loses_nothing.Goals as goal

pub returns : goal.returns
returns c = λ text. limit_loses_nothing text
