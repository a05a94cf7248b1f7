use Rattle.ol_record.proofs.Spellings.{same_front}
use Rattle.ol_record.proofs.laws.no_spelling_begins_another.Goals as goal

pub returns : goal.returns
returns c = λ r s x y is also e. same_front r s x y is also e
