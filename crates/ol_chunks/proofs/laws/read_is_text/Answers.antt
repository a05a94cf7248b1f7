use Rattle.ol_chunks.proofs.TextLaws.{text_of_read}
use Rattle.ol_chunks.proofs.laws.read_is_text.Goals as goal

pub returns : goal.returns
returns c = λ text config e. let t = text_of_read text config e in (t.config, t.text_is, t.limit)
