use Rattle.std.proofs.Common.{sym, ◌∙◌}
use Rattle.ol_chunks.proofs.TextLaws.{text_of_read}
use Rattle.ol_anchor_opening.proofs.OpeningLaws.{pair_there}
use Rattle.ol_anchor_opening.proofs.anchor.table_of.Goals as goal

pub returns-clause-text : goal.returns-clause-text
returns-clause-text c = sym c.bytes.ensures.value ∙ (text_of_read _ _ c.in-Ok.ensures.table).text_is

pub returns-clause-pair : goal.returns-clause-pair
returns-clause-pair c sizes large = pair_there sizes _ c.in-Ok.ensures.config large
