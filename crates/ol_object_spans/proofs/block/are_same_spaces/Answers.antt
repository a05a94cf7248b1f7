use Rattle.std.proofs.Common.{◌∙◌}
use Rattle.ol_object_spans.proofs.CodeLaws.{same_spaces}
use Rattle.ol_object_spans.proofs.block.are_same_spaces.Goals as goal

pub returns : goal.returns
returns c = c.eq.ensures ∙ same_spaces c.args.one.now c.args.other.now
