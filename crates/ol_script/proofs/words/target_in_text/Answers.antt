use Rattle.std.proofs.Common.{ap, not, ◌∙◌}
use Rattle.ol_script.proofs.PieceLaws.{target_more}
use Rattle.ol_script.proofs.words.target_in_text.Goals as goal

pub returns-else-is_none : goal.returns-else-is_none
returns-else-is_none c =
    rw (target_more _ c.cut.result.0.now c.cut.result.1 c.cut.ensures.pieces (c.is_none.ensures ∙ ap not c.if-is_none.false)) c.place_by_parts.ensures
