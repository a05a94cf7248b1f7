use Rattle.std.proofs.Common.{ap, not, ◌∙◌}
use Rattle.ol_words.specs.Words.{pieces_behind}
use Rattle.ol_script.proofs.PieceLaws.{one_of_more}
use Rattle.ol_script.proofs.pieces.one.Goals as goal

pub returns-else-is_none : goal.returns-else-is_none
returns-else-is_none c =
    one_of_more c.args.mark (pieces_behind c.args.mark c.args.behind) c.in_ok-piece.piece.now c.in_ok-piece.behind
    c.in_ok-piece.ensures.pieces (c.is_none.ensures ∙ ap not c.if-is_none.false)
