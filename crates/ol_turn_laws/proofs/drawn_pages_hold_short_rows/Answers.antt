use Rattle.ol_turn_laws.proofs.DrawnLaws.{drawn_short, shelf_short}
use Rattle.ol_turn_laws.proofs.drawn_pages_hold_short_rows.Goals as goal

pub returns-clause-drawn : goal.returns-clause-drawn
returns-clause-drawn k = λ shelf s records end_ space page h all. drawn_short shelf s records end_ space page h all

pub returns-clause-blocks : goal.returns-clause-blocks
returns-clause-blocks k = λ shelf h. shelf_short shelf h
