use Rattle.ol_format.proofs.FirstAnchor.{is_first}
use Rattle.ol_format.proofs.first.make_first.Goals as goal

pub returns-clause-grammar : goal.returns-clause-grammar
returns-clause-grammar c = rw (c.all_up.ensures, c.text_of.ensures, c.spaces.ensures.value) (is_first c.args.table.now c.spaces.ensures.config)
