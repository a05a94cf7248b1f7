use Rattle.std.proofs.Common.{arith, rules}
use Rattle.ol_page_opening.proofs.EntryLaws.{all_of, one_more}
use Rattle.ol_page_opening.proofs.pages.without_image.Goals as goal

pub loop-index-preserved : goal.loop-index-preserved
loop-index-preserved c = one_more c.args.entries.now c.loop-index.index c.loop-index.invariant (search rules)

pub returns-clause-all : goal.returns-clause-all
returns-clause-all c none = all_of c.args.entries.now c.loop-index.index (omega (arith, c.loop-index-test.false, c.count-index-end.ensures.value)) c.loop-index.invariant
