use Rattle.ol_page_opening.specs.Opening.{AreImages}
use Rattle.ol_page_opening.proofs.pages.without_image.Given as goal

abbrev pub invariant-loop-index : goal.invariant-loop-index
invariant-loop-index l = AreImages l.entries l.index
