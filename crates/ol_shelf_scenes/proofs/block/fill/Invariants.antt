use Rattle.ol_record.specs.LogPages.{IsBuffer}
use Rattle.ol_shelf_scenes.proofs.block.fill.Given as goal

abbrev pub invariant-loop-index : goal.invariant-loop-index
invariant-loop-index l = IsBuffer l.page
