use Rattle.std.proofs.Common.{◌≡◌, fold, take}
use Rattle.ol_plan.specs.Counting.{end_with}
use Rattle.ol_plan.proofs.catalog.end_of.Given as goal

abbrev pub invariant-loop-object : goal.invariant-loop-object
invariant-loop-object l = l.end ≡ fold (end_with l.objects) 0 (take l.object-index l.objects)
