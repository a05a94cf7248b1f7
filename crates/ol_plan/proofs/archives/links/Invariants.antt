use Rattle.std.proofs.Common.{◌≡◌, take}
use Rattle.std.specs.List.{enumerate_from}
use Rattle.std.specs.Prelude.{filter_map}
use Rattle.ol_plan.specs.Archives.{link_of}
use Rattle.ol_plan.proofs.archives.links.Given as goal

abbrev pub invariant-loop-index : goal.invariant-loop-index
invariant-loop-index l = l.links.items ≡ filter_map (link_of l.objects l.space) (take l.index (enumerate_from 0 l.objects))
