use Rattle.std.proofs.Common.{length, map, ◌++◌, ◌≡◌, ◌≤◌}
use Rattle.ol_object.specs.Spaces.{saved_of}
use Rattle.ol_core.specs.Filled.{saved_in}
use Rattle.ol_online.proofs.BlockLaws.{saved_from}
use Rattle.ol_online.proofs.archive.saved_spaces.Given as goal

abbrev pub invariant-loop-space : goal.invariant-loop-space
invariant-loop-space l = (map saved_of l.spaces.items ++ saved_from l.marks l.space ≡ saved_in l.marks) × (length l.spaces.items ≤ l.space)
