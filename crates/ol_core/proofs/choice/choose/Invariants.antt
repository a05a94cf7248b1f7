use Rattle.std.proofs.Common.{drop, ◌≡◌}
use Rattle.std.specs.Option.{option_map}
use Rattle.ol_core.specs.Archivers.{spaces_named}
use Rattle.ol_core.specs.Filled.{marked, no_marks}
use Rattle.ol_core.proofs.choice.choose.Given as goal

abbrev pub invariant-loop-name : goal.invariant-loop-name
invariant-loop-name l =
    option_map (marked l.marks) (spaces_named l.table (drop l.name-index l.names)) ≡ option_map (marked no_marks) (spaces_named l.table l.names)
