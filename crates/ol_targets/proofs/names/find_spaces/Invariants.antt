use Rattle.std.specs.List.{All}
use Rattle.std.specs.Prelude.{length, ◌<◌, ◌++◌, ◌≡◌}
use Rattle.std.proofs.Common.{drop}
use Rattle.std.specs.Option.{option_map}
use Rattle.ol_model.specs.ArchiveTurns.{spaces_named}
use Rattle.ol_targets.proofs.names.find_spaces.Given as goal

abbrev pub invariant-loop-name : goal.invariant-loop-name
invariant-loop-name l = record {
  value : option_map (λ rest. l.spaces ++ rest) (spaces_named l.table (drop l.name-index l.names)) ≡ spaces_named l.table l.names;
  within : All (λ space. space < length l.table.spaces) l.spaces;
  count : length l.spaces ≡ l.name-index;
}
