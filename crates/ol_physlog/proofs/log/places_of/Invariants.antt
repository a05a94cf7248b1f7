use Rattle.std.proofs.Common.{take, ◌≡◌}
use Rattle.ol_physlog.proofs.log.places_of.Given as goal

abbrev pub invariant-loop-index : goal.invariant-loop-index
invariant-loop-index l = record {
  keys : l.places.keys ≡ take l.index l.entries.places;
}
