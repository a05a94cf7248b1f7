use Rattle.std.proofs.Common.{◌≡◌, ◌+◌, ◌*◌, ◌++◌, map, take}
use Rattle.std.specs.Prelude.{flat_map}
use Rattle.ol_object.specs.Bytes.{saved_bytes}
use Rattle.ol_object.specs.Spaces.{saved_of}
use Rattle.ol_object.proofs.archive_head.put_spaces.Given as goal

-- the spaces before the index stand behind what was there
abbrev pub invariant-loop-saved : goal.invariant-loop-saved
invariant-loop-saved l = record {
  next : l.end ≡ l.at + 17 * l.saved-index;
  front : take l.end l.out ≡ take l.at l.initial.out ++ flat_map saved_bytes (map saved_of (take l.saved-index l.spaces));
}
