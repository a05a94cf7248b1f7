use Rattle.std.proofs.Common.{◌≡◌, take}
use Rattle.ol_outside.specs.Chunks.{lengths}
use Rattle.ol_outside.proofs.chunks.Chunks.take_all.Given as goal

abbrev pub invariant-loop-chunk : goal.invariant-loop-chunk
invariant-loop-chunk l = record {
  lengths : lengths l.self ≡ lengths l.from;
  front : take l.chunk l.self ≡ take l.chunk l.from;
}
