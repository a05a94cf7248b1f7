use Rattle.std.proofs.Common.{◌≡◌, take}
use Rattle.ol_object_spans.specs.Places.{place_in}
use Rattle.ol_object_spans.proofs.place.place_at.Given as goal

abbrev pub invariant-loop-run : goal.invariant-loop-run
invariant-loop-run l = l.place ≡ place_in (take l.run-index l.runs) l.index
