use Rattle.std.proofs.Common.{◌+◌, ◌≡◌, drop}
use Rattle.ol_chunks.specs.Places.{place_among}
use Rattle.ol_chunks.proofs.layout.place_among.Given as goal

abbrev pub invariant-loop-number : goal.invariant-loop-number
invariant-loop-number l = place_among (l.first + l.number) (drop l.number l.chunks) l.left ≡ place_among l.first l.chunks l.page
