use Rattle.std.proofs.Common.{◌≡◌, drop}
use Rattle.ol_chunks.specs.Places.{holder_from}
use Rattle.ol_chunks.proofs.layout.holder.Given as goal

abbrev pub invariant-loop-space : goal.invariant-loop-space
invariant-loop-space l = holder_from l.space (drop l.space l.spaces) l.left ≡ holder_from 0 l.spaces l.chunk
