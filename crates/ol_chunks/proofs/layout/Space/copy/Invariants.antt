use Rattle.std.proofs.Common.{take, length, ◌≡◌, ◌≤◌}
use Rattle.ol_chunks.proofs.layout.Space.copy.Given as goal

abbrev pub invariant-loop-index : goal.invariant-loop-index
invariant-loop-index l = (l.index ≤ length l.self-inside.chunks.items) × (l.chunks.items ≡ take l.index l.self-inside.chunks.items)
