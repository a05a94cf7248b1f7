use Rattle.std.proofs.Common.{take, length, ◌≡◌, ◌≤◌}
use Rattle.ol_chunks.proofs.layout.copy_spaces.Given as goal

abbrev pub invariant-loop-index : goal.invariant-loop-index
invariant-loop-index l = (l.index ≤ length l.spaces.items) × (l.copies.items ≡ take l.index l.spaces.items)
