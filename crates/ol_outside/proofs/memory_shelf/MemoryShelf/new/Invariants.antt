use Rattle.std.proofs.Common.{◌≡◌, [], replicate}
use Rattle.ol_outside.proofs.memory_shelf.MemoryShelf.new.Given as goal

abbrev pub invariant-loop-drive : goal.invariant-loop-drive
invariant-loop-drive l = l.drives.items ≡ replicate l._drive []
