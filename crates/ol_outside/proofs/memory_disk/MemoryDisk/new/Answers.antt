use Rattle.std.proofs.Common.{ap, ◌∙◌}
use Rattle.ol_outside.specs.Chunks.{lengths}
use Rattle.ol_outside.proofs.AgreeLaws.{sized-zero}
use Rattle.ol_outside.proofs.memory_disk.MemoryDisk.new.Goals as goal

pub begin-requires : goal.begin-requires
begin-requires c = ap lengths c.in_ok-zeroes.ensures ∙ sized-zero c.args.sizes.now
