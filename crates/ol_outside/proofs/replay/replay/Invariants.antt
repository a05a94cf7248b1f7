use Rattle.std.proofs.Common.{◌≡◌, take}
use Rattle.ol_ports.specs.Disk.{bytes_after}
use Rattle.ol_outside.specs.Chunks.{lengths, ChunksHold}
use Rattle.ol_outside.specs.Images.{chosen}
use Rattle.ol_outside.specs.KeptCalls.{kept_calls}
use Rattle.ol_outside.proofs.replay.replay.Given as goal

abbrev pub invariant-loop-call : goal.invariant-loop-call
invariant-loop-call l = record {
  written : ChunksHold l.written (bytes_after l.fn.written (kept_calls (take l.call-index l.kept)));
  image : ChunksHold l.image (chosen l.choice l.fn.written (kept_calls (take l.call-index l.kept)));
  written_lengths : lengths l.written ≡ lengths l.fn.written;
  image_lengths : lengths l.image ≡ lengths l.fn.written;
}
