use Rattle.std.proofs.Common.{take}
use Rattle.ol_outside.specs.KeptCalls.{kept_calls}
use Rattle.ol_outside.proofs.StopLaws.{ComeTo}
use Rattle.ol_outside.proofs.replay.stopped_at.Given as goal

abbrev pub invariant-loop-index : goal.invariant-loop-index
invariant-loop-index l = ComeTo (kept_calls (take l.index l.kept)) l.number l.moment
