use Rattle.std.proofs.Common.{◌≡◌, drop}
use Rattle.ol_object_spans.proofs.CodeLaws.{base_in}
use Rattle.ol_object_spans.proofs.header.base_of.Given as goal

abbrev pub invariant-loop-saved : goal.invariant-loop-saved
invariant-loop-saved l = base_in l.space (drop l.saved-index l.saved-items) ≡ base_in l.space l.saved-items
