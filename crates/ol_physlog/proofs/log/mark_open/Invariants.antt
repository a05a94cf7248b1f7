use Rattle.std.proofs.Common.{drop, length, ◌≡◌}
use Rattle.ol_physlog.specs.States.{with_open}
use Rattle.ol_physlog.proofs.log.mark_open.Given as goal

abbrev pub invariant-loop-entry : goal.invariant-loop-entry
invariant-loop-entry l = record {
  size : length l.gates ≡ length l.fn.gates;
  left : with_open l.gates (drop l.entry-index l.entries) ≡ with_open l.fn.gates l.entries;
}
