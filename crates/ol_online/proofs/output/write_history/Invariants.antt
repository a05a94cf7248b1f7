use Rattle.std.proofs.Common.{◌≡◌, drop}
use Rattle.ol_values.specs.Text.{IsInLineOrder, text}
use Rattle.ol_online.proofs.OutputLaws.{IsWritten}
use Rattle.ol_online.proofs.output.write_history.Given as goal

abbrev pub invariant-loop-i : goal.invariant-loop-i
invariant-loop-i g l = record {
  order : IsInLineOrder (drop l.i l.history);
  written : IsWritten (g.K.Sink.contents l.fn.sink) (g.K.Sink.contents l.sink) (text l.table (drop l.i l.history)) (text l.table l.history);
  faults : g.K.Sink.fault_count l.sink ≡ g.K.Sink.fault_count l.fn.sink;
}
