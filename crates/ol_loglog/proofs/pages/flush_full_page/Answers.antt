use Rattle.std.proofs.Common.{List, arith, subst, sym, ◌+◌, ◌≤◌}
use Rattle.std.proofs.lemmas.Result.{on_ok_weaker}
use Rattle.ol_values.specs.LogPages.{log_room, record_length, records_length}
use Rattle.ol_values.specs.declared.record.Record.{Record}
use Rattle.ol_ports.proofs.FrameLaws.{framed_none, outside_none}
use Rattle.ol_ports.proofs.StopLaws.{stops_none}
use Rattle.ol_log_state.specs.RingState.{RingState}
use Rattle.ol_loglog.proofs.Readies.{flushed_empty, ready_holds}
use Rattle.ol_loglog.proofs.pages.flush_full_page.Goals as goal

pub returns-then-fits-clause-stops : goal.returns-then-fits-clause-stops
returns-then-fits-clause-stops g c tells r floor j ready free = stops_none _ _ (ready_holds _ c.args.table.now c.args.state.now c.args.gates.now.items _ r floor j ready c.args.state.now.next (omega arith))

pub returns-then-fits-clause-frame : goal.returns-then-fits-clause-frame
returns-then-fits-clause-frame g c tells = stops_none _ _ (λ d rest. framed_none _ _ d rest)

pub returns-then-fits-clause-reads : goal.returns-then-fits-clause-reads
returns-then-fits-clause-reads g c tells = outside_none _ _

pub returns-clause-room : goal.returns-clause-room
returns-clause-room g c =
    on_ok_weaker c.flush_page.result
    (λ is. subst (λ (s : RingState). records_length s.buffer + record_length c.args.rec.now ≤ log_room) (sym is)
    (subst (λ (l : List Record). records_length l + record_length c.args.rec.now ≤ log_room) (sym (flushed_empty c.args.state.now)) (omega (arith, c.length_of.ensures.value, c.length_of.ensures.room))))
    c.flush_page.ensures.step
