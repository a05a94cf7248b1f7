use Rattle.std.proofs.Common.{arith}
use Rattle.std.proofs.lemmas.Result.{on_ok_weaker}
use Rattle.ol_ports.specs.Disk.{Bytes}
use Rattle.ol_ports.proofs.FrameLaws.{framed_none, outside_both, outside_none}
use Rattle.ol_ports.proofs.StopLaws.{stops_both, stops_framed, stops_none, stops_weaker}
use Rattle.ol_log_state.specs.Files.{next_page}
use Rattle.ol_loglog.specs.RingValue.{first_unwritten}
use Rattle.ol_loglog.proofs.Readies.{ready_holds, wider}
use Rattle.ol_loglog.proofs.pages.flush_page.Goals as goal

pub returns-then-not-held-clause-stops : goal.returns-then-not-held-clause-stops
returns-then-not-held-clause-stops g c tells r floor j ready free = stops_none _ _ (ready_holds _ c.args.table.now c.args.state.now c.args.gates.now.items _ r floor j ready c.args.state.now.next (omega arith))

pub returns-then-not-held-clause-frame : goal.returns-then-not-held-clause-frame
returns-then-not-held-clause-frame g c tells = stops_none _ _ (λ d rest. framed_none _ _ d rest)

pub returns-then-not-held-clause-reads : goal.returns-then-not-held-clause-reads
returns-then-not-held-clause-reads g c tells = outside_none _ _

pub returns-in-Ok-clause-stops : goal.returns-in-Ok-clause-stops
returns-in-Ok-clause-stops g c tells r floor j ready free =
    let s = c.args.state.now in
    let next = c.in-Ok.ensures.ok tells r floor j ready free in
    stops_both _ _ _ _
    (stops_weaker _ _ _ _ (λ (d : Bytes) h. wider c.args.table.now j floor (first_unwritten s) (first_unwritten s) (first_unwritten s) s.next (next_page s.files).uniq d (omega arith) (omega arith) h) (c.in-Ok.ensures.stops tells r floor j ready free))
    (c.write_buffered_page.ensures.stops tells next.0 floor j next.1 next.2)

pub returns-in-Ok-clause-ok : goal.returns-in-Ok-clause-ok
returns-in-Ok-clause-ok g c tells r floor j ready free =
    let next = c.in-Ok.ensures.ok tells r floor j ready free in
    c.write_buffered_page.ensures.ok tells next.0 floor j next.1 next.2

pub returns-in-Ok-clause-frame : goal.returns-in-Ok-clause-frame
returns-in-Ok-clause-frame g c tells = stops_framed _ _ _ _ (c.in-Ok.ensures.frame tells) (c.write_buffered_page.ensures.frame tells)

pub returns-in-Ok-clause-reads : goal.returns-in-Ok-clause-reads
returns-in-Ok-clause-reads g c tells = on_ok_weaker c.write_buffered_page.result (outside_both _ _ _ _ (c.in-Ok.ensures.reads tells)) (c.write_buffered_page.ensures.reads tells)

pub returns-in-Err-clause-stops : goal.returns-in-Err-clause-stops
returns-in-Err-clause-stops g c tells r floor j ready free =
    let s = c.args.state.now in
    stops_weaker _ _ _ _ (λ (d : Bytes) h. wider c.args.table.now j floor (first_unwritten s) (first_unwritten s) (first_unwritten s) s.next (next_page s.files).uniq d (omega arith) (omega arith) h) (c.in-Err.ensures.stops tells r floor j ready free)
