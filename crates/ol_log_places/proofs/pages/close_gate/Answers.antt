use Rattle.std.proofs.Common.{subst}
use Rattle.ol_ports.proofs.FrameLaws.{framed_none, outside_none}
use Rattle.ol_ports.proofs.StopLaws.{stops_none}
use Rattle.ol_log_places.specs.Writes.{IsGate}
use Rattle.ol_log_places.proofs.WriteLaws.{close_framed, close_next, close_outside, close_stops, closing_may, closing_skip}
use Rattle.ol_log_places.proofs.pages.close_gate.Goals as goal

pub returns-then-is_open-clause-stops : goal.returns-then-is_open-clause-stops
returns-then-is_open-clause-stops g c tells r file closing in_it gate =
    close_stops c.args.table.now c.args.place c.requires.place _ c.logs-logs.ensures.value _ _ c.write_at.result (c.write_at.ensures.past tells) r file closing in_it (subst (λ b. IsGate b (r c.args.place)) c.if-is_open.true gate)

pub returns-then-is_open-clause-ok : goal.returns-then-is_open-clause-ok
returns-then-is_open-clause-ok g c tells r file closing in_it gate =
    close_next c.args.table.now c.args.place c.requires.place _ c.logs-logs.ensures.value _ _ c.write_at.result (c.write_at.ensures.past tells) r file closing in_it (subst (λ b. IsGate b (r c.args.place)) c.if-is_open.true gate)

pub returns-then-is_open-clause-frame : goal.returns-then-is_open-clause-frame
returns-then-is_open-clause-frame g c tells = close_framed c.args.table.now c.args.place c.requires.place _ c.logs-logs.ensures.value _ _ c.write_at.result (c.write_at.ensures.past tells)

pub returns-then-is_open-clause-reads : goal.returns-then-is_open-clause-reads
returns-then-is_open-clause-reads g c tells = close_outside c.args.table.now c.args.place c.requires.place _ c.logs-logs.ensures.value _ _ c.write_at.result (c.write_at.ensures.past tells)

pub returns-else-is_open-clause-stops : goal.returns-else-is_open-clause-stops
returns-else-is_open-clause-stops g c tells r file closing in_it gate = stops_none _ _ (closing_may c.args.table.now r file _ c.args.place closing)

pub returns-else-is_open-clause-ok : goal.returns-else-is_open-clause-ok
returns-else-is_open-clause-ok g c tells r file closing in_it gate =
    closing_skip c.args.table.now r file _ c.args.place c.requires.place closing (subst (λ b. IsGate b (r c.args.place)) c.if-is_open.false gate)

pub returns-else-is_open-clause-frame : goal.returns-else-is_open-clause-frame
returns-else-is_open-clause-frame g c tells = stops_none _ _ (λ d rest. framed_none _ _ d rest)

pub returns-else-is_open-clause-reads : goal.returns-else-is_open-clause-reads
returns-else-is_open-clause-reads g c tells = outside_none _ _
