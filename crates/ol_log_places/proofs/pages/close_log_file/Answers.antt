use Rattle.ol_ports.proofs.FrameLaws.{framed_none, outside_both, outside_none, outside_sync}
use Rattle.ol_ports.proofs.StopLaws.{stops_none, stops_sync}
use Rattle.ol_log_places.proofs.WriteLaws.{closed_already, closed_synced, on_ok_if, placed_may}
use Rattle.ol_log_places.proofs.pages.close_log_file.Goals as goal

pub returns-then-not-has_open-clause-stops : goal.returns-then-not-has_open-clause-stops
returns-then-not-has_open-clause-stops g c tells r placed gates = stops_none _ _ (placed_may c.args.table.now r c.args.file _ placed)

pub returns-then-not-has_open-clause-ok : goal.returns-then-not-has_open-clause-ok
returns-then-not-has_open-clause-ok g c tells r placed gates = closed_already c.args.table.now r c.args.file _ c.args.gates.now c.requires.gates placed gates c.if-not-has_open.ensures

pub returns-then-not-has_open-clause-frame : goal.returns-then-not-has_open-clause-frame
returns-then-not-has_open-clause-frame g c tells = stops_none _ _ (λ d rest. framed_none _ _ d rest)

pub returns-then-not-has_open-clause-reads : goal.returns-then-not-has_open-clause-reads
returns-then-not-has_open-clause-reads g c tells = outside_none _ _

pub returns-in-Ok-clause-stops : goal.returns-in-Ok-clause-stops
returns-in-Ok-clause-stops g c tells r placed gates = stops_sync _ _ _ _ c.sync_log.result _ (c.in-Ok.ensures.stops tells r placed gates) (c.sync_log.ensures.past tells)

pub returns-in-Ok-clause-ok : goal.returns-in-Ok-clause-ok
returns-in-Ok-clause-ok g c tells r placed gates =
    closed_synced c.args.table.now r c.args.file _ _ c.sync_log.result (c.in-Ok.ensures.ok tells r placed gates) (c.sync_log.ensures.past tells)

pub returns-in-Ok-clause-frame : goal.returns-in-Ok-clause-frame
returns-in-Ok-clause-frame g c tells = stops_sync _ _ _ _ c.sync_log.result _ (c.in-Ok.ensures.frame tells) (c.sync_log.ensures.past tells)

pub returns-in-Ok-clause-reads : goal.returns-in-Ok-clause-reads
returns-in-Ok-clause-reads g c tells = on_ok_if c.sync_log.result (λ good. outside_both _ _ _ _ (c.in-Ok.ensures.reads tells) (outside_sync _ _ _ _ c.sync_log.result (c.sync_log.ensures.past tells) good))
