use Rattle.ol_ports.proofs.FrameLaws.{framed_none, outside_both, outside_sync}
use Rattle.ol_ports.proofs.StopLaws.{stops_both, stops_framed, stops_none, stops_sync}
use Rattle.ol_physlog.proofs.AddLaws.{on_ok_if}
use Rattle.ol_physlog.proofs.SettleLaws.{opening_done, opening_start}
use Rattle.ol_physlog.proofs.StateLaws.{laid_holds}
use Rattle.ol_physlog.proofs.log.PhysLog.open_all.Goals as goal

pub returns-in-Err-clause-stops : goal.returns-in-Err-clause-stops
returns-in-Err-clause-stops g c tells config images laid = stops_sync _ _ _ _ c.sync.result _ (stops_none _ _ (laid_holds config _ c.args.self.now images laid)) (c.sync.ensures.past tells)

pub returns-in-Err-clause-frame : goal.returns-in-Err-clause-frame
returns-in-Err-clause-frame g c tells = stops_sync _ _ _ _ c.sync.result _ (stops_none _ _ (λ d rest. framed_none _ _ d rest)) (c.sync.ensures.past tells)

pub returns-in-Ok-open_gates-clause-stops : goal.returns-in-Ok-open_gates-clause-stops
returns-in-Ok-open_gates-clause-stops g c tells config images laid =
    let start = opening_start config c.args.self.now images _ _ c.sync.result (c.sync.ensures.past tells) (search) laid in
    stops_sync _ _ _ _ c.sync-in-Ok-open_gates.result _
    (stops_both _ _ _ _ (stops_sync _ _ _ _ c.sync.result _ (stops_none _ _ (laid_holds config _ c.args.self.now images laid)) (c.sync.ensures.past tells)) (c.open_gates.ensures.stops tells config images start))
    (c.sync-in-Ok-open_gates.ensures.past tells)

pub returns-in-Ok-open_gates-clause-ok : goal.returns-in-Ok-open_gates-clause-ok
returns-in-Ok-open_gates-clause-ok g c tells config images laid =
    let start = opening_start config c.args.self.now images _ _ c.sync.result (c.sync.ensures.past tells) (search) laid in
    on_ok_if c.sync-in-Ok-open_gates.result (λ good. opening_done config c.args.self.now images _ _ c.sync-in-Ok-open_gates.result (c.sync-in-Ok-open_gates.ensures.past tells) good (c.in-Ok-open_gates.ensures.ok tells config images start))

pub returns-in-Ok-open_gates-clause-frame : goal.returns-in-Ok-open_gates-clause-frame
returns-in-Ok-open_gates-clause-frame g c tells =
    stops_sync _ _ _ _ c.sync-in-Ok-open_gates.result _ (stops_framed _ _ _ _ (stops_sync _ _ _ _ c.sync.result _ (stops_none _ _ (λ d rest. framed_none _ _ d rest)) (c.sync.ensures.past tells)) (c.open_gates.ensures.frame tells)) (c.sync-in-Ok-open_gates.ensures.past tells)

pub returns-in-Err-open_gates-clause-stops : goal.returns-in-Err-open_gates-clause-stops
returns-in-Err-open_gates-clause-stops g c tells config images laid =
    let start = opening_start config c.args.self.now images _ _ c.sync.result (c.sync.ensures.past tells) (search) laid in
    stops_both _ _ _ _ (stops_sync _ _ _ _ c.sync.result _ (stops_none _ _ (laid_holds config _ c.args.self.now images laid)) (c.sync.ensures.past tells)) (c.open_gates.ensures.stops tells config images start)

pub returns-in-Err-open_gates-clause-frame : goal.returns-in-Err-open_gates-clause-frame
returns-in-Err-open_gates-clause-frame g c tells =
    stops_framed _ _ _ _ (stops_sync _ _ _ _ c.sync.result _ (stops_none _ _ (λ d rest. framed_none _ _ d rest)) (c.sync.ensures.past tells)) (c.open_gates.ensures.frame tells)

pub returns-in-Ok-open_gates-clause-reads : goal.returns-in-Ok-open_gates-clause-reads
returns-in-Ok-open_gates-clause-reads g c tells =
    on_ok_if c.sync-in-Ok-open_gates.result
    (λ good. outside_both _ _ _ _ (outside_both _ _ _ _ (outside_sync _ _ _ _ c.sync.result (c.sync.ensures.past tells) (search)) (c.in-Ok-open_gates.ensures.reads tells)) (outside_sync _ _ _ _ c.sync-in-Ok-open_gates.result (c.sync-in-Ok-open_gates.ensures.past tells) good))
