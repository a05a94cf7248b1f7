use Rattle.std.proofs.Common.{inl, subst}
use Rattle.ol_ports.proofs.StopLaws.{stops_both, stops_framed, stops_weaker}
use Rattle.ol_reserve.specs.Pair.{IsStaged}
use Rattle.ol_ports.proofs.FrameLaws.{outside_both}
use Rattle.ol_reserve.proofs.Results.{on_ok}
use Rattle.ol_reserve.proofs.pair.put.Goals as goal

pub returns-in-Ok-clause-stops : goal.returns-in-Ok-clause-stops
returns-in-Ok-clause-stops g c tells now a ready body is above =
    let stage = subst (λ b. IsStaged (g.D.Disk.past c.stage.new.disk) now c.args.target.page b) body (c.in-Ok.ensures.ok tells now ready) in
    stops_both _ _ _ _ (stops_weaker _ _ _ _ (λ d newest. inl newest) (c.stage.ensures.stops tells now ready)) (c.open.ensures.stops tells now a stage is above)

pub returns-in-Err-clause-stops : goal.returns-in-Err-clause-stops
returns-in-Err-clause-stops g c tells now a ready body is above = stops_weaker _ _ _ _ (λ d newest. inl newest) (c.in-Err.ensures.stops tells now ready)

pub returns-in-Ok-clause-frame : goal.returns-in-Ok-clause-frame
returns-in-Ok-clause-frame g c tells = stops_framed _ _ _ _ (c.in-Ok.ensures.frame tells) (c.open.ensures.frame tells)

pub returns-in-Ok-clause-reads : goal.returns-in-Ok-clause-reads
returns-in-Ok-clause-reads g c tells = on_ok c.open.result (λ reads. outside_both _ _ _ _ (c.in-Ok.ensures.reads tells) reads) (c.open.ensures.reads tells)
