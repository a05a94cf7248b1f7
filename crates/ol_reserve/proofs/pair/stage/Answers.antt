use Rattle.ol_ports.proofs.StopLaws.{stops_both, stops_framed}
use Rattle.ol_ports.proofs.FrameLaws.{outside_both}
use Rattle.ol_reserve.proofs.Results.{on_ok}
use Rattle.ol_reserve.proofs.pair.stage.Goals as goal

pub returns-in-Ok-clause-stops : goal.returns-in-Ok-clause-stops
returns-in-Ok-clause-stops g c tells now ready = stops_both _ _ _ _ (c.close.ensures.stops tells now ready) (c.write_body.ensures.stops tells now (c.in-Ok.ensures.ok tells now ready))

pub returns-in-Ok-clause-frame : goal.returns-in-Ok-clause-frame
returns-in-Ok-clause-frame g c tells = stops_framed _ _ _ _ (c.in-Ok.ensures.frame tells) (c.write_body.ensures.frame tells)

pub returns-in-Ok-clause-reads : goal.returns-in-Ok-clause-reads
returns-in-Ok-clause-reads g c tells = on_ok c.write_body.result (λ reads. outside_both _ _ _ _ (c.in-Ok.ensures.reads tells) reads) (c.write_body.ensures.reads tells)
