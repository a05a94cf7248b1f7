use Rattle.ol_ports.proofs.StopLaws.{stops_weaker}
use Rattle.ol_reserve.proofs.Gates.{framed_torn, opened, opening, outside_pair}
use Rattle.ol_reserve.proofs.Results.{on_ok}
use Rattle.ol_reserve.proofs.pair.open.Goals as goal

pub returns-clause-stops : goal.returns-clause-stops
returns-clause-stops g c tells now a stage is above =
    stops_weaker _ _ _ _ (λ d from. opening _ now c.args.page a d is above stage from) (c.write_synced.ensures.stops tells)

pub returns-clause-ok : goal.returns-clause-ok
returns-clause-ok g c tells now a stage is above =
    on_ok c.write_synced.result (λ durable. opened _ _ now c.args.page a is above stage (c.write_synced.ensures.stops tells).behind durable) (c.write_synced.ensures.ok tells)

pub returns-clause-frame : goal.returns-clause-frame
returns-clause-frame g c tells = stops_weaker _ _ _ _ (λ d from. framed_torn _ c.args.page 0 1 d c.requires.pair from) (c.write_synced.ensures.stops tells)

pub returns-clause-reads : goal.returns-clause-reads
returns-clause-reads g c tells = on_ok c.write_synced.result (λ durable. outside_pair _ _ c.args.page 0 _ c.requires.pair durable) (c.write_synced.ensures.ok tells)
