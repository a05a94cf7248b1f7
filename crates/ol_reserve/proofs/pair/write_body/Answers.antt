use Rattle.ol_ports.proofs.StopLaws.{stops_weaker}
use Rattle.ol_reserve.specs.Pair.{shut_target}
use Rattle.ol_reserve.proofs.Gates.{framed_torn, newest_of, outside_pair, staged, staging}
use Rattle.ol_reserve.proofs.Results.{on_ok}
use Rattle.ol_reserve.proofs.pair.write_body.Goals as goal

pub returns-clause-stops : goal.returns-clause-stops
returns-clause-stops g c tells now ready =
    stops_weaker _ _ _ _ (λ d from. newest_of d now (shut_target c.args.page) (staging _ now c.args.page _ d ready from)) (c.write_synced.ensures.stops tells)

pub returns-clause-ok : goal.returns-clause-ok
returns-clause-ok g c tells now ready =
    on_ok c.write_synced.result (λ durable. staged _ _ now c.args.page c.args.body.now c.requires.body ready (c.write_synced.ensures.stops tells).behind durable) (c.write_synced.ensures.ok tells)

pub returns-clause-frame : goal.returns-clause-frame
returns-clause-frame g c tells = stops_weaker _ _ _ _ (λ d from. framed_torn _ c.args.page 1 _ d c.requires.pair from) (c.write_synced.ensures.stops tells)

pub returns-clause-reads : goal.returns-clause-reads
returns-clause-reads g c tells = on_ok c.write_synced.result (λ durable. outside_pair _ _ c.args.page 1 _ c.requires.pair durable) (c.write_synced.ensures.ok tells)
