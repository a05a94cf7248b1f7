use Rattle.std.proofs.Common.{subst}
use Rattle.ol_ports.proofs.FrameLaws.{framed_none, outside_none}
use Rattle.ol_ports.proofs.StopLaws.{stops_none, stops_weaker}
use Rattle.ol_reserve.specs.Pair.{HasTarget, is_pair, target}
use Rattle.ol_reserve.proofs.Gates.{closed, closing, framed_torn, newest_of, outside_pair}
use Rattle.ol_reserve.proofs.Results.{on_ok}
use Rattle.ol_reserve.proofs.pair.close.Goals as goal

pub returns-then-target-clause-stops : goal.returns-then-target-clause-stops
returns-then-target-clause-stops g c tells now ready =
    let before = subst (λ b. HasTarget (g.D.Disk.past c.args.disk.now) now (target c.args.target.page b)) c.if-target.true ready in
    stops_weaker _ _ _ _ (λ d from. closing _ now c.args.target.page d before from) (c.write_synced.ensures.stops tells)

pub returns-then-target-clause-ok : goal.returns-then-target-clause-ok
returns-then-target-clause-ok g c tells now ready =
    let before = subst (λ b. HasTarget (g.D.Disk.past c.args.disk.now) now (target c.args.target.page b)) c.if-target.true ready in
    on_ok c.write_synced.result (λ durable. closed _ _ now c.args.target.page before (c.write_synced.ensures.stops tells).behind durable) (c.write_synced.ensures.ok tells)

pub returns-then-target-clause-frame : goal.returns-then-target-clause-frame
returns-then-target-clause-frame g c tells = stops_weaker _ _ _ _ (λ d from. framed_torn _ c.args.target.page 0 1 d c.requires.pair from) (c.write_synced.ensures.stops tells)

pub returns-else-target-clause-stops : goal.returns-else-target-clause-stops
returns-else-target-clause-stops g c tells now ready = stops_none _ _ (λ d rest. newest_of d now c.args.target (ready.each d rest))

pub returns-else-target-clause-ok : goal.returns-else-target-clause-ok
returns-else-target-clause-ok g c tells now ready =
    subst (λ b. HasTarget (g.D.Disk.past c.args.disk.now) now (target c.args.target.page b)) c.if-target.false ready

pub returns-else-target-clause-frame : goal.returns-else-target-clause-frame
returns-else-target-clause-frame g c tells = stops_none _ _ (λ d rest. framed_none _ (λ c p i. is_pair c p) d rest)

pub returns-then-target-clause-reads : goal.returns-then-target-clause-reads
returns-then-target-clause-reads g c tells = on_ok c.write_synced.result (λ durable. outside_pair _ _ c.args.target.page 0 _ c.requires.pair durable) (c.write_synced.ensures.ok tells)

pub returns-else-target-clause-reads : goal.returns-else-target-clause-reads
returns-else-target-clause-reads g c tells = outside_none _ _
