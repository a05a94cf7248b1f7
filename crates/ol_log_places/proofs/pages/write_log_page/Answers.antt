use Rattle.std.proofs.Common.{arith}
use Rattle.std.proofs.lemmas.Result.{on_ok_weaker}
use Rattle.ol_ports.proofs.FrameLaws.{outside_both}
use Rattle.ol_ports.proofs.StopLaws.{stops_framed}
use Rattle.ol_log_places.proofs.WriteLaws.{body_stops, durable_outside, gate_open, gate_stops, torn_framed}
use Rattle.ol_log_places.proofs.pages.write_log_page.Goals as goal

pub returns-in-Ok-clause-stops : goal.returns-in-Ok-clause-stops
returns-in-Ok-clause-stops g c tells r placed shut is =
    gate_stops c.args.table.now c.args.place c.requires.place r shut c.args.page.now is _ _ placed _ c.split_at.ensures.back (omega (arith, c.split_at.ensures.back_len)) (c.in-Ok.ensures.stops tells) (c.in-Ok.ensures.ok tells) _ (c.write_part-in-Ok.ensures.stops tells)

pub returns-in-Ok-clause-ok : goal.returns-in-Ok-clause-ok
returns-in-Ok-clause-ok g c tells r placed shut is =
    gate_open c.args.table.now c.args.place c.requires.place r shut c.args.page.now is _ _ placed _ c.split_at.ensures.back (omega (arith, c.split_at.ensures.back_len)) (c.in-Ok.ensures.stops tells) (c.in-Ok.ensures.ok tells) _ c.write_part-in-Ok.result
    (c.write_part-in-Ok.ensures.stops tells) (c.write_part-in-Ok.ensures.ok tells)

pub returns-in-Ok-clause-frame : goal.returns-in-Ok-clause-frame
returns-in-Ok-clause-frame g c tells = stops_framed _ _ _ _ (torn_framed c.args.table.now c.args.place c.requires.place _ _ 1 _ (c.in-Ok.ensures.stops tells)) (torn_framed c.args.table.now c.args.place c.requires.place _ _ 0 1 (c.write_part-in-Ok.ensures.stops tells))

pub returns-in-Ok-clause-reads : goal.returns-in-Ok-clause-reads
returns-in-Ok-clause-reads g c tells =
    on_ok_weaker c.write_part-in-Ok.result
    (λ gate. outside_both _ _ _ _ (durable_outside c.args.table.now c.args.place c.requires.place _ _ 1 _ (c.in-Ok.ensures.ok tells)) (durable_outside c.args.table.now c.args.place c.requires.place _ _ 0 _ gate))
    (c.write_part-in-Ok.ensures.ok tells)

pub returns-in-Err-clause-stops : goal.returns-in-Err-clause-stops
returns-in-Err-clause-stops g c tells r placed shut is = body_stops c.args.table.now c.args.place c.requires.place r shut c.args.page.now is _ _ placed _ (c.in-Err.ensures.stops tells)

pub returns-in-Err-clause-frame : goal.returns-in-Err-clause-frame
returns-in-Err-clause-frame g c tells = torn_framed c.args.table.now c.args.place c.requires.place _ _ 1 _ (c.in-Err.ensures.stops tells)
