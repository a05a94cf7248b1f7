use Rattle.std.proofs.Common.{arith, refl}
use Rattle.ol_format.proofs.Clearing.{gates_none, shut_both, stops_gate}
use Rattle.ol_format.proofs.zeros.shut_pair.Goals as goal

pub returns-in-Ok-clause-ok : goal.returns-in-Ok-clause-ok
returns-in-Ok-clause-ok g c tells = shut_both _ _ _ _ c.write_at-in-Ok.result (c.in-Ok.ensures.past tells) refl (c.write_at-in-Ok.ensures.past tells)

pub returns-in-Ok-clause-stops : goal.returns-in-Ok-clause-stops
returns-in-Ok-clause-stops g c tells =
    stops_gate _ _ _ 1 c.write_at-in-Ok.result (omega arith) (stops_gate _ _ _ 0 c.write_at.result (omega arith) (gates_none _) (c.write_at.ensures.past tells)) (c.write_at-in-Ok.ensures.past tells)

pub returns-in-Err-clause-stops : goal.returns-in-Err-clause-stops
returns-in-Err-clause-stops g c tells = stops_gate _ _ _ 0 c.write_at.result (omega arith) (gates_none _) (c.write_at.ensures.past tells)
