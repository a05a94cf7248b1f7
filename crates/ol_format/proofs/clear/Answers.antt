use Rattle.std.proofs.Common.{inl, inr}
use Rattle.ol_ports.proofs.StopLaws.{stops_both, stops_framed, stops_weaker}
use Rattle.ol_format.proofs.Formatting.{failed_from}
use Rattle.ol_format.proofs.Spaces.{spaces_of_gates}
use Rattle.ol_format.proofs.clear.Goals as goal

pub returns-in-Ok-clause-stops : goal.returns-in-Ok-clause-stops
returns-in-Ok-clause-stops g c tells =
    stops_both _ _ _ _ (stops_weaker _ _ _ _ (λ d gates. inl gates) (c.in-Ok.ensures.stops tells)) (stops_weaker _ _ _ _ (λ d none. inr none) (c.zero_chunks.ensures.stops tells (c.in-Ok.ensures.ok tells)))

pub returns-in-Err-clause-stops : goal.returns-in-Err-clause-stops
returns-in-Err-clause-stops g c tells = stops_weaker _ _ _ _ (λ d gates. inl gates) (c.in-Err.ensures.stops tells)

pub returns-in-Ok-clause-frame : goal.returns-in-Ok-clause-frame
returns-in-Ok-clause-frame g c tells =
    stops_framed _ _ _ _ (spaces_of_gates _ _ c.args.table.now c.requires.config (c.in-Ok.ensures.stops tells)) (c.zero_chunks.ensures.frame tells)

pub returns-in-Err-clause-frame : goal.returns-in-Err-clause-frame
returns-in-Err-clause-frame g c tells = spaces_of_gates _ _ c.args.table.now c.requires.config (c.in-Err.ensures.stops tells)

pub returns-in-Err-clause-cause : goal.returns-in-Err-clause-cause
returns-in-Err-clause-cause g c = failed_from _ _ 0 c.in-Err.field-0 c.in-Err.ensures.cause
