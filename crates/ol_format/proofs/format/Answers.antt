use Rattle.std.proofs.Common.{inl, refl}
use Rattle.ol_ports.proofs.FrameLaws.{framed_none}
use Rattle.ol_ports.proofs.StopLaws.{stops_none}
use Rattle.ol_format.specs.Formatted.{is_gate}
use Rattle.ol_format.proofs.Clearing.{pages_none}
use Rattle.ol_format.proofs.format.Goals as goal

pub returns-in-Some-clause-stops : goal.returns-in-Some-clause-stops
returns-in-Some-clause-stops g c tells = stops_none _ _ (λ d rest. inl (framed_none _ is_gate d rest))

pub returns-in-Some-clause-frame : goal.returns-in-Some-clause-frame
returns-in-Some-clause-frame g c tells = pages_none _ _

pub returns-in-Some-clause-large : goal.returns-in-Some-clause-large
returns-in-Some-clause-large g c other = absurd (other c.in-Some.chunk refl)
