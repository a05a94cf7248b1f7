use Rattle.ol_log_places.proofs.PlaceLaws.{closed_gate, gate_closed}
use Rattle.ol_log_places.proofs.WriteLaws.{others_shown, settled_placed}
use Rattle.ol_log_places.proofs.laws.places_are_of_the_log_alone.Goals as goal

pub returns-clause-gate : goal.returns-clause-gate
returns-clause-gate a c d place = (λ is. closed_gate c d place is, λ shut. gate_closed c d place shut)

pub returns-clause-others : goal.returns-clause-others
returns-clause-others a past c r is_part d apart placed framed = others_shown past c r is_part d apart placed framed

pub returns-clause-settled : goal.returns-clause-settled
returns-clause-settled a past c settled = settled_placed past c settled
