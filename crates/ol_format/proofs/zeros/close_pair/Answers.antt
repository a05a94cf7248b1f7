use Rattle.ol_ports.proofs.StopLaws.{stops_sync}
use Rattle.ol_format.proofs.Clearing.{blank_synced}
use Rattle.ol_format.proofs.zeros.close_pair.Goals as goal

pub returns-in-Ok-clause-ok : goal.returns-in-Ok-clause-ok
returns-in-Ok-clause-ok g c tells = blank_synced _ _ c.sync.result (c.sync.ensures.past tells) (c.in-Ok.ensures.ok tells)

pub returns-in-Ok-clause-stops : goal.returns-in-Ok-clause-stops
returns-in-Ok-clause-stops g c tells = stops_sync _ _ _ 0 c.sync.result _ (c.in-Ok.ensures.stops tells) (c.sync.ensures.past tells)
