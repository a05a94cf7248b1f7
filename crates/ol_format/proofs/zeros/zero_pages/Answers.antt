use Rattle.ol_ports.proofs.StopLaws.{stops_sync}
use Rattle.ol_format.proofs.Clearing.{settled_synced, zeroed_synced}
use Rattle.ol_format.proofs.zeros.zero_pages.Goals as goal

pub returns-in-Ok-clause-ok : goal.returns-in-Ok-clause-ok
returns-in-Ok-clause-ok g c tells = zeroed_synced _ _ c.args.chunk c.args.from c.args.end c.sync.result (c.sync.ensures.past tells) (c.in-Ok.ensures.ok tells)

pub returns-in-Ok-clause-settled : goal.returns-in-Ok-clause-settled
returns-in-Ok-clause-settled g c tells = settled_synced _ _ c.args.chunk c.sync.result (c.sync.ensures.past tells)

pub returns-in-Ok-clause-stops : goal.returns-in-Ok-clause-stops
returns-in-Ok-clause-stops g c tells = stops_sync _ _ _ c.args.chunk c.sync.result _ (c.in-Ok.ensures.stops tells) (c.sync.ensures.past tells)
