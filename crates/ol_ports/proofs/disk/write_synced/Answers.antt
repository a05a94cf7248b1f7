use Rattle.std.proofs.Common.{refl}
use Rattle.ol_ports.proofs.DiskSteps.{durable}
use Rattle.ol_ports.proofs.StopLaws.{stops_sync, stops_write}
use Rattle.ol_ports.proofs.disk.write_synced.Goals as goal

pub returns-in_err-write_at-clause-stops : goal.returns-in_err-write_at-clause-stops
returns-in_err-write_at-clause-stops g c tells =
    stops_write _ _ _ _ _ _ _ (c.write_at.ensures.past tells)

pub returns-clause-stops : goal.returns-clause-stops
returns-clause-stops g c tells =
    stops_sync _ _ _ _ _ _ (stops_write _ _ _ _ _ _ _ (c.write_at.ensures.past tells)) (c.sync.ensures.past tells)

pub returns-clause-ok : goal.returns-clause-ok
returns-clause-ok g c tells =
    durable _ _ _ _ _ _ _ _ _ (c.in_ok-write_at.ensures.past tells) (c.sync.ensures.past tells) refl
