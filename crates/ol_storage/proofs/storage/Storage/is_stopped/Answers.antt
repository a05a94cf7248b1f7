use Rattle.std.specs.Bool.{OnFalse}
use Rattle.std.proofs.Common.{subst}
use Rattle.ol_loglog.specs.RingValue.{IsLogRing}
use Rattle.ol_ports.specs.Disk.{Bytes, Rest}
use Rattle.ol_storage.specs.Behind.{Behind}
use Rattle.ol_storage.specs.Installation.{Held, Installation, IsGoing, config_of, flushed_of}
use Rattle.ol_storage.specs.Standing.{StandsFrom}
use Rattle.ol_storage.specs.Storing.{IsStored}
use Rattle.ol_storage.proofs.Images.{Known}
use Rattle.ol_storage.proofs.Quiet.{stored_stands}
use Rattle.ol_storage.proofs.storage.Storage.is_stopped.Goals as goal

pub returns-clause-stands : goal.returns-clause-stands
returns-clause-stands g c =
    let v : Installation = record { ring = c.self.inside.ring; store = c.self.inside.store; anchor = c.self.inside.anchor; reached = c.self.inside.reached; stopped = c.self.inside.stopped } in
    subst (λ (h : Held _). g.D.Disk.tells → (b : Behind) → IsStored (g.D.Disk.past h.disk) h.now b → (d : Bytes) → Rest (g.D.Disk.past h.disk) d → StandsFrom (config_of h.now) b h.now.anchor (flushed_of h.now) (flushed_of h.now) d) c.self.view_is
    (λ tells b is d rest. stored_stands (g.D.Disk.past c.self.inside.disk) v b (record { going = c.self.invariant.going is.going; ring = c.reusable.ensures.limits; area = c.spare.ensures.store.area }) is d rest)

pub returns-clause-ring : goal.returns-clause-ring
returns-clause-ring g c = subst (λ (h : Held _). IsLogRing h.now.ring) c.self.view_is c.reusable.ensures.limits
