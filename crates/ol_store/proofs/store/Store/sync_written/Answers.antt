use Rattle.std.proofs.Common.{subst, sym}
use Rattle.ol_ports.specs.Stops.{Stops}
use Rattle.ol_store.specs.Holding.{HoldsPages, IsOnDisk}
use Rattle.ol_store.specs.Stores.{Store}
use Rattle.ol_store.proofs.CheckpointSteps.{marks_kept, sync_stops, sync_stored}
use Rattle.ol_store.proofs.store.Store.sync_written.Goals as goal

pub invariant_of-self : goal.invariant_of-self
invariant_of-self g c = marks_kept _ c.self.invariant c.sync_chunks.new.written c.sync_chunks.result c.sync_chunks.ensures.marks c.sync_chunks.ensures.kept

pub returns-clause-stops : goal.returns-clause-stops
returns-clause-stops g c tells v h =
    let is = c.self.invariant in
    let inside = subst (λ (s : Store). IsOnDisk (g.D.Disk.past c.args.disk.now) s v) (sym c.self.view_is) h in
    subst (λ (s : Store). Stops (g.D.Disk.past c.args.disk.now) (g.D.Disk.past c.sync_chunks.new.disk) (HoldsPages s.config s.log.generation v)) c.self.view_is
    (sync_stops c.self.inside.table is.config c.self.inside.pool c.self.inside.log c.self.inside.written v is.area _ _ inside (c.sync_chunks.ensures.stops tells))

pub returns-clause-stored : goal.returns-clause-stored
returns-clause-stored g c tells v h =
    let is = c.self.invariant in
    let inside = subst (λ (s : Store). IsOnDisk (g.D.Disk.past c.args.disk.now) s v) (sym c.self.view_is) h in
    sync_stored c.self.inside.table is.config c.self.inside.pool c.self.inside.log c.self.inside.written v is.area _ _ inside c.sync_chunks.new.written c.sync_chunks.result (c.sync_chunks.ensures.ok tells) (c.sync_chunks.ensures.stops tells).behind
