use Rattle.std.proofs.Common.{subst, sym}
use Rattle.ol_ports.specs.Frames.{FramedIn}
use Rattle.ol_ports.specs.Stops.{Stops}
use Rattle.ol_data_pages.specs.Overlays.{images_of}
use Rattle.ol_data_pages.specs.Places.{HasSpaceCause, HasSpaces}
use Rattle.ol_store.specs.Holding.{HoldsPages, IsOnDisk, in_store}
use Rattle.ol_store.specs.Stores.{Store}
use Rattle.ol_store.proofs.CheckpointSteps.{settle_stored}
use Rattle.ol_store.proofs.EntrySteps.{has_area, log_cause, log_framed}
use Rattle.ol_store.proofs.HoldLaws.{log_stops}
use Rattle.ol_store.proofs.store.Store.settle.Goals as goal

pub settle-requires : goal.settle-requires
settle-requires g c = record { area = has_area _ c.self.invariant (g.D.Disk.sizes c.args.disk.now) (subst (λ (s : Store). HasSpaces s.config (g.D.Disk.sizes c.args.disk.now)) (sym c.self.view_is) c.requires.sizes) }

pub returns-clause-stops : goal.returns-clause-stops
returns-clause-stops g c tells v h =
    let is = c.self.invariant in
    let inside = subst (λ (s : Store). IsOnDisk (g.D.Disk.past c.args.disk.now) s v) (sym c.self.view_is) h in
    subst (λ (s : Store). Stops (g.D.Disk.past c.args.disk.now) (g.D.Disk.past c.settle.new.disk) (HoldsPages s.config s.log.generation v)) c.self.view_is
    (log_stops c.self.inside.table is.config c.self.inside.pool c.self.inside.log c.self.inside.written v is.area _ _ inside
    (c.settle.ensures.stops tells c.self.inside.table (images_of v.saved c.self.inside.log.places) inside.laid) (c.settle.ensures.frame tells))

pub returns-clause-stored : goal.returns-clause-stored
returns-clause-stored g c tells v h =
    let is = c.self.invariant in
    let inside = subst (λ (s : Store). IsOnDisk (g.D.Disk.past c.args.disk.now) s v) (sym c.self.view_is) h in
    settle_stored c.self.inside.table is.config c.self.inside.pool c.self.inside.log c.self.inside.written v is.area _ _ inside c.settle.new.self c.settle.result c.settle.ensures.value
    (c.settle.ensures.ok tells c.self.inside.table (images_of v.saved c.self.inside.log.places) inside.laid) (c.settle.ensures.frame tells).behind (c.settle.ensures.reads tells)

pub returns-clause-frame : goal.returns-clause-frame
returns-clause-frame g c tells =
    subst (λ (s : Store). Stops (g.D.Disk.past c.args.disk.now) (g.D.Disk.past c.settle.new.disk) (FramedIn (g.D.Disk.past c.args.disk.now) (in_store s.config))) c.self.view_is
    (log_framed _ c.self.invariant _ _ (c.settle.ensures.frame tells))

pub returns-clause-cause : goal.returns-clause-cause
returns-clause-cause g c =
    subst (λ (s : Store). HasSpaceCause s.config (g.D.Disk.fault_counts c.args.disk.now) (g.D.Disk.fault_counts c.settle.new.disk) c.settle.result) c.self.view_is
    (log_cause _ c.self.invariant _ _ c.settle.result c.settle.ensures.cause)
