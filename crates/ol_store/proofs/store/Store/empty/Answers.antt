use Rattle.std.proofs.Common.{subst, sym, [], ◌≡◌}
use Rattle.ol_ports.specs.Frames.{FramedIn}
use Rattle.ol_ports.specs.Stops.{Stops}
use Rattle.ol_data_pages.specs.Overlays.{images_of}
use Rattle.ol_data_pages.specs.Places.{HasNoMark, HasSpaces}
use Rattle.ol_store.specs.Holding.{HoldsPages, IsOnDisk, in_store}
use Rattle.ol_store.specs.Pages.{checkpointed}
use Rattle.ol_store.specs.Stores.{Store}
use Rattle.ol_store.proofs.CheckpointSteps.{empty_stored, none_dirty}
use Rattle.ol_store.proofs.EntrySteps.{has_area, log_framed}
use Rattle.ol_store.proofs.WriteLaws.{empty_stops}
use Rattle.ol_store.proofs.store.Store.empty.Goals as goal

pub empty-requires-clause-area : goal.empty-requires-clause-area
empty-requires-clause-area g c = has_area _ c.self.invariant (g.D.Disk.sizes c.args.disk.now) (subst (λ (s : Store). HasSpaces s.config (g.D.Disk.sizes c.args.disk.now)) (sym c.self.view_is) c.requires.sizes)

pub returns-clause-stops : goal.returns-clause-stops
returns-clause-stops g c tells v h =
    let is = c.self.invariant in
    let inside = subst (λ (s : Store). IsOnDisk (g.D.Disk.past c.args.disk.now) s v) (sym c.self.view_is) h in
    let unmarked = subst (λ (s : Store). HasNoMark s.written) (sym c.self.view_is) c.requires.synced in
    subst (λ (s : Store). Stops (g.D.Disk.past c.args.disk.now) (g.D.Disk.past c.empty.new.disk) (HoldsPages s.config c.args.generation (checkpointed v))) c.self.view_is
    (empty_stops c.self.inside.table is.config c.self.inside.pool c.self.inside.log c.self.inside.written v is.area _ _ c.args.generation c.ranges.generation.fits inside
    (none_dirty c.self.inside.pool (subst (λ (s : Store). s.pool.dirty ≡ []) (sym c.self.view_is) c.requires.clean)) unmarked
    (c.empty.ensures.stops tells c.self.inside.table (images_of v.saved c.self.inside.log.places) inside.laid) (c.empty.ensures.frame tells))

pub returns-clause-stored : goal.returns-clause-stored
returns-clause-stored g c tells v h =
    let is = c.self.invariant in
    let inside = subst (λ (s : Store). IsOnDisk (g.D.Disk.past c.args.disk.now) s v) (sym c.self.view_is) h in
    let unmarked = subst (λ (s : Store). HasNoMark s.written) (sym c.self.view_is) c.requires.synced in
    empty_stored c.self.inside.table is.config c.self.inside.pool c.self.inside.log c.self.inside.written v is.area _ _ inside c.args.generation c.ranges.generation.fits
    (none_dirty c.self.inside.pool (subst (λ (s : Store). s.pool.dirty ≡ []) (sym c.self.view_is) c.requires.clean)) unmarked c.empty.new.self c.empty.result c.empty.ensures.value
    (c.empty.ensures.ok tells c.self.inside.table (images_of v.saved c.self.inside.log.places) inside.laid) (c.empty.ensures.frame tells).behind (c.empty.ensures.reads tells)

pub returns-clause-frame : goal.returns-clause-frame
returns-clause-frame g c tells =
    subst (λ (s : Store). Stops (g.D.Disk.past c.args.disk.now) (g.D.Disk.past c.empty.new.disk) (FramedIn (g.D.Disk.past c.args.disk.now) (in_store s.config))) c.self.view_is
    (log_framed _ c.self.invariant _ _ (c.empty.ensures.frame tells))
