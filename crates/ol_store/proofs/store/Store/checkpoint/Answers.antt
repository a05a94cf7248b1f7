use Rattle.std.proofs.Common.{subst, sym}
use Rattle.ol_ports.specs.Frames.{FramedIn}
use Rattle.ol_ports.specs.Stops.{Stops}
use Rattle.ol_ports.proofs.StopLaws.{stops_both, stops_framed}
use Rattle.ol_store.specs.Holding.{HoldsPages, in_store}
use Rattle.ol_store.specs.Stores.{AreFlushed, Store}
use Rattle.ol_store.proofs.LoopSteps.{settled_now}
use Rattle.ol_store.proofs.store.Store.checkpoint.Goals as goal

pub write_all_dirty-requires-clause-flushed : goal.write_all_dirty-requires-clause-flushed
write_all_dirty-requires-clause-flushed g c = subst AreFlushed (sym c.in-Ok.ensures.value) c.requires.flushed

pub returns-in-Ok-write_all_dirty-clause-stops : goal.returns-in-Ok-write_all_dirty-clause-stops
returns-in-Ok-write_all_dirty-clause-stops g c tells v h =
    let held = c.in-Ok.ensures.stored tells v h in
    let all = settled_now c.args.self.now c.settle.new.self c.in-Ok.ensures.value in
    stops_both _ _ _ _
    (stops_both _ _ _ _ (c.settle.ensures.stops tells v h)
    (subst (λ (s : Store). Stops (g.D.Disk.past c.settle.new.disk) (g.D.Disk.past c.write_all_dirty.new.disk) (HoldsPages s.config s.log.generation v)) c.in-Ok.ensures.value (c.write_all_dirty.ensures.stops tells v held all)))
    (subst (λ (s : Store). Stops (g.D.Disk.past c.write_all_dirty.new.disk) (g.D.Disk.past c.sync_written.new.disk) (HoldsPages s.config s.log.generation v)) c.in-Ok.ensures.value
    (subst (λ (s : Store). Stops (g.D.Disk.past c.write_all_dirty.new.disk) (g.D.Disk.past c.sync_written.new.disk) (HoldsPages s.config s.log.generation v)) c.in-Ok-write_all_dirty.ensures.value
    (c.sync_written.ensures.stops tells v (c.in-Ok-write_all_dirty.ensures.stored tells v held all))))

pub returns-in-Ok-write_all_dirty-clause-frame : goal.returns-in-Ok-write_all_dirty-clause-frame
returns-in-Ok-write_all_dirty-clause-frame g c tells =
    stops_framed _ _ _ _
    (stops_framed _ _ _ _ (c.settle.ensures.frame tells)
    (subst (λ (s : Store). Stops (g.D.Disk.past c.settle.new.disk) (g.D.Disk.past c.write_all_dirty.new.disk) (FramedIn (g.D.Disk.past c.settle.new.disk) (in_store s.config))) c.in-Ok.ensures.value (c.write_all_dirty.ensures.frame tells)))
    (subst (λ (s : Store). Stops (g.D.Disk.past c.write_all_dirty.new.disk) (g.D.Disk.past c.sync_written.new.disk) (FramedIn (g.D.Disk.past c.write_all_dirty.new.disk) (in_store s.config))) c.in-Ok.ensures.value
    (subst (λ (s : Store). Stops (g.D.Disk.past c.write_all_dirty.new.disk) (g.D.Disk.past c.sync_written.new.disk) (FramedIn (g.D.Disk.past c.write_all_dirty.new.disk) (in_store s.config))) c.in-Ok-write_all_dirty.ensures.value (c.sync_written.ensures.frame tells)))

pub returns-in-Err-write_all_dirty-clause-stops : goal.returns-in-Err-write_all_dirty-clause-stops
returns-in-Err-write_all_dirty-clause-stops g c tells v h =
    stops_both _ _ _ _ (c.settle.ensures.stops tells v h)
    (subst (λ (s : Store). Stops (g.D.Disk.past c.settle.new.disk) (g.D.Disk.past c.write_all_dirty.new.disk) (HoldsPages s.config s.log.generation v)) c.in-Ok.ensures.value
    (c.write_all_dirty.ensures.stops tells v (c.in-Ok.ensures.stored tells v h) (settled_now c.args.self.now c.settle.new.self c.in-Ok.ensures.value)))

pub returns-in-Err-write_all_dirty-clause-frame : goal.returns-in-Err-write_all_dirty-clause-frame
returns-in-Err-write_all_dirty-clause-frame g c tells =
    stops_framed _ _ _ _ (c.settle.ensures.frame tells)
    (subst (λ (s : Store). Stops (g.D.Disk.past c.settle.new.disk) (g.D.Disk.past c.write_all_dirty.new.disk) (FramedIn (g.D.Disk.past c.settle.new.disk) (in_store s.config))) c.in-Ok.ensures.value (c.write_all_dirty.ensures.frame tells))
