use Rattle.std.proofs.Common.{subst, sym}
use Rattle.ol_ports.specs.Frames.{FramedIn}
use Rattle.ol_ports.specs.Stops.{Stops}
use Rattle.ol_ports.proofs.FrameLaws.{framed_none}
use Rattle.ol_ports.proofs.StopLaws.{stops_both, stops_framed, stops_none}
use Rattle.ol_store.specs.Holding.{CleanAreFlushed, HoldsPages, in_store}
use Rattle.ol_store.specs.Stores.{Store}
use Rattle.ol_store.proofs.HoldLaws.{stored_holds}
use Rattle.ol_store.proofs.LoopSteps.{settled_now}
use Rattle.ol_store.proofs.store.Store.clean_one.Goals as goal

pub returns-in_default-clause-stops : goal.returns-in_default-clause-stops
returns-in_default-clause-stops g c tells v h =
    let is = c.oldest_dirty.ensures.store in
    stops_none _ _ (stored_holds c.args.self.now.config is.config c.args.self.now.pool c.args.self.now.log c.args.self.now.written v is.area _ h)

pub returns-in_default-clause-frame : goal.returns-in_default-clause-frame
returns-in_default-clause-frame g c tells = stops_none _ _ (framed_none _ _)

pub returns-in-Ok-write_dirty-clause-stops : goal.returns-in-Ok-write_dirty-clause-stops
returns-in-Ok-write_dirty-clause-stops g c tells v h =
    stops_both _ _ _ _ (c.settle.ensures.stops tells v h)
    (subst (λ (s : Store). Stops (g.D.Disk.past c.settle.new.disk) (g.D.Disk.past c.write_dirty.new.disk) (HoldsPages s.config s.log.generation v)) c.in-Ok.ensures.value
    (c.write_dirty.ensures.stops tells v (c.in-Ok.ensures.stored tells v h) (settled_now c.args.self.now c.settle.new.self c.in-Ok.ensures.value)))

pub returns-in-Ok-write_dirty-clause-logged : goal.returns-in-Ok-write_dirty-clause-logged
returns-in-Ok-write_dirty-clause-logged g c tells v h flushed =
    c.in-Ok-write_dirty.ensures.logged tells v (c.in-Ok.ensures.stored tells v h) (subst (λ (s : Store). CleanAreFlushed s v) (sym c.in-Ok.ensures.value) flushed)

pub returns-in-Ok-write_dirty-clause-frame : goal.returns-in-Ok-write_dirty-clause-frame
returns-in-Ok-write_dirty-clause-frame g c tells =
    stops_framed _ _ _ _ (c.settle.ensures.frame tells)
    (subst (λ (s : Store). Stops (g.D.Disk.past c.settle.new.disk) (g.D.Disk.past c.write_dirty.new.disk) (FramedIn (g.D.Disk.past c.settle.new.disk) (in_store s.config))) c.in-Ok.ensures.value (c.write_dirty.ensures.frame tells))

pub returns-in-Err-write_dirty-clause-stops : goal.returns-in-Err-write_dirty-clause-stops
returns-in-Err-write_dirty-clause-stops g c tells v h =
    stops_both _ _ _ _ (c.settle.ensures.stops tells v h)
    (subst (λ (s : Store). Stops (g.D.Disk.past c.settle.new.disk) (g.D.Disk.past c.write_dirty.new.disk) (HoldsPages s.config s.log.generation v)) c.in-Ok.ensures.value
    (c.write_dirty.ensures.stops tells v (c.in-Ok.ensures.stored tells v h) (settled_now c.args.self.now c.settle.new.self c.in-Ok.ensures.value)))

pub returns-in-Err-write_dirty-clause-frame : goal.returns-in-Err-write_dirty-clause-frame
returns-in-Err-write_dirty-clause-frame g c tells =
    stops_framed _ _ _ _ (c.settle.ensures.frame tells)
    (subst (λ (s : Store). Stops (g.D.Disk.past c.settle.new.disk) (g.D.Disk.past c.write_dirty.new.disk) (FramedIn (g.D.Disk.past c.settle.new.disk) (in_store s.config))) c.in-Ok.ensures.value (c.write_dirty.ensures.frame tells))
