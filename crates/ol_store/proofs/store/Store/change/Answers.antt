use Rattle.std.proofs.Common.{subst, sym}
use Rattle.ol_ports.specs.Disk.{Past}
use Rattle.ol_ports.specs.Frames.{FramedIn}
use Rattle.ol_ports.specs.Stops.{Stops}
use Rattle.ol_ports.proofs.FrameLaws.{framed_none}
use Rattle.ol_ports.proofs.StopLaws.{stops_none}
use Rattle.ol_store.specs.Holding.{HoldsPages, in_store}
use Rattle.ol_store.specs.Stores.{Store}
use Rattle.ol_store.proofs.HoldLaws.{stored_holds}
use Rattle.ol_store.proofs.LoadLaws.{page_of_place}
use Rattle.ol_store.proofs.RowSteps.{changed_flushed, image_captured, loaded_flushed}
use Rattle.ol_store.proofs.store.Store.change.Goals as goal

pub returns-in-Ok-clause-image : goal.returns-in-Ok-clause-image
returns-in-Ok-clause-image g c tells v h up capture =
    image_captured _ c.args.self.now c.load.new.self c.change_in_memory.new.self v c.args.rid.space c.args.rid.page c.change_in_memory.result c.in-Ok.ensures.loaded (c.in-Ok.ensures.stored tells v h up) up (page_of_place c.args.self.now.config c.args.rid c.requires.place) (c.change_in_memory.ensures.captured capture)

pub returns-in-Ok-clause-frame : goal.returns-in-Ok-clause-frame
returns-in-Ok-clause-frame g c tells =
    subst (λ (p : Past). Stops p (g.D.Disk.past c.change_in_memory.new.disk) (FramedIn p (in_store c.args.self.now.config))) (c.in-Ok.ensures.past tells)
    (subst (λ (t : Store). Stops (g.D.Disk.past c.load.new.disk) (g.D.Disk.past c.change_in_memory.new.disk) (FramedIn (g.D.Disk.past c.load.new.disk) (in_store t.config))) c.in-Ok.ensures.loaded.rest (c.change_in_memory.ensures.frame tells))

pub returns-in-Err-clause-stops : goal.returns-in-Err-clause-stops
returns-in-Err-clause-stops g c tells v h up =
    let is = c.in-Err.ensures.store in
    subst (λ (p : Past). Stops (g.D.Disk.past c.args.disk.now) p (HoldsPages c.args.self.now.config c.args.self.now.log.generation v)) (sym (c.in-Err.ensures.past tells))
    (stops_none _ _ (stored_holds c.args.self.now.config is.config c.args.self.now.pool c.args.self.now.log c.args.self.now.written v is.area _ h))

pub returns-in-Err-clause-frame : goal.returns-in-Err-clause-frame
returns-in-Err-clause-frame g c tells =
    subst (λ (p : Past). Stops (g.D.Disk.past c.args.disk.now) p (FramedIn (g.D.Disk.past c.args.disk.now) (in_store c.args.self.now.config))) (sym (c.in-Err.ensures.past tells)) (stops_none _ _ (framed_none _ _))

pub returns-in-Ok-clause-logged : goal.returns-in-Ok-clause-logged
returns-in-Ok-clause-logged g c v flushed =
    changed_flushed c.load.new.self c.change_in_memory.new.self v c.args.rid c.args.row c.args.stamp c.change_in_memory.result c.change_in_memory.ensures.changed (loaded_flushed c.args.self.now c.load.new.self v c.args.rid.space c.args.rid.page c.in-Ok.ensures.loaded flushed)
