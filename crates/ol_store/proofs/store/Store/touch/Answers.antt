use Rattle.std.proofs.Common.{sym, ◌∙◌}
use Rattle.ol_data_pages.specs.Overlays.{images_of}
use Rattle.ol_ports.proofs.FrameLaws.{framed_none}
use Rattle.ol_ports.proofs.StopLaws.{stops_none}
use Rattle.ol_store.proofs.EntrySteps.{entry_stored, log_cause, log_framed, log_reads}
use Rattle.ol_store.proofs.HoldLaws.{log_stops, stored_holds}
use Rattle.ol_store.proofs.store.Store.touch.Goals as goal

pub returns-then-touched-clause-stops : goal.returns-then-touched-clause-stops
returns-then-touched-clause-stops g c tells v h up =
    let is = c.touched.ensures.store in
    stops_none _ _ (stored_holds c.args.self.now.config is.config c.args.self.now.pool c.args.self.now.log c.args.self.now.written v is.area _ h)

pub returns-then-touched-clause-frame : goal.returns-then-touched-clause-frame
returns-then-touched-clause-frame g c tells = stops_none _ _ (framed_none _ _)

pub returns-clause-stops : goal.returns-clause-stops
returns-clause-stops g c tells v h up =
    let is = c.touched.ensures.store in
    log_stops c.args.self.now.config is.config c.args.self.now.pool c.args.self.now.log c.args.self.now.written v is.area _ _ h
    (c.add_entry.ensures.stops tells c.args.self.now.config (images_of v.saved c.args.self.now.log.places) h.laid) (c.add_entry.ensures.frame tells)

pub returns-clause-stored : goal.returns-clause-stored
returns-clause-stored g c tells v h up =
    let is = c.touched.ensures.store in
    entry_stored c.args.self.now is _ _ c.args.space c.args.page c.requires.page v h up (sym c.touched.ensures.value ∙ c.if-touched.false) c.requires.there.0 c.requires.there.1 c.add_entry.new.self c.add_entry.result c.add_entry.ensures.value
    (c.add_entry.ensures.ok tells c.args.self.now.config (images_of v.saved c.args.self.now.log.places) c.requires.there.0 h.laid c.requires.page c.requires.there.1) (c.add_entry.ensures.frame tells).behind (c.add_entry.ensures.reads tells)

pub returns-clause-frame : goal.returns-clause-frame
returns-clause-frame g c tells = log_framed c.args.self.now c.touched.ensures.store _ _ (c.add_entry.ensures.frame tells)

pub returns-clause-reads : goal.returns-clause-reads
returns-clause-reads g c tells = log_reads c.args.self.now c.touched.ensures.store _ _ c.add_entry.result (c.add_entry.ensures.reads tells)

pub returns-clause-cause : goal.returns-clause-cause
returns-clause-cause g c = log_cause c.args.self.now c.touched.ensures.store _ _ c.add_entry.result c.add_entry.ensures.cause
