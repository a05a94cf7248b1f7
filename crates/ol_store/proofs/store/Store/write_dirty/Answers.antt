use Rattle.std.proofs.Common.{Ok, subst, sym}
use Rattle.ol_ports.specs.declared.stream.Failed.{Failed}
use Rattle.ol_store.specs.Holding.{CleanAreFlushed}
use Rattle.ol_store.specs.Stores.{Store}
use Rattle.ol_store.proofs.CheckpointSteps.{dirty_flushed, dirty_stops, dirty_stored, place_framed, place_reads}
use Rattle.ol_store.proofs.store.Store.write_dirty.Goals as goal

pub returns-in-Err-clause-stops : goal.returns-in-Err-clause-stops
returns-in-Err-clause-stops g c tells v h all = dirty_stops c.args.self.now c.write_to_place.ensures.store c.args.space c.args.page c.requires.page _ _ v h all c.requires.dirty (c.write_to_place.ensures.stops tells)

pub returns-in-Err-clause-frame : goal.returns-in-Err-clause-frame
returns-in-Err-clause-frame g c tells = place_framed c.args.self.now c.write_to_place.ensures.store c.args.space c.args.page c.requires.page _ _ (c.write_to_place.ensures.stops tells)

pub returns-clause-stops : goal.returns-clause-stops
returns-clause-stops g c tells v h all = dirty_stops c.args.self.now c.write_to_place.ensures.store c.args.space c.args.page c.requires.page _ _ v h all c.requires.dirty (c.write_to_place.ensures.stops tells)

pub returns-clause-frame : goal.returns-clause-frame
returns-clause-frame g c tells = place_framed c.args.self.now c.write_to_place.ensures.store c.args.space c.args.page c.requires.page _ _ (c.write_to_place.ensures.stops tells)

pub returns-clause-stored : goal.returns-clause-stored
returns-clause-stored g c tells v h all =
    dirty_stored c.args.self.now c.write_to_place.ensures.store c.args.space c.args.page c.requires.page _ _ v h all c.requires.dirty {E = Failed} c.note_clean.new.self (Ok tt) c.note_clean.ensures (c.write_to_place.ensures.stops tells).behind (c.in-Ok.ensures.reads tells) (c.in-Ok.ensures.ok tells)

pub returns-clause-logged : goal.returns-clause-logged
returns-clause-logged g c tells v h flushed =
    subst (λ (s : Store). CleanAreFlushed s v) (sym c.note_clean.ensures) (dirty_flushed c.args.self.now c.write_to_place.ensures.store c.args.space c.args.page c.requires.page _ v h c.requires.dirty c.requires.flushed flushed)

pub returns-clause-reads : goal.returns-clause-reads
returns-clause-reads g c tells = place_reads c.args.self.now c.write_to_place.ensures.store c.args.space c.args.page c.requires.page {E = Failed} (g.D.Disk.past c.args.disk.now) (g.D.Disk.past c.write_to_place.new.disk) (Ok tt) (c.in-Ok.ensures.reads tells)
