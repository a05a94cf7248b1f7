use Rattle.ol_chunks.specs.Places.{is_in}
use Rattle.ol_chunks.specs.Places.Part.{Data}
use Rattle.ol_ports.proofs.FrameLaws.{settled_quiet}
use Rattle.ol_physlog.specs.Places.{in_physical}
use Rattle.ol_page_opening.proofs.EntryLaws.{same_fault}
use Rattle.ol_page_opening.proofs.OpenLaws.{frame_from, framed_unwritten, fresh, held_unwritten, restored_stops, were_read}
use Rattle.ol_page_opening.proofs.pages.read_pages.Goals as goal

pub returns-in-Err-clause-stops : goal.returns-in-Err-clause-stops
returns-in-Err-clause-stops g c tells quiet v h = held_unwritten c.args.table.now c.args.generation v _ _ (c.read_images.ensures.past tells) quiet h

pub returns-in-Err-clause-frame : goal.returns-in-Err-clause-frame
returns-in-Err-clause-frame g c tells = framed_unwritten (is_in c.args.table.now Data) _ _ (c.read_images.ensures.past tells)

pub returns-in-Err-clause-cause : goal.returns-in-Err-clause-cause
returns-in-Err-clause-cause g c = same_fault c.args.table.now _ _ c.in-Err.fault c.in-Err.ensures.cause

pub returns-in-Err-store_over-clause-stops : goal.returns-in-Err-store_over-clause-stops
returns-in-Err-store_over-clause-stops g c tells quiet v h = held_unwritten c.args.table.now c.args.generation v _ _ (c.read_images.ensures.past tells) quiet h

pub returns-in-Err-store_over-clause-frame : goal.returns-in-Err-store_over-clause-frame
returns-in-Err-store_over-clause-frame g c tells = framed_unwritten (is_in c.args.table.now Data) _ _ (c.read_images.ensures.past tells)

pub returns-in-Ok-restore_pages-clause-stored : goal.returns-in-Ok-restore_pages-clause-stored
returns-in-Ok-restore_pages-clause-stored g c tells quiet v saved h =
    let told = c.in-Ok.ensures.tells tells in
    let read = were_read c.args.table.now c.read_images.ensures.config c.args.generation c.in-Ok.entries _ _ (g.D.Disk.past c.restore_pages.new.disk) (c.read_images.ensures.past tells) told quiet c.in-Ok.ensures.gates in
    c.in-Ok-store_over.ensures.stored _ v
    (fresh c.args.table.now c.read_images.ensures.config c.args.generation c.in-Ok.entries v _ _ _ (c.read_images.ensures.past tells) c.in-Ok.ensures.found told c.in-Ok.ensures.gates h saved
    (c.in-Ok-store_over.ensures.laid _ told (settled_quiet _ (in_physical c.args.table.now) quiet) h.older) (c.restore_pages.ensures.frame tells) (c.in-Ok-restore_pages.ensures.ok tells c.args.generation read))

pub returns-in-Ok-restore_pages-clause-stops : goal.returns-in-Ok-restore_pages-clause-stops
returns-in-Ok-restore_pages-clause-stops g c tells quiet v h =
    let same = c.read_images.ensures.past tells in
    let read = were_read c.args.table.now c.read_images.ensures.config c.args.generation c.in-Ok.entries _ _ (g.D.Disk.past c.restore_pages.new.disk) same (c.in-Ok.ensures.tells tells) quiet c.in-Ok.ensures.gates in
    restored_stops c.args.table.now c.read_images.ensures.config c.args.generation c.in-Ok.entries _ _ _ same v quiet (c.restore_pages.ensures.stops tells c.args.generation read) (c.restore_pages.ensures.frame tells) h

pub returns-in-Ok-restore_pages-clause-frame : goal.returns-in-Ok-restore_pages-clause-frame
returns-in-Ok-restore_pages-clause-frame g c tells = frame_from c.args.table.now c.read_images.ensures.config c.args.generation c.in-Ok.entries _ _ _ (c.read_images.ensures.past tells) (c.restore_pages.ensures.frame tells)

pub returns-clause-stops : goal.returns-clause-stops
returns-clause-stops g c tells quiet v h =
    let same = c.read_images.ensures.past tells in
    let read = were_read c.args.table.now c.read_images.ensures.config c.args.generation c.in-Ok.entries _ _ (g.D.Disk.past c.restore_pages.new.disk) same (c.in-Ok.ensures.tells tells) quiet c.in-Ok.ensures.gates in
    restored_stops c.args.table.now c.read_images.ensures.config c.args.generation c.in-Ok.entries _ _ _ same v quiet (c.restore_pages.ensures.stops tells c.args.generation read) (c.restore_pages.ensures.frame tells) h

pub returns-clause-frame : goal.returns-clause-frame
returns-clause-frame g c tells = frame_from c.args.table.now c.read_images.ensures.config c.args.generation c.in-Ok.entries _ _ _ (c.read_images.ensures.past tells) (c.restore_pages.ensures.frame tells)
