use Rattle.std.proofs.Common.{Bool, List, false, subst, sym, true, ◌≡◌, ◌∙◌}
use Rattle.ol_data_pages.specs.Places.{HasNoMark}
use Rattle.ol_physical_restore.proofs.RestoreLaws.{data_stops, put_stops, stops_synced, synced_reads, synced_stand, unmarked}
use Rattle.ol_physical_restore.proofs.restore.restore_pages.Goals as goal

pub put_images-requires-clause-marks : goal.put_images-requires-clause-marks
put_images-requires-clause-marks g c chunk marked = absurd (let clash : false ≡ true = sym (unmarked 31 chunk) ∙ marked in cc)

pub returns-in-Ok-clause-stops : goal.returns-in-Ok-clause-stops
returns-in-Ok-clause-stops g c tells generation read =
    stops_synced _ _ _ _ (put_stops c.args.table.now c.put_images.ensures.config generation c.args.entries.now c.put_images.ensures.found _ _ read (c.put_images.ensures.stops tells)) (c.sync_chunks.ensures.stops tells)

pub returns-in-Ok-clause-ok : goal.returns-in-Ok-clause-ok
returns-in-Ok-clause-ok g c tells generation read =
    synced_stand c.args.table.now c.put_images.ensures.config generation c.args.entries.now c.put_images.ensures.found _ _ read (c.put_images.ensures.stops tells) _ c.put_images.new.written c.sync_chunks.result (c.in-Ok.ensures.put tells) c.in-Ok.ensures.marked (c.sync_chunks.ensures.stops tells) (c.sync_chunks.ensures.ok tells)

pub returns-in-Ok-clause-frame : goal.returns-in-Ok-clause-frame
returns-in-Ok-clause-frame g c tells =
    stops_synced _ _ _ _ (data_stops c.args.table.now c.put_images.ensures.config c.args.entries.now _ _ (c.put_images.ensures.stops tells)) (c.sync_chunks.ensures.stops tells)

pub returns-in-Ok-clause-reads : goal.returns-in-Ok-clause-reads
returns-in-Ok-clause-reads g c tells =
    synced_reads c.args.table.now c.put_images.ensures.config c.args.entries.now _ _ _ c.put_images.new.written c.sync_chunks.result (c.in-Ok.ensures.reads tells) (c.sync_chunks.ensures.ok tells)

pub returns-in-Ok-clause-idle : goal.returns-in-Ok-clause-idle
returns-in-Ok-clause-idle g c none =
    let put = c.put_images.ensures.idle none in
    let idle = c.sync_chunks.ensures.idle (subst (λ (marks : List Bool). HasNoMark marks) (sym put.1) (unmarked 31)) in
    (idle.0 ∙ put.0, idle.1)

pub returns-in-Err-clause-stops : goal.returns-in-Err-clause-stops
returns-in-Err-clause-stops g c tells generation read = put_stops c.args.table.now c.put_images.ensures.config generation c.args.entries.now c.put_images.ensures.found _ _ read (c.put_images.ensures.stops tells)

pub returns-in-Err-clause-frame : goal.returns-in-Err-clause-frame
returns-in-Err-clause-frame g c tells = data_stops c.args.table.now c.put_images.ensures.config c.args.entries.now _ _ (c.put_images.ensures.stops tells)
