use Rattle.std.proofs.Common.{ap, refl, subst, sym, ◌∙◌, ◌≡◌, ℕ, List}
use Rattle.ol_values.specs.declared.record.Record.{Record}
use Rattle.ol_model.specs.Machine.{Machine}
use Rattle.ol_model.specs.Steps.{append}
use Rattle.ol_model.specs.Steps.{change_row as row_changed}
use Rattle.ol_ports.specs.Disk.{Past}
use Rattle.ol_ports.specs.Stops.{Stops}
use Rattle.ol_values.specs.Image.{page_bytes}
use Rattle.ol_rules.specs.Start.{page_behind}
use Rattle.ol_store.specs.Stores.{Store, image_with}
use Rattle.ol_storage.specs.Installation.{Installation, with_store}
use Rattle.ol_storage.specs.Storing.{IsStored}
use Rattle.ol_engine.specs.Parts.{anchor_made, behind_of}
use Rattle.ol_engine.specs.Turns.{StandsWithinEither}
use Rattle.ol_engine.proofs.Steps.{loaded_shows}
use Rattle.ol_engine.proofs.Turns.{turns_beside}
use Rattle.ol_row_turns.specs.Images.{images_behind}
use Rattle.ol_row_turns.specs.declared.images.Images.{Images}
use Rattle.ol_engine.proofs.Going.{goes_both, goes_store}
use Rattle.ol_row_turns.proofs.images.change_with_images.Goals as goal

-- another store in the place of an installation's
restored : (v w : Installation) (s : Store) → w ≡ with_store v s → w ≡ with_store v w.store
restored v w s step = step ∙ ap (λ (x : Installation). with_store v x.store) (sym step)

pub returns-in-Break-clause-shows : goal.returns-in-Break-clause-shows
returns-in-Break-clause-shows g c opened n m registers shows regular =
    let v = c.change_row.new.storage.now in
    loaded_shows v c.break_archive.new.storage.now (row_changed n c.args.rid c.args.rec.now m) (restored v c.break_archive.new.storage.now _ c.break_archive.ensures.step) (ap (λ (x : Installation). x.store.log) c.break_archive.ensures.step) (c.in-Ok.ensures.shows opened n m registers shows regular)

pub returns-in-Break-clause-turns : goal.returns-in-Break-clause-turns
returns-in-Break-clause-turns g c opened now turns may =
    let step = c.break_archive.ensures.step in
    turns_beside opened c.change_row.new.storage.now c.break_archive.new.storage.now now (ap (λ (x : Installation). x.ring) step) (ap (λ (x : Installation). x.anchor) step) (ap (λ (x : Installation). x.reached) step) (c.in-Ok.ensures.turns opened now turns may)

pub returns-in-Break-clause-stops : goal.returns-in-Break-clause-stops
returns-in-Break-clause-stops g c tells opened m registers before shows regular is =
    let v = c.args.storage.now.now in
    subst (λ (p : Past). Stops (g.D.Disk.past c.args.storage.now.disk) p (StandsWithinEither v (anchor_made v c.args.locks.now) before (append c.args.rec.now m))) (sym (ap g.D.Disk.past c.break_archive.ensures.disk)) (c.change_row.ensures.stops tells opened m registers before shows regular is)

pub returns-in-Break-clause-stored : goal.returns-in-Break-clause-stored
returns-in-Break-clause-stored g c tells opened m registers before shows regular is = c.break_archive.ensures.stored tells (behind_of before (append c.args.rec.now m)) (c.in-Ok.ensures.stored tells opened m registers before shows regular is)

pub returns-in-Capture-clause-images : goal.returns-in-Capture-clause-images
returns-in-Capture-clause-images g c tells opened m registers before shows regular is =
    let v = c.args.storage.now.now in
    let image = image_with c.args.rid.space c.args.rid.page (page_bytes (page_behind m.work.start m.work.records c.args.rid.space c.args.rid.page)) in
    subst (λ (i : Images). c.change_row.new.storage.now.store.before ≡ images_behind i image c.args.archives.now v.store.before) (sym c.in-Capture.is)
    (c.in-Ok.ensures.captured tells opened m registers before shows regular is (c.eq.ensures ∙ rw c.in-Capture.is refl))

pub returns-in-Break-clause-goes : goal.returns-in-Break-clause-goes
returns-in-Break-clause-goes g c =
    let v = c.change_row.new.storage.now in
    let w = c.break_archive.new.storage.now in
    goes_both c.args.storage.now.now v w c.in-Ok.ensures.goes (goes_store v w _ c.in-Ok.ensures.goes.going c.break_archive.ensures.step)
