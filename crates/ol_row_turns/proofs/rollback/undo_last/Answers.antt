use Rattle.std.specs.Prelude.{Err, List, OnOk, Option, true, ℕ, ◌+◌, ◌≡◌}
use Rattle.std.proofs.Common.{ap, refl, subst, sym, ◌∙◌}
use Rattle.ol_values.specs.declared.record.Record.TheVariants.{Undo}
use Rattle.ol_model.specs.Machine.{Machine, stamp_in}
use Rattle.ol_model.specs.Steps.{append}
use Rattle.ol_model.specs.Steps.{change_row as row_changed}
use Rattle.ol_before.specs.Images.{Captures}
use Rattle.ol_ports.proofs.StopLaws.{stops_none, stops_weaker}
use Rattle.ol_ports.specs.Disk.{Past}
use Rattle.ol_ports.specs.Stops.{Stops}
use Rattle.ol_running.proofs.KeptLaws.{stamp_of_page}
use Rattle.ol_running.specs.Running.{ShowsArchives}
use Rattle.ol_store.specs.Stores.{Store}
use Rattle.ol_storage.specs.Installation.{Installation, with_store}
use Rattle.ol_storage.specs.Storing.{IsStored}
use Rattle.ol_storage.specs.declared.storage.StorageFault.TheVariants.{Bad, Failed}
use Rattle.ol_engine.specs.Parts.{Shows, anchor_made, behind_of}
use Rattle.ol_engine.specs.Turns.{StandsWithinEither}
use Rattle.ol_engine.proofs.Stops.{rest_stops}
use Rattle.ol_row_turns.specs.Images.{images_asked}
use Rattle.ol_row_turns.proofs.Changes.{leaves_ok, leaves_same, loaded_shown, loaded_turns, only_failed, record_stands, restored, unless_failed}
use Rattle.ol_row_turns.proofs.Keeping.{room_asks, room_shown}
use Rattle.ol_engine.specs.Parts.{GoesOn}
use Rattle.ol_engine.proofs.Going.{goes_beside, goes_both, goes_same}
use Rattle.ol_row_turns.proofs.rollback.undo_last.Goals as goal

-- ---- the page was not read

pub returns-in-Err-clause-stops : goal.returns-in-Err-clause-stops
returns-in-Err-clause-stops g c tells opened m registers earlier shows regular stored =
    let v = c.args.storage.now.now in
    let r = Undo c.args.owner.txn c.args.rid c.args.value in
    subst (λ (p : Past). Stops (g.D.Disk.past c.args.storage.now.disk) p (StandsWithinEither v (anchor_made v c.args.locks.now) earlier (append r m))) (sym (c.in-Err.ensures.past tells))
    (stops_none _ _ (λ d rest. record_stands v (anchor_made v c.args.locks.now) earlier m r d stored.behind (rest_stops v earlier m d shows.storage.next (c.is_stopped-stands.ensures.stands tells (behind_of earlier m) stored d rest))))

pub returns-in-Err-clause-good : goal.returns-in-Err-clause-good
returns-in-Err-clause-good g c tells m earlier stored chunk page e =
    let same : c.in-Err.fault ≡ Bad chunk page = cc in
    c.in-Err.ensures.good tells (behind_of earlier m) stored c.requires.up chunk page (ap (λ f. Err f) same)

-- ---- the change is taken back

pub put_back-requires-clause-turns : goal.put_back-requires-clause-turns
put_back-requires-clause-turns g c =
    let v = c.args.storage.now.now in
    let u = c.ask_images.new.storage.now in
    (c.requires.turns.0, loaded_turns c.requires.turns.0 v u c.args.locks.now (restored v c.read.new.self.now u c.in-Ok.ensures.step (c.in-Ok-ask_images.ensures.step (λ failed. cc))) c.requires.turns.1)

pub returns-in-Ok-ask_images-clause-answer : goal.returns-in-Ok-ask_images-clause-answer
returns-in-Ok-ask_images-clause-answer g c opened m registers shows regular =
    let v = c.args.storage.now.now in
    let u = c.ask_images.new.storage.now in
    let log = c.in-Ok-ask_images.ensures.log (λ failed. cc) ∙ ap (λ (s : Store). s.log) c.in-Ok.ensures.loaded.rest in
    c.put_back.ensures.answer opened m registers (loaded_shown opened v u c.args.locks.now registers m (restored v c.read.new.self.now u c.in-Ok.ensures.step (c.in-Ok-ask_images.ensures.step (λ failed. cc))) log shows) regular

pub returns-in-Ok-ask_images-clause-turns : goal.returns-in-Ok-ask_images-clause-turns
returns-in-Ok-ask_images-clause-turns g c opened turns ok =
    let v = c.args.storage.now.now in
    let u = c.ask_images.new.storage.now in
    unless_failed c.put_back.result c.put_back.ensures.only (c.put_back.ensures.turns opened (loaded_turns opened v u c.args.locks.now (restored v c.read.new.self.now u c.in-Ok.ensures.step (c.in-Ok-ask_images.ensures.step (λ failed. cc))) turns)) ok

pub returns-in-Ok-ask_images-clause-archives : goal.returns-in-Ok-ask_images-clause-archives
returns-in-Ok-ask_images-clause-archives g c tells opened m registers earlier shows regular stored archives =
    let v = c.args.storage.now.now in
    let w = c.read.new.self.now in
    let u = c.ask_images.new.storage.now in
    let log = c.in-Ok-ask_images.ensures.log (λ failed. cc) ∙ ap (λ (s : Store). s.log) c.in-Ok.ensures.loaded.rest in
    let before = ap (λ (s : Store). s.before) c.in-Ok.ensures.loaded.rest in
    let held = c.in-Ok-ask_images.ensures.held (λ failed. cc) in
    let limit = c.in-Ok-ask_images.ensures.limit (λ failed. cc) in
    let read = c.in-Ok.ensures.stored tells (behind_of earlier m) stored c.requires.up in
    let asked : c.in-Ok-ask_images.images ≡ images_asked c.args.archives.now u.store.before c.args.rid.space c.args.rid.page (stamp_in m c.args.rid.space c.args.rid.page) =
    c.in-Ok-ask_images.ensures.value tells (behind_of earlier m) read
    ∙ ap (λ (n : ℕ). images_asked c.args.archives.now w.store.before c.args.rid.space c.args.rid.page n) (stamp_of_page m c.args.rid.space c.args.rid.page)
    ∙ sym (room_asks c.args.archives.now w.store.before u.store.before c.args.rid.space c.args.rid.page (stamp_in m c.args.rid.space c.args.rid.page) held limit) in
    leaves_ok m (row_changed c.args.owner.entry c.args.rid (Undo c.args.owner.txn c.args.rid c.args.value) m) (λ n. ShowsArchives c.put_back.new.archives c.put_back.new.storage.now.store.before n) c.put_back.result c.put_back.ensures.only
    (c.put_back.ensures.archives tells opened m registers earlier (loaded_shown opened v u c.args.locks.now registers m (restored v w u c.in-Ok.ensures.step (c.in-Ok-ask_images.ensures.step (λ failed. cc))) log shows) regular
    (c.in-Ok-ask_images.ensures.stored tells (behind_of earlier m) read (λ failed. cc)) asked (room_shown c.args.archives.now w.store.before u.store.before m held limit (subst (λ (b : Captures). ShowsArchives c.args.archives.now b m) (sym before) archives)))

pub returns-in-Ok-ask_images-clause-stops : goal.returns-in-Ok-ask_images-clause-stops
returns-in-Ok-ask_images-clause-stops g c tells opened m registers earlier shows regular stored =
    let v = c.args.storage.now.now in
    let u = c.ask_images.new.storage.now in
    let r = Undo c.args.owner.txn c.args.rid c.args.value in
    let step = restored v c.read.new.self.now u c.in-Ok.ensures.step (c.in-Ok-ask_images.ensures.step (λ failed. cc)) in
    let log = c.in-Ok-ask_images.ensures.log (λ failed. cc) ∙ ap (λ (s : Store). s.log) c.in-Ok.ensures.loaded.rest in
    let read = c.in-Ok.ensures.stored tells (behind_of earlier m) stored c.requires.up in
    subst (λ (p : Past). Stops p (g.D.Disk.past c.put_back.new.storage.disk) (StandsWithinEither v (anchor_made v c.args.locks.now) earlier (append r m))) (c.in-Ok-ask_images.ensures.past tells ∙ c.in-Ok.ensures.past tells)
    (stops_weaker _ _ _ _ (λ d s. subst (λ (x : Installation). StandsWithinEither x (anchor_made x c.args.locks.now) earlier (append r m) d) step s)
    (c.put_back.ensures.stops tells opened m registers earlier (loaded_shown opened v u c.args.locks.now registers m step log shows) regular (c.in-Ok-ask_images.ensures.stored tells (behind_of earlier m) read (λ failed. cc))))

pub returns-in-Ok-ask_images-clause-stored : goal.returns-in-Ok-ask_images-clause-stored
returns-in-Ok-ask_images-clause-stored g c tells opened m registers earlier shows regular stored =
    let v = c.args.storage.now.now in
    let u = c.ask_images.new.storage.now in
    let log = c.in-Ok-ask_images.ensures.log (λ failed. cc) ∙ ap (λ (s : Store). s.log) c.in-Ok.ensures.loaded.rest in
    let read = c.in-Ok.ensures.stored tells (behind_of earlier m) stored c.requires.up in
    c.put_back.ensures.stored tells opened m registers earlier (loaded_shown opened v u c.args.locks.now registers m (restored v c.read.new.self.now u c.in-Ok.ensures.step (c.in-Ok-ask_images.ensures.step (λ failed. cc))) log shows) regular
    (c.in-Ok-ask_images.ensures.stored tells (behind_of earlier m) read (λ failed. cc))

-- ---- the images were asked for in vain

pub returns-in-Err-ask_images-clause-turns : goal.returns-in-Err-ask_images-clause-turns
returns-in-Err-ask_images-clause-turns g c opened turns ok =
    let v = c.args.storage.now.now in
    let u = c.ask_images.new.storage.now in
    loaded_turns opened v u c.args.locks.now (restored v c.read.new.self.now u c.in-Ok.ensures.step (c.in-Err-ask_images.ensures.step (λ failed. let same : c.in-Err-ask_images.fault ≡ Failed = cc in ok (ap (λ f. Err f) same)))) turns

pub returns-in-Err-ask_images-clause-archives : goal.returns-in-Err-ask_images-clause-archives
returns-in-Err-ask_images-clause-archives g c tells opened m registers earlier shows regular stored archives =
    let w = c.read.new.self.now in
    let u = c.ask_images.new.storage.now in
    let before = ap (λ (s : Store). s.before) c.in-Ok.ensures.loaded.rest in
    leaves_same m (row_changed c.args.owner.entry c.args.rid (Undo c.args.owner.txn c.args.rid c.args.value) m) (λ n. ShowsArchives c.args.archives.now u.store.before n) c.in-Err-ask_images.fault
    (λ never. let ok : Err c.in-Err-ask_images.fault ≡ Err Failed → ⊥ = λ failed. let fault : c.in-Err-ask_images.fault ≡ Failed = cc in never fault in
    room_shown c.args.archives.now w.store.before u.store.before m (c.in-Err-ask_images.ensures.held ok) (c.in-Err-ask_images.ensures.limit ok) (subst (λ (b : Captures). ShowsArchives c.args.archives.now b m) (sym before) archives))

pub returns-in-Err-ask_images-clause-stops : goal.returns-in-Err-ask_images-clause-stops
returns-in-Err-ask_images-clause-stops g c tells opened m registers earlier shows regular stored =
    let v = c.args.storage.now.now in
    let r = Undo c.args.owner.txn c.args.rid c.args.value in
    subst (λ (p : Past). Stops (g.D.Disk.past c.args.storage.now.disk) p (StandsWithinEither v (anchor_made v c.args.locks.now) earlier (append r m))) (sym (c.in-Err-ask_images.ensures.past tells ∙ c.in-Ok.ensures.past tells))
    (stops_none _ _ (λ d rest. record_stands v (anchor_made v c.args.locks.now) earlier m r d stored.behind (rest_stops v earlier m d shows.storage.next (c.is_stopped-stands.ensures.stands tells (behind_of earlier m) stored d rest))))

-- ---- what is left as it was

pub returns-in-Ok-ask_images-clause-goes : goal.returns-in-Ok-ask_images-clause-goes
returns-in-Ok-ask_images-clause-goes g c ok =
    let v = c.args.storage.now.now in
    let u = c.ask_images.new.storage.now in
    goes_both v u c.put_back.new.storage.now (goes_beside v u c.requires.going (restored v c.read.new.self.now u c.in-Ok.ensures.step (c.in-Ok-ask_images.ensures.step (λ failed. cc)))) (unless_failed c.put_back.result c.put_back.ensures.only c.put_back.ensures.goes ok)

pub returns-in-Err-clause-goes : goal.returns-in-Err-clause-goes
returns-in-Err-clause-goes g c ok =
    let same = c.in-Err.ensures.unchanged (λ failed. let fault : c.in-Err.fault ≡ Failed = cc in ok (ap (λ f. Err f) fault)) in
    subst (λ (x : Installation). GoesOn c.args.storage.now.now x) (sym same) (goes_same c.args.storage.now.now c.requires.going)

pub returns-in-Err-ask_images-clause-goes : goal.returns-in-Err-ask_images-clause-goes
returns-in-Err-ask_images-clause-goes g c ok =
    let v = c.args.storage.now.now in
    let u = c.ask_images.new.storage.now in
    goes_beside v u c.requires.going (restored v c.read.new.self.now u c.in-Ok.ensures.step (c.in-Err-ask_images.ensures.step (λ failed. let fault : c.in-Err-ask_images.fault ≡ Failed = cc in ok (ap (λ f. Err f) fault))))

pub returns-in-Ok-ask_images-clause-places : goal.returns-in-Ok-ask_images-clause-places
returns-in-Ok-ask_images-clause-places g c test are ok = unless_failed c.put_back.result c.put_back.ensures.only (c.put_back.ensures.places test are) ok

pub returns-in-Ok-ask_images-clause-unwritten : goal.returns-in-Ok-ask_images-clause-unwritten
returns-in-Ok-ask_images-clause-unwritten g c = only_failed _ c.put_back.result c.put_back.ensures.only

pub returns-in-Ok-ask_images-clause-untouched : goal.returns-in-Ok-ask_images-clause-untouched
returns-in-Ok-ask_images-clause-untouched g c = only_failed _ c.put_back.result c.put_back.ensures.only

pub returns-in-Err-clause-unwritten : goal.returns-in-Err-clause-unwritten
returns-in-Err-clause-unwritten g c ok =
    let same = c.in-Err.ensures.unchanged (λ failed. let fault : c.in-Err.fault ≡ Failed = cc in ok (ap (λ f. Err f) fault)) in
    subst (λ (x : Installation). x ≡ with_store c.args.storage.now.now x.store) (sym same) refl

pub returns-in-Err-ask_images-clause-unwritten : goal.returns-in-Err-ask_images-clause-unwritten
returns-in-Err-ask_images-clause-unwritten g c ok =
    restored c.args.storage.now.now c.read.new.self.now c.ask_images.new.storage.now c.in-Ok.ensures.step (c.in-Err-ask_images.ensures.step (λ failed. let fault : c.in-Err-ask_images.fault ≡ Failed = cc in ok (ap (λ f. Err f) fault)))
