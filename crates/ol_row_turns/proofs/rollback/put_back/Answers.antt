use Rattle.std.specs.Prelude.{List, None, OnOk, Option, Some, true, ℕ, ◌+◌, ◌<◌, ◌^◌, ◌≡◌, ◌≤◌}
use Rattle.std.proofs.Common.{ap, arith, refl, subst, sym, ◌∙◌}
use Rattle.ol_values.specs.declared.record.Record.{Record}
use Rattle.ol_values.specs.declared.record.Record.TheVariants.{Undo}
use Rattle.ol_values.specs.declared.row.Row.{Row}
use Rattle.ol_values.specs.Config.{Config, has_place}
use Rattle.ol_values.specs.Image.{page_bytes}
use Rattle.ol_rules.specs.Start.{page_behind, upto}
use Rattle.ol_model.specs.Machine.{Machine, config_of, last_of}
use Rattle.ol_model.specs.Steps.{append}
use Rattle.ol_model.specs.Steps.{change_row as row_changed}
use Rattle.ol_before.specs.Images.{Captures, Image}
use Rattle.ol_ports.specs.Stops.{Stops}
use Rattle.ol_store.specs.Stores.{image_with}
use Rattle.ol_storage.proofs.Agreeing.{upto_all}
use Rattle.ol_storage.specs.Storing.{IsStored}
use Rattle.ol_running.specs.declared.running.Running.{Running}
use Rattle.ol_running.specs.Running.{ShowsArchives}
use Rattle.ol_running.proofs.ChangeLaws.{image_of_now}
use Rattle.ol_txn.specs.Seats.{Seat, undone_seat}
use Rattle.ol_txn.specs.Seats.{seat_of as locks_of, with_seat as with_locks}
use Rattle.ol_engine.specs.Parts.{HasTurns, Shows, ShowsStorage, anchor_made, behind_of, owed_of}
use Rattle.ol_engine.specs.Turns.{StandsWithinEither}
use Rattle.ol_session_turns.proofs.Ends.{open_owed, owes_one}
use Rattle.ol_row_turns.specs.declared.images.Images.{Images}
use Rattle.ol_row_turns.specs.Images.{archives_behind, images_behind}
use Rattle.ol_row_turns.proofs.Keeping.{changed_shown, place_within}
use Rattle.ol_row_turns.proofs.TakenBack.{back_follows, back_shown}
use Rattle.ol_row_turns.proofs.Rests.{undone_pending}
use Rattle.ol_session_turns.specs.Pending.{ArePending}
use Rattle.ol_row_turns.proofs.rollback.put_back.Goals as goal

pub change_with_images-requires-clause-free : goal.change_with_images-requires-clause-free
change_with_images-requires-clause-free g c =
    let turns = c.requires.turns in
    owes_one turns.0 c.args.storage.now.now c.args.locks.now c.args.owner.session c.args.owner.txn c.requires.session c.is_open.ensures.sessions c.requires.open turns.1

pub change_with_images-requires-clause-low : goal.change_with_images-requires-clause-low
change_with_images-requires-clause-low g c =
    let turns = c.requires.turns in
    omega (arith, turns.1.positions, open_owed c.args.locks.now c.args.owner.session c.args.owner.txn c.requires.session c.is_open.ensures.sessions c.requires.open)

pub returns-in-Err-clause-stops : goal.returns-in-Err-clause-stops
returns-in-Err-clause-stops g c tells opened m registers earlier shows regular is =
    let v = c.args.storage.now.now in
    let rec : Undo c.args.owner.txn c.args.rid c.copy_of.result ≡ Undo c.args.owner.txn c.args.rid c.args.value = ap (λ b. Undo c.args.owner.txn c.args.rid b) c.copy_of.ensures in
    subst (λ (r : Record). Stops (g.D.Disk.past c.args.storage.now.disk) (g.D.Disk.past c.change_with_images.new.storage.disk) (StandsWithinEither v (anchor_made v c.args.locks.now) earlier (append r m))) rec (c.change_with_images.ensures.stops tells opened m registers earlier shows regular is)

pub returns-clause-answer : goal.returns-clause-answer
returns-clause-answer g c opened m registers shows regular =
    let v = c.args.storage.now.now in
    let rec : Undo c.args.owner.txn c.args.rid c.copy_of.result ≡ Undo c.args.owner.txn c.args.rid c.args.value = ap (λ b. Undo c.args.owner.txn c.args.rid b) c.copy_of.ensures in
    let storage = subst (λ (r : Record). ShowsStorage c.change_with_images.new.storage.now (row_changed c.args.owner.entry c.args.rid r m)) rec (c.in-Ok.ensures.shows opened c.args.owner.entry m registers shows regular) in (
      refl,
      subst (λ (l : List Seat). Shows opened c.change_with_images.new.storage.now l registers (row_changed c.args.owner.entry c.args.rid (Undo c.args.owner.txn c.args.rid c.args.value) m)) (sym c.undone.ensures)
          (back_shown opened v c.change_with_images.new.storage.now c.args.locks.now registers m c.args.owner.session c.args.owner.txn c.args.owner.entry c.args.rid c.args.value c.requires.session c.requires.open regular shows storage),
    )

pub returns-clause-turns : goal.returns-clause-turns
returns-clause-turns g c opened turns =
    let v = c.args.storage.now.now in
    let now = with_locks c.args.locks.now c.args.owner.session (undone_seat (locks_of c.args.locks.now c.args.owner.session)) in
    subst (λ (l : List Seat). HasTurns opened c.change_with_images.new.storage.now l) (sym c.undone.ensures)
    (c.in-Ok.ensures.turns opened now turns (back_follows opened v c.args.locks.now c.args.owner.session c.args.owner.txn (c.args.rid, c.args.value) c.requires.session c.is_open.ensures.sessions c.requires.open c.requires.last turns))

pub returns-clause-archives : goal.returns-clause-archives
returns-clause-archives g c tells opened m registers earlier shows regular is asked archives =
    let r = Undo c.args.owner.txn c.args.rid c.args.value in
    let all : upto m.work.start m.work.records (last_of m) ≡ m.work.records = upto_all m.work.start m.work.records (last_of m) (omega arith) in
    let image : image_with c.args.rid.space c.args.rid.page (page_bytes (page_behind m.work.start m.work.records c.args.rid.space c.args.rid.page)) ≡ image_of_now m c.args.rid =
    ap (λ (l : List Record). image_with c.args.rid.space c.args.rid.page (page_bytes (page_behind m.work.start l c.args.rid.space c.args.rid.page))) (sym all) in
    let within = place_within (config_of m) c.args.rid (subst (λ (x : Config). has_place x c.args.rid ≡ true) shows.storage.config c.requires.place) in
    let shown = changed_shown c.args.archives.now c.args.storage.now.now.store.before m c.args.owner.entry r c.args.rid archives.four archives (λ space page. refl) within in
    subst (λ (l : List (Option Running)). ShowsArchives l c.change_with_images.new.storage.now.store.before (row_changed c.args.owner.entry c.args.rid r m)) (sym c.in-Ok.ensures.archives)
    (subst (λ (b : Captures). ShowsArchives (archives_behind c.args.images c.args.owner.entry c.args.archives.now) b (row_changed c.args.owner.entry c.args.rid r m))
    (sym (c.in-Ok.ensures.images tells opened m registers earlier shows regular is ∙ ap (λ (i : Image). images_behind c.args.images i c.args.archives.now c.args.storage.now.now.store.before) image))
    (subst (λ (i : Images). ShowsArchives (archives_behind i c.args.owner.entry c.args.archives.now) (images_behind i (image_of_now m c.args.rid) c.args.archives.now c.args.storage.now.now.store.before) (row_changed c.args.owner.entry c.args.rid r m)) (sym asked) shown))

pub returns-clause-stops : goal.returns-clause-stops
returns-clause-stops g c tells opened m registers earlier shows regular is =
    let v = c.args.storage.now.now in
    let rec : Undo c.args.owner.txn c.args.rid c.copy_of.result ≡ Undo c.args.owner.txn c.args.rid c.args.value = ap (λ b. Undo c.args.owner.txn c.args.rid b) c.copy_of.ensures in
    subst (λ (r : Record). Stops (g.D.Disk.past c.args.storage.now.disk) (g.D.Disk.past c.change_with_images.new.storage.disk) (StandsWithinEither v (anchor_made v c.args.locks.now) earlier (append r m))) rec (c.change_with_images.ensures.stops tells opened m registers earlier shows regular is)

pub returns-clause-stored : goal.returns-clause-stored
returns-clause-stored g c tells opened m registers earlier shows regular is =
    let rec : Undo c.args.owner.txn c.args.rid c.copy_of.result ≡ Undo c.args.owner.txn c.args.rid c.args.value = ap (λ b. Undo c.args.owner.txn c.args.rid b) c.copy_of.ensures in
    subst (λ (r : Record). IsStored (g.D.Disk.past c.change_with_images.new.storage.disk) c.change_with_images.new.storage.now (behind_of earlier (append r m))) rec (c.in-Ok.ensures.stored tells opened m registers earlier shows regular is)

pub returns-clause-places : goal.returns-clause-places
returns-clause-places g c test are = subst (λ (l : List Seat). ArePending test l) (sym c.undone.ensures) (undone_pending test c.args.locks.now c.args.owner.session c.requires.session c.is_open.ensures.sessions are)
