use Rattle.std.specs.Prelude.{Err, List, Ok, None, OnOk, Option, Some, false, true, ℕ, ◌+◌, ◌≡◌}
use Rattle.std.proofs.Common.{ap, inl, refl, subst, sym, ⊎_elim, ◌∙◌}
use Rattle.ol_values.specs.declared.event.Reply.{Reply}
use Rattle.ol_values.specs.declared.event.Reply.TheVariants.{Changed}
use Rattle.ol_values.specs.declared.record.Record.TheVariants.{Change}
use Rattle.ol_rules.specs.Locks.{Holding, holder_of}
use Rattle.ol_model.specs.Machine.{Machine, stamp_in}
use Rattle.ol_model.specs.Steps.{append, change_row}
use Rattle.ol_ports.proofs.StopLaws.{stops_none, stops_weaker}
use Rattle.ol_ports.specs.Stops.{Stops}
use Rattle.ol_reserve.specs.declared.anchor.Anchor.{Anchor}
use Rattle.ol_storage.specs.Behind.{Behind}
use Rattle.ol_storage.specs.Storing.{IsStored}
use Rattle.ol_txn.specs.Seats.{Seat, table_of}
use Rattle.ol_engine.specs.Parts.{Shows, ShowsSeats, anchor_made, behind_of}
use Rattle.ol_engine.specs.Turns.{Answers, StandsWithinEither}
use Rattle.ol_engine.proofs.Results.{when_false}
use Rattle.ol_engine.proofs.Rooms.{finds, room_found, room_refused}
use Rattle.ol_engine.proofs.Seats.{reserve_shows}
use Rattle.ol_engine.proofs.Stops.{behind_changed, either_changed, either_more, rest_stops}
use Rattle.ol_ports.specs.Disk.{Past}
use Rattle.ol_running.proofs.KeptLaws.{stamp_of_page}
use Rattle.ol_running.specs.Running.{ShowsArchives}
use Rattle.ol_storage.specs.Installation.{Installation}
use Rattle.ol_storage.specs.declared.storage.StorageFault.{StorageFault}
use Rattle.ol_storage.specs.declared.storage.StorageFault.TheVariants.{Failed, NoMemory, Stopped}
use Rattle.ol_engine.specs.Parts.{HasTurns}
use Rattle.ol_row_turns.specs.Images.{images_asked}
use Rattle.ol_row_turns.specs.Turns.{written_turn}
use Rattle.ol_row_turns.proofs.Changes.{fault_answer, leaves_same, loaded_more, loaded_shown, loaded_turns, reserved_shown, reserved_table, same_anchor, same_more, same_turns, written_stands, written_yields}
use Rattle.ol_row_turns.proofs.Keeping.{room_asks, room_shown}
use Rattle.ol_engine.proofs.Going.{goes_beside, goes_both, goes_same}
use Rattle.ol_row_turns.proofs.Rests.{reserved_pending}
use Rattle.ol_session_turns.specs.Pending.{ArePending}
use Rattle.ol_row_turns.proofs.rows.write_row.Goals as goal

pub returns-in-Some-clause-answer : goal.returns-in-Some-clause-answer
returns-in-Some-clause-answer g c m registers shows regular =
    let v = c.args.storage.now.now in
    let going = when_false _ _ c.is_stopped.ensures.going (c.is_stopped.ensures.value ∙ c.requires.going) in
    let is = room_refused c.args.opened v c.args.locks.now m _ c.in-Some.refusal (finds c.args.opened v c.args.locks.now registers m shows going) (sym c.no_room.ensures.value ∙ c.in-Some.is) in
    subst (λ (r : Reply × Machine). (c.in-Some.refusal ≡ r.0) × Shows c.args.opened v c.args.locks.now registers r.1) (sym is) (refl, shows)

pub returns-in-Some-clause-stops : goal.returns-in-Some-clause-stops
returns-in-Some-clause-stops g c tells m registers earlier shows regular stored =
    let v = c.args.storage.now.now in
    let going = when_false _ _ c.is_stopped.ensures.going (c.is_stopped.ensures.value ∙ c.requires.going) in
    let is = room_refused c.args.opened v c.args.locks.now m _ c.in-Some.refusal (finds c.args.opened v c.args.locks.now registers m shows going) (sym c.no_room.ensures.value ∙ c.in-Some.is) in
    subst (λ (r : Reply × Machine). Stops (g.D.Disk.past c.args.storage.now.disk) (g.D.Disk.past c.args.storage.now.disk) (StandsWithinEither v (anchor_made v c.args.locks.now) earlier r.1)) (sym is)
    (stops_none _ _ (λ d rest. inl (rest_stops v earlier m d shows.storage.next (c.is_stopped.ensures.stands tells (behind_of earlier m) stored d rest))))

pub returns-in-Some-clause-stored : goal.returns-in-Some-clause-stored
returns-in-Some-clause-stored g c tells m registers earlier shows regular stored =
    let v = c.args.storage.now.now in
    let going = when_false _ _ c.is_stopped.ensures.going (c.is_stopped.ensures.value ∙ c.requires.going) in
    let is = room_refused c.args.opened v c.args.locks.now m _ c.in-Some.refusal (finds c.args.opened v c.args.locks.now registers m shows going) (sym c.no_room.ensures.value ∙ c.in-Some.is) in
    subst (λ (r : Reply × Machine). IsStored (g.D.Disk.past c.args.storage.now.disk) v (behind_of earlier r.1)) (sym is) stored

pub returns-in-Some-clause-archives : goal.returns-in-Some-clause-archives
returns-in-Some-clause-archives g c tells m registers earlier shows regular stored archives =
    let v = c.args.storage.now.now in
    let going = when_false _ _ c.is_stopped.ensures.going (c.is_stopped.ensures.value ∙ c.requires.going) in
    let is = room_refused c.args.opened v c.args.locks.now m _ c.in-Some.refusal (finds c.args.opened v c.args.locks.now registers m shows going) (sym c.no_room.ensures.value ∙ c.in-Some.is) in
    subst (λ (r : Reply × Machine). ShowsArchives c.args.archives.now v.store.before r.1) (sym is) archives

-- ---- the images were asked for in vain

pub returns-in-Err-clause-answer : goal.returns-in-Err-clause-answer
returns-in-Err-clause-answer g c m registers shows regular =
    let v = c.args.storage.now.now in
    let w = c.ask_images.new.storage.now in
    fault_answer m (Shows c.args.opened w c.args.locks.now registers) (written_turn m c.args.owner c.args.rid c.args.before c.args.after c.args.done) c.in-Err.fault (λ e. ⊎_elim (λ f. absurd (let clash : Stopped ≡ Failed = sym e ∙ f in cc)) (λ f. absurd (let clash : Stopped ≡ NoMemory = sym e ∙ f in cc)) c.in-Err.ensures.only)
    (written_yields m c.args.owner c.args.rid c.args.before c.args.after c.args.done c.requires.done)
    (λ e. let never : Err c.in-Err.fault ≡ Err Failed → ⊥ = λ failed. absurd cc in loaded_shown c.args.opened v w c.args.locks.now registers m (c.in-Err.ensures.step never) (c.in-Err.ensures.log never) shows)

pub returns-in-Err-clause-turns : goal.returns-in-Err-clause-turns
returns-in-Err-clause-turns g c ok = loaded_turns c.args.opened c.args.storage.now.now c.ask_images.new.storage.now c.args.locks.now (c.in-Err.ensures.step (λ failed. let same : c.in-Err.fault ≡ Failed = cc in ok (ap (λ f. Err f) same))) c.requires.turns

pub returns-in-Err-clause-stops : goal.returns-in-Err-clause-stops
returns-in-Err-clause-stops g c tells m registers earlier shows regular stored =
    let v = c.args.storage.now.now in
    subst (λ (p : Past). Stops (g.D.Disk.past c.args.storage.now.disk) p (StandsWithinEither v (anchor_made v c.args.locks.now) earlier (written_turn m c.args.owner c.args.rid c.args.before c.args.after c.args.done).1)) (sym (c.in-Err.ensures.past tells))
    (stops_none _ _ (λ d rest. written_stands v (anchor_made v c.args.locks.now) earlier m c.args.owner c.args.rid c.args.before c.args.after c.args.done d stored.behind (rest_stops v earlier m d shows.storage.next (c.is_stopped.ensures.stands tells (behind_of earlier m) stored d rest))))

-- ---- the row changes

pub put-requires-clause-alone : goal.put-requires-clause-alone
put-requires-clause-alone g c =
    let same : table_of c.reserve.new.self ≡ table_of c.args.locks.now = ap (λ (l : List Seat). table_of l) c.in-Ok-reserve.ensures.ok ∙ reserved_table c.args.locks.now c.args.owner.session 2 in
    ap (λ (t : List (Option Holding)). holder_of t c.args.owner.session c.args.rid true) same ∙ c.requires.alone

pub put-requires-clause-turns : goal.put-requires-clause-turns
put-requires-clause-turns g c =
    let v = c.args.storage.now.now in
    let w = c.ask_images.new.storage.now in
    let step = c.in-Ok.ensures.step (λ failed. cc) in
    let same : table_of c.reserve.new.self ≡ table_of c.args.locks.now = ap (λ (l : List Seat). table_of l) c.in-Ok-reserve.ensures.ok ∙ reserved_table c.args.locks.now c.args.owner.session 2 in (
      c.args.opened,
      same_turns c.args.opened w c.args.locks.now c.reserve.new.self same (loaded_turns c.args.opened v w c.args.locks.now step c.requires.turns),
      same_more c.args.opened w c.args.locks.now c.reserve.new.self same (loaded_more c.args.opened v w c.args.locks.now step (c.no_room.ensures.more c.in-None.is)),
    )

pub put-requires-clause-broken : goal.put-requires-clause-broken
put-requires-clause-broken g c at e = c.in-Ok.ensures.broken at (ap (λ i. Ok i) e)

pub returns-in-Ok-put-clause-answer : goal.returns-in-Ok-put-clause-answer
returns-in-Ok-put-clause-answer g c m registers shows regular =
    let v = c.args.storage.now.now in
    let w = c.ask_images.new.storage.now in
    let going = when_false _ _ c.is_stopped.ensures.going (c.is_stopped.ensures.value ∙ c.requires.going) in
    let is = room_found c.args.opened v c.args.locks.now m _ (finds c.args.opened v c.args.locks.now registers m shows going) (sym c.no_room.ensures.value ∙ c.in-None.is) in
    let shown = reserved_shown c.args.opened v w c.args.locks.now c.reserve.new.self registers m c.args.owner.session c.requires.session (c.in-Ok.ensures.step (λ failed. cc)) (c.in-Ok.ensures.log (λ failed. cc)) c.in-Ok-reserve.ensures.ok shows in
    subst (λ (r : Reply × Machine). (c.args.done ≡ r.0) × Shows c.args.opened c.put.new.storage.now c.put.new.locks registers r.1) (sym is) (refl, c.in-Ok-put.ensures.shows c.args.opened m registers shown regular)

pub returns-in-Ok-put-clause-turns : goal.returns-in-Ok-put-clause-turns
returns-in-Ok-put-clause-turns g c ok =
    let v = c.args.storage.now.now in
    let w = c.ask_images.new.storage.now in
    let step = c.in-Ok.ensures.step (λ failed. cc) in
    let same : table_of c.reserve.new.self ≡ table_of c.args.locks.now = ap (λ (l : List Seat). table_of l) c.in-Ok-reserve.ensures.ok ∙ reserved_table c.args.locks.now c.args.owner.session 2 in
    c.in-Ok-put.ensures.turns c.args.opened (same_turns c.args.opened w c.args.locks.now c.reserve.new.self same (loaded_turns c.args.opened v w c.args.locks.now step c.requires.turns))
    (same_more c.args.opened w c.args.locks.now c.reserve.new.self same (loaded_more c.args.opened v w c.args.locks.now step (c.no_room.ensures.more c.in-None.is)))

pub returns-in-Ok-put-clause-archives : goal.returns-in-Ok-put-clause-archives
returns-in-Ok-put-clause-archives g c tells m registers earlier shows regular stored archives =
    let v = c.args.storage.now.now in
    let w = c.ask_images.new.storage.now in
    let going = when_false _ _ c.is_stopped.ensures.going (c.is_stopped.ensures.value ∙ c.requires.going) in
    let held = c.in-Ok.ensures.held (λ failed. cc) in
    let limit = c.in-Ok.ensures.limit (λ failed. cc) in
    let is = room_found c.args.opened v c.args.locks.now m _ (finds c.args.opened v c.args.locks.now registers m shows going) (sym c.no_room.ensures.value ∙ c.in-None.is) in
    let shown = reserved_shown c.args.opened v w c.args.locks.now c.reserve.new.self registers m c.args.owner.session c.requires.session (c.in-Ok.ensures.step (λ failed. cc)) (c.in-Ok.ensures.log (λ failed. cc)) c.in-Ok-reserve.ensures.ok shows in
    let asked : c.in-Ok.images ≡ images_asked c.args.archives.now w.store.before c.args.rid.space c.args.rid.page (stamp_in m c.args.rid.space c.args.rid.page) =
    c.in-Ok.ensures.value tells (behind_of earlier m) stored
    ∙ ap (λ (n : ℕ). images_asked c.args.archives.now v.store.before c.args.rid.space c.args.rid.page n) (stamp_of_page m c.args.rid.space c.args.rid.page)
    ∙ sym (room_asks c.args.archives.now v.store.before w.store.before c.args.rid.space c.args.rid.page (stamp_in m c.args.rid.space c.args.rid.page) held limit) in
    subst (λ (r : Reply × Machine). ShowsArchives c.put.new.archives c.put.new.storage.now.store.before r.1) (sym is)
    (c.in-Ok-put.ensures.archives tells c.args.opened m registers earlier shown regular (c.in-Ok.ensures.stored tells (behind_of earlier m) stored (λ failed. cc)) asked (room_shown c.args.archives.now v.store.before w.store.before m held limit archives))

pub returns-in-Ok-put-clause-stops : goal.returns-in-Ok-put-clause-stops
returns-in-Ok-put-clause-stops g c tells m registers earlier shows regular stored =
    let v = c.args.storage.now.now in
    let w = c.ask_images.new.storage.now in
    let going = when_false _ _ c.is_stopped.ensures.going (c.is_stopped.ensures.value ∙ c.requires.going) in
    let r = Change c.args.owner.txn c.args.rid c.args.before c.args.after in
    let step = c.in-Ok.ensures.step (λ failed. cc) in
    let is = room_found c.args.opened v c.args.locks.now m _ (finds c.args.opened v c.args.locks.now registers m shows going) (sym c.no_room.ensures.value ∙ c.in-None.is) in
    let shown = reserved_shown c.args.opened v w c.args.locks.now c.reserve.new.self registers m c.args.owner.session c.requires.session step (c.in-Ok.ensures.log (λ failed. cc)) c.in-Ok-reserve.ensures.ok shows in
    let same : table_of c.reserve.new.self ≡ table_of c.args.locks.now = ap (λ (l : List Seat). table_of l) c.in-Ok-reserve.ensures.ok ∙ reserved_table c.args.locks.now c.args.owner.session 2 in
    subst (λ (p : Past). Stops p (g.D.Disk.past c.put.new.storage.disk) (StandsWithinEither v (anchor_made v c.args.locks.now) earlier (written_turn m c.args.owner c.args.rid c.args.before c.args.after c.args.done).1)) (c.in-Ok.ensures.past tells)
    (subst (λ (x : Reply × Machine). Stops (g.D.Disk.past c.ask_images.new.storage.disk) (g.D.Disk.past c.put.new.storage.disk) (StandsWithinEither v (anchor_made v c.args.locks.now) earlier x.1)) (sym is)
    (stops_weaker _ _ _ _ (λ d s. either_changed v (anchor_made v c.args.locks.now) earlier c.args.owner.entry c.args.rid r m d (subst (λ (x : Installation). StandsWithinEither x (anchor_made x c.args.locks.now) earlier (append r m) d) step s))
    (subst (λ (a : Anchor). Stops (g.D.Disk.past c.ask_images.new.storage.disk) (g.D.Disk.past c.put.new.storage.disk) (StandsWithinEither w a earlier (append r m))) (same_anchor w c.args.locks.now c.reserve.new.self same)
    (c.put.ensures.stops tells c.args.opened m registers earlier shown regular (c.in-Ok.ensures.stored tells (behind_of earlier m) stored (λ failed. cc))))))

pub returns-in-Ok-put-clause-stored : goal.returns-in-Ok-put-clause-stored
returns-in-Ok-put-clause-stored g c tells m registers earlier shows regular stored =
    let v = c.args.storage.now.now in
    let w = c.ask_images.new.storage.now in
    let going = when_false _ _ c.is_stopped.ensures.going (c.is_stopped.ensures.value ∙ c.requires.going) in
    let r = Change c.args.owner.txn c.args.rid c.args.before c.args.after in
    let is = room_found c.args.opened v c.args.locks.now m _ (finds c.args.opened v c.args.locks.now registers m shows going) (sym c.no_room.ensures.value ∙ c.in-None.is) in
    let shown = reserved_shown c.args.opened v w c.args.locks.now c.reserve.new.self registers m c.args.owner.session c.requires.session (c.in-Ok.ensures.step (λ failed. cc)) (c.in-Ok.ensures.log (λ failed. cc)) c.in-Ok-reserve.ensures.ok shows in
    subst (λ (x : Reply × Machine). IsStored (g.D.Disk.past c.put.new.storage.disk) c.put.new.storage.now (behind_of earlier x.1)) (sym is)
    (subst (λ (b : Behind). IsStored (g.D.Disk.past c.put.new.storage.disk) c.put.new.storage.now b) (sym (behind_changed earlier c.args.owner.entry c.args.rid r m))
    (c.in-Ok-put.ensures.stored tells c.args.opened m registers earlier shown regular (c.in-Ok.ensures.stored tells (behind_of earlier m) stored (λ failed. cc))))

-- ---- memory for a lock was refused

pub returns-in-Err-reserve-clause-turns : goal.returns-in-Err-reserve-clause-turns
returns-in-Err-reserve-clause-turns g c ok =
    let turns = loaded_turns c.args.opened c.args.storage.now.now c.ask_images.new.storage.now c.args.locks.now (c.in-Ok.ensures.step (λ failed. cc)) c.requires.turns in
    subst (λ (l : List Seat). HasTurns c.args.opened c.ask_images.new.storage.now l) (sym c.in-Err-reserve.ensures.unchanged) turns

pub returns-in-Err-reserve-clause-archives : goal.returns-in-Err-reserve-clause-archives
returns-in-Err-reserve-clause-archives g c tells m registers earlier shows regular stored archives =
    room_shown c.args.archives.now c.args.storage.now.now.store.before c.ask_images.new.storage.now.store.before m (c.in-Ok.ensures.held (λ failed. cc)) (c.in-Ok.ensures.limit (λ failed. cc)) archives

pub returns-in-Err-reserve-clause-stops : goal.returns-in-Err-reserve-clause-stops
returns-in-Err-reserve-clause-stops g c tells m registers earlier shows regular stored =
    let v = c.args.storage.now.now in
    subst (λ (p : Past). Stops (g.D.Disk.past c.args.storage.now.disk) p (StandsWithinEither v (anchor_made v c.args.locks.now) earlier (written_turn m c.args.owner c.args.rid c.args.before c.args.after c.args.done).1)) (sym (c.in-Ok.ensures.past tells))
    (stops_none _ _ (λ d rest. written_stands v (anchor_made v c.args.locks.now) earlier m c.args.owner c.args.rid c.args.before c.args.after c.args.done d stored.behind (rest_stops v earlier m d shows.storage.next (c.is_stopped.ensures.stands tells (behind_of earlier m) stored d rest))))

-- ---- a call failed as the row changed

pub returns-in-Err-put-clause-answer : goal.returns-in-Err-put-clause-answer
returns-in-Err-put-clause-answer g c m registers shows regular =
    subst (λ (f : StorageFault). Answers m (Shows c.args.opened c.put.new.storage.now c.put.new.locks registers) (written_turn m c.args.owner c.args.rid c.args.before c.args.after c.args.done) (Err f)) (sym c.in-Err-put.ensures.only) (written_yields m c.args.owner c.args.rid c.args.before c.args.after c.args.done c.requires.done)

pub returns-in-Err-put-clause-archives : goal.returns-in-Err-put-clause-archives
returns-in-Err-put-clause-archives g c tells m registers earlier shows regular stored archives =
    leaves_same m (written_turn m c.args.owner c.args.rid c.args.before c.args.after c.args.done).1 (λ n. ShowsArchives c.put.new.archives c.put.new.storage.now.store.before n) c.in-Err-put.fault (λ never. absurd (never c.in-Err-put.ensures.only))

pub returns-in-Err-put-clause-stops : goal.returns-in-Err-put-clause-stops
returns-in-Err-put-clause-stops g c tells m registers earlier shows regular stored =
    let v = c.args.storage.now.now in
    let w = c.ask_images.new.storage.now in
    let going = when_false _ _ c.is_stopped.ensures.going (c.is_stopped.ensures.value ∙ c.requires.going) in
    let r = Change c.args.owner.txn c.args.rid c.args.before c.args.after in
    let step = c.in-Ok.ensures.step (λ failed. cc) in
    let is = room_found c.args.opened v c.args.locks.now m _ (finds c.args.opened v c.args.locks.now registers m shows going) (sym c.no_room.ensures.value ∙ c.in-None.is) in
    let shown = reserved_shown c.args.opened v w c.args.locks.now c.reserve.new.self registers m c.args.owner.session c.requires.session step (c.in-Ok.ensures.log (λ failed. cc)) c.in-Ok-reserve.ensures.ok shows in
    let same : table_of c.reserve.new.self ≡ table_of c.args.locks.now = ap (λ (l : List Seat). table_of l) c.in-Ok-reserve.ensures.ok ∙ reserved_table c.args.locks.now c.args.owner.session 2 in
    subst (λ (p : Past). Stops p (g.D.Disk.past c.put.new.storage.disk) (StandsWithinEither v (anchor_made v c.args.locks.now) earlier (written_turn m c.args.owner c.args.rid c.args.before c.args.after c.args.done).1)) (c.in-Ok.ensures.past tells)
    (subst (λ (x : Reply × Machine). Stops (g.D.Disk.past c.ask_images.new.storage.disk) (g.D.Disk.past c.put.new.storage.disk) (StandsWithinEither v (anchor_made v c.args.locks.now) earlier x.1)) (sym is)
    (stops_weaker _ _ _ _ (λ d s. either_changed v (anchor_made v c.args.locks.now) earlier c.args.owner.entry c.args.rid r m d (subst (λ (x : Installation). StandsWithinEither x (anchor_made x c.args.locks.now) earlier (append r m) d) step s))
    (subst (λ (a : Anchor). Stops (g.D.Disk.past c.ask_images.new.storage.disk) (g.D.Disk.past c.put.new.storage.disk) (StandsWithinEither w a earlier (append r m))) (same_anchor w c.args.locks.now c.reserve.new.self same)
    (c.put.ensures.stops tells c.args.opened m registers earlier shown regular (c.in-Ok.ensures.stored tells (behind_of earlier m) stored (λ failed. cc))))))

-- ---- what is left as it was

pub returns-in-Some-clause-goes : goal.returns-in-Some-clause-goes
returns-in-Some-clause-goes g c ok = goes_same c.args.storage.now.now c.requires.going

pub returns-in-Err-clause-goes : goal.returns-in-Err-clause-goes
returns-in-Err-clause-goes g c ok = goes_beside c.args.storage.now.now c.ask_images.new.storage.now c.requires.going (c.in-Err.ensures.step (λ failed. let same : c.in-Err.fault ≡ Failed = cc in ok (ap (λ f. Err f) same)))

pub returns-in-Err-reserve-clause-goes : goal.returns-in-Err-reserve-clause-goes
returns-in-Err-reserve-clause-goes g c ok = goes_beside c.args.storage.now.now c.ask_images.new.storage.now c.requires.going (c.in-Ok.ensures.step (λ failed. cc))

pub returns-in-Err-reserve-clause-places : goal.returns-in-Err-reserve-clause-places
returns-in-Err-reserve-clause-places g c test are there ok = subst (λ (l : List Seat). ArePending test l) (sym c.in-Err-reserve.ensures.unchanged) are

pub returns-in-Ok-put-clause-goes : goal.returns-in-Ok-put-clause-goes
returns-in-Ok-put-clause-goes g c ok =
    let v = c.args.storage.now.now in
    let w = c.ask_images.new.storage.now in
    goes_both v w c.put.new.storage.now (goes_beside v w c.requires.going (c.in-Ok.ensures.step (λ failed. cc))) c.in-Ok-put.ensures.goes

pub returns-in-Ok-put-clause-places : goal.returns-in-Ok-put-clause-places
returns-in-Ok-put-clause-places g c test are there ok =
    c.in-Ok-put.ensures.places test (subst (λ (l : List Seat). ArePending test l) (sym c.in-Ok-reserve.ensures.ok) (reserved_pending test c.args.locks.now c.args.owner.session c.requires.session c.is_open.ensures.sessions are 2)) there

pub returns-in-Err-clause-unwritten : goal.returns-in-Err-clause-unwritten
returns-in-Err-clause-unwritten g c ok = c.in-Err.ensures.step (λ failed. let same : c.in-Err.fault ≡ Failed = cc in ok (ap (λ f. Err f) same))

pub returns-in-Err-reserve-clause-unwritten : goal.returns-in-Err-reserve-clause-unwritten
returns-in-Err-reserve-clause-unwritten g c ok = c.in-Ok.ensures.step (λ failed. cc)

pub returns-in-Err-put-clause-unwritten : goal.returns-in-Err-put-clause-unwritten
returns-in-Err-put-clause-unwritten g c ok = absurd (ok (ap (λ f. Err f) c.in-Err-put.ensures.only))

pub returns-in-Err-put-clause-untouched : goal.returns-in-Err-put-clause-untouched
returns-in-Err-put-clause-untouched g c ok = absurd (ok (ap (λ f. Err f) c.in-Err-put.ensures.only))
