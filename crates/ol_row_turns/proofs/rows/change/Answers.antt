use Rattle.std.specs.Prelude.{Err, List, None, OnOk, Option, Some, false, true, ℕ, ◌+◌, ◌≡◌}
use Rattle.std.proofs.Common.{ap, inl, refl, subst, sym, ⊎_elim, ◌∙◌}
use Rattle.ol_values.specs.declared.event.Reply.{Reply}
use Rattle.ol_values.specs.declared.event.Reply.TheVariants.{Changed, NoRow, RowLocked}
use Rattle.ol_values.specs.declared.row.Row.{Row}
use Rattle.ol_values.specs.Config.{Config, has_place}
use Rattle.ol_model.specs.Machine.{Machine, row_in}
use Rattle.ol_before.specs.Images.{Captures}
use Rattle.ol_ports.proofs.StopLaws.{stops_none, stops_weaker}
use Rattle.ol_ports.specs.Disk.{Past}
use Rattle.ol_ports.specs.Stops.{Stops}
use Rattle.ol_store.specs.Stores.{Store}
use Rattle.ol_storage.specs.Installation.{Installation, with_store}
use Rattle.ol_storage.specs.declared.storage.StorageFault.TheVariants.{Bad, Failed}
use Rattle.ol_storage.specs.Storing.{IsStored}
use Rattle.ol_engine.specs.Parts.{Shows, anchor_made, behind_of}
use Rattle.ol_engine.specs.Turns.{Answers, StandsWithinEither}
use Rattle.ol_running.specs.Running.{ShowsArchives}
use Rattle.ol_engine.proofs.Stops.{rest_stops}
use Rattle.ol_row_turns.specs.Turns.{Leaves, row_turn, written_turn}
use Rattle.ol_row_turns.proofs.Changes.{empty_turn, restored_err, fault_answer, found_turn, leaves_same, loaded_shown, loaded_turns, locked_turn, none_found, row_read, row_stands, row_yields}
use Rattle.ol_engine.specs.Parts.{GoesOn}
use Rattle.ol_engine.proofs.Going.{goes_beside, goes_both, goes_same}
use Rattle.ol_row_turns.proofs.rows.change.Goals as goal

pub returns-in-Some-clause-answer : goal.returns-in-Some-clause-answer
returns-in-Some-clause-answer g c tells m registers earlier shows regular stored =
    let is = locked_turn c.args.locks.now registers m c.args.owner c.args.rid c.args.after c.in-Some.holder regular shows.sessions (sym c.holder.ensures ∙ c.in-Some.is) in
    subst (λ (r : Reply × Machine). (RowLocked c.in-Some.holder ≡ r.0) × Shows c.args.opened c.args.storage.now.now c.args.locks.now registers r.1) (sym is) (refl, shows)

pub returns-in-Some-clause-stops : goal.returns-in-Some-clause-stops
returns-in-Some-clause-stops g c tells m registers earlier shows regular stored =
    let v = c.args.storage.now.now in
    let is = locked_turn c.args.locks.now registers m c.args.owner c.args.rid c.args.after c.in-Some.holder regular shows.sessions (sym c.holder.ensures ∙ c.in-Some.is) in
    subst (λ (r : Reply × Machine). Stops (g.D.Disk.past c.args.storage.now.disk) (g.D.Disk.past c.args.storage.now.disk) (StandsWithinEither v (anchor_made v c.args.locks.now) earlier r.1)) (sym is)
    (stops_none _ _ (λ d rest. inl (rest_stops v earlier m d shows.storage.next (c.is_stopped-stands.ensures.stands tells (behind_of earlier m) stored d rest))))

pub returns-in-Some-clause-stored : goal.returns-in-Some-clause-stored
returns-in-Some-clause-stored g c tells m registers earlier shows regular stored =
    let is = locked_turn c.args.locks.now registers m c.args.owner c.args.rid c.args.after c.in-Some.holder regular shows.sessions (sym c.holder.ensures ∙ c.in-Some.is) in
    subst (λ (r : Reply × Machine). IsStored (g.D.Disk.past c.args.storage.now.disk) c.args.storage.now.now (behind_of earlier r.1)) (sym is) stored

pub write_row-requires-clause-turns : goal.write_row-requires-clause-turns
write_row-requires-clause-turns g c = loaded_turns c.args.opened c.args.storage.now.now c.read.new.self.now c.args.locks.now c.in-Ok-Some.ensures.step c.requires.turns

pub returns-in-Ok-Some-clause-answer : goal.returns-in-Ok-Some-clause-answer
returns-in-Ok-Some-clause-answer g c tells m registers earlier shows regular stored =
    let v = c.args.storage.now.now in
    let w = c.read.new.self.now in
    let log = ap (λ (s : Store). s.log) c.in-Ok-Some.ensures.loaded.rest in
    let place = subst (λ (x : Config). has_place x c.args.rid ≡ true) shows.storage.config c.requires.place in
    let row : row_in m c.args.rid ≡ Some c.in-Ok-Some.before = sym (row_read v.anchor earlier m c.args.rid place) ∙ sym (c.in-Ok-Some.ensures.row tells (behind_of earlier m) stored c.requires.up) ∙ c.in-Ok-Some.field-0-is in
    let is = found_turn c.args.opened v c.args.locks.now registers m c.args.owner c.args.rid c.in-Ok-Some.before c.args.after regular shows (sym c.holder.ensures ∙ none_found c.holder.result c.in_default.not-Some) row in
    subst (λ (x : Reply × Machine). Answers m (Shows c.args.opened c.write_row.new.storage.now c.write_row.new.locks registers) x c.write_row.result) (sym is) (c.write_row.ensures.answer m registers (loaded_shown c.args.opened v w c.args.locks.now registers m c.in-Ok-Some.ensures.step log shows) regular)

pub returns-in-Ok-Some-clause-archives : goal.returns-in-Ok-Some-clause-archives
returns-in-Ok-Some-clause-archives g c tells m registers earlier shows regular stored archives =
    let v = c.args.storage.now.now in
    let w = c.read.new.self.now in
    let log = ap (λ (s : Store). s.log) c.in-Ok-Some.ensures.loaded.rest in
    let before = ap (λ (s : Store). s.before) c.in-Ok-Some.ensures.loaded.rest in
    let place = subst (λ (x : Config). has_place x c.args.rid ≡ true) shows.storage.config c.requires.place in
    let row : row_in m c.args.rid ≡ Some c.in-Ok-Some.before = sym (row_read v.anchor earlier m c.args.rid place) ∙ sym (c.in-Ok-Some.ensures.row tells (behind_of earlier m) stored c.requires.up) ∙ c.in-Ok-Some.field-0-is in
    let is = found_turn c.args.opened v c.args.locks.now registers m c.args.owner c.args.rid c.in-Ok-Some.before c.args.after regular shows (sym c.holder.ensures ∙ none_found c.holder.result c.in_default.not-Some) row in
    subst (λ (x : Reply × Machine). Leaves m (λ n. ShowsArchives c.write_row.new.archives c.write_row.new.storage.now.store.before n) x.1 c.write_row.result) (sym is)
    (c.write_row.ensures.archives tells m registers earlier (loaded_shown c.args.opened v w c.args.locks.now registers m c.in-Ok-Some.ensures.step log shows) regular (c.in-Ok-Some.ensures.stored tells (behind_of earlier m) stored c.requires.up)
    (subst (λ (b : Captures). ShowsArchives c.args.archives.now b m) (sym before) archives))

pub returns-in-Ok-Some-clause-stops : goal.returns-in-Ok-Some-clause-stops
returns-in-Ok-Some-clause-stops g c tells m registers earlier shows regular stored =
    let v = c.args.storage.now.now in
    let w = c.read.new.self.now in
    let log = ap (λ (s : Store). s.log) c.in-Ok-Some.ensures.loaded.rest in
    let place = subst (λ (x : Config). has_place x c.args.rid ≡ true) shows.storage.config c.requires.place in
    let row : row_in m c.args.rid ≡ Some c.in-Ok-Some.before = sym (row_read v.anchor earlier m c.args.rid place) ∙ sym (c.in-Ok-Some.ensures.row tells (behind_of earlier m) stored c.requires.up) ∙ c.in-Ok-Some.field-0-is in
    let shown = loaded_shown c.args.opened v w c.args.locks.now registers m c.in-Ok-Some.ensures.step log shows in
    let held = c.in-Ok-Some.ensures.stored tells (behind_of earlier m) stored c.requires.up in
    let is = found_turn c.args.opened v c.args.locks.now registers m c.args.owner c.args.rid c.in-Ok-Some.before c.args.after regular shows (sym c.holder.ensures ∙ none_found c.holder.result c.in_default.not-Some) row in
    subst (λ (x : Reply × Machine). Stops (g.D.Disk.past c.args.storage.now.disk) (g.D.Disk.past c.write_row.new.storage.disk) (StandsWithinEither v (anchor_made v c.args.locks.now) earlier x.1)) (sym is)
    (subst (λ (p : Past). Stops p (g.D.Disk.past c.write_row.new.storage.disk) (StandsWithinEither v (anchor_made v c.args.locks.now) earlier (written_turn m c.args.owner c.args.rid (Some c.in-Ok-Some.before) c.args.after (Changed c.args.rid)).1)) (c.in-Ok-Some.ensures.past tells)
    (stops_weaker _ _ _ _ (λ d s. subst (λ (x : Installation). StandsWithinEither x (anchor_made x c.args.locks.now) earlier (written_turn m c.args.owner c.args.rid (Some c.in-Ok-Some.before) c.args.after (Changed c.args.rid)).1 d) c.in-Ok-Some.ensures.step s) (c.write_row.ensures.stops tells m registers earlier shown regular held)))

pub returns-in-Ok-Some-clause-stored : goal.returns-in-Ok-Some-clause-stored
returns-in-Ok-Some-clause-stored g c tells m registers earlier shows regular stored =
    let v = c.args.storage.now.now in
    let w = c.read.new.self.now in
    let log = ap (λ (s : Store). s.log) c.in-Ok-Some.ensures.loaded.rest in
    let place = subst (λ (x : Config). has_place x c.args.rid ≡ true) shows.storage.config c.requires.place in
    let row : row_in m c.args.rid ≡ Some c.in-Ok-Some.before = sym (row_read v.anchor earlier m c.args.rid place) ∙ sym (c.in-Ok-Some.ensures.row tells (behind_of earlier m) stored c.requires.up) ∙ c.in-Ok-Some.field-0-is in
    let is = found_turn c.args.opened v c.args.locks.now registers m c.args.owner c.args.rid c.in-Ok-Some.before c.args.after regular shows (sym c.holder.ensures ∙ none_found c.holder.result c.in_default.not-Some) row in
    subst (λ (x : Reply × Machine). OnOk c.write_row.result (IsStored (g.D.Disk.past c.write_row.new.storage.disk) c.write_row.new.storage.now (behind_of earlier x.1))) (sym is)
    (c.write_row.ensures.stored tells m registers earlier (loaded_shown c.args.opened v w c.args.locks.now registers m c.in-Ok-Some.ensures.step log shows) regular (c.in-Ok-Some.ensures.stored tells (behind_of earlier m) stored c.requires.up))

pub returns-in-Ok-Some-clause-good : goal.returns-in-Ok-Some-clause-good
returns-in-Ok-Some-clause-good g c tells m earlier stored chunk page e = ⊎_elim (λ clash. absurd cc) (λ clash. absurd cc) (c.write_row.ensures.only _ e)

pub returns-in-Ok-None-clause-answer : goal.returns-in-Ok-None-clause-answer
returns-in-Ok-None-clause-answer g c tells m registers earlier shows regular stored =
    let v = c.args.storage.now.now in
    let w = c.read.new.self.now in
    let log = ap (λ (s : Store). s.log) c.in-Ok-None.ensures.loaded.rest in
    let place = subst (λ (x : Config). has_place x c.args.rid ≡ true) shows.storage.config c.requires.place in
    let row : row_in m c.args.rid ≡ None = sym (row_read v.anchor earlier m c.args.rid place) ∙ sym (c.in-Ok-None.ensures.row tells (behind_of earlier m) stored c.requires.up) ∙ c.in-Ok-None.field-0-is in
    let is = empty_turn c.args.locks.now registers m c.args.owner c.args.rid c.args.after regular shows.sessions (sym c.holder.ensures ∙ none_found c.holder.result c.in_default.not-Some) row in
    subst (λ (r : Reply × Machine). (NoRow ≡ r.0) × Shows c.args.opened w c.args.locks.now registers r.1) (sym is) (refl, loaded_shown c.args.opened v w c.args.locks.now registers m c.in-Ok-None.ensures.step log shows)

pub returns-in-Ok-None-clause-turns : goal.returns-in-Ok-None-clause-turns
returns-in-Ok-None-clause-turns g c ok = loaded_turns c.args.opened c.args.storage.now.now c.read.new.self.now c.args.locks.now c.in-Ok-None.ensures.step c.requires.turns

pub returns-in-Ok-None-clause-stops : goal.returns-in-Ok-None-clause-stops
returns-in-Ok-None-clause-stops g c tells m registers earlier shows regular stored =
    let v = c.args.storage.now.now in
    let place = subst (λ (x : Config). has_place x c.args.rid ≡ true) shows.storage.config c.requires.place in
    let row : row_in m c.args.rid ≡ None = sym (row_read v.anchor earlier m c.args.rid place) ∙ sym (c.in-Ok-None.ensures.row tells (behind_of earlier m) stored c.requires.up) ∙ c.in-Ok-None.field-0-is in
    let is = empty_turn c.args.locks.now registers m c.args.owner c.args.rid c.args.after regular shows.sessions (sym c.holder.ensures ∙ none_found c.holder.result c.in_default.not-Some) row in
    subst (λ (p : Past). Stops (g.D.Disk.past c.args.storage.now.disk) p (StandsWithinEither v (anchor_made v c.args.locks.now) earlier (row_turn m c.args.owner c.args.rid c.args.after).1)) (sym (c.in-Ok-None.ensures.past tells))
    (subst (λ (r : Reply × Machine). Stops (g.D.Disk.past c.args.storage.now.disk) (g.D.Disk.past c.args.storage.now.disk) (StandsWithinEither v (anchor_made v c.args.locks.now) earlier r.1)) (sym is)
    (stops_none _ _ (λ d rest. inl (rest_stops v earlier m d shows.storage.next (c.is_stopped-stands.ensures.stands tells (behind_of earlier m) stored d rest)))))

pub returns-in-Ok-None-clause-stored : goal.returns-in-Ok-None-clause-stored
returns-in-Ok-None-clause-stored g c tells m registers earlier shows regular stored =
    let v = c.args.storage.now.now in
    let place = subst (λ (x : Config). has_place x c.args.rid ≡ true) shows.storage.config c.requires.place in
    let row : row_in m c.args.rid ≡ None = sym (row_read v.anchor earlier m c.args.rid place) ∙ sym (c.in-Ok-None.ensures.row tells (behind_of earlier m) stored c.requires.up) ∙ c.in-Ok-None.field-0-is in
    let is = empty_turn c.args.locks.now registers m c.args.owner c.args.rid c.args.after regular shows.sessions (sym c.holder.ensures ∙ none_found c.holder.result c.in_default.not-Some) row in
    subst (λ (r : Reply × Machine). IsStored (g.D.Disk.past c.read.new.self.disk) c.read.new.self.now (behind_of earlier r.1)) (sym is) (c.in-Ok-None.ensures.stored tells (behind_of earlier m) stored c.requires.up)

pub returns-in-Err-clause-answer : goal.returns-in-Err-clause-answer
returns-in-Err-clause-answer g c tells m registers earlier shows regular stored =
    let v = c.args.storage.now.now in
    fault_answer m (Shows c.args.opened c.read.new.self.now c.args.locks.now registers) (row_turn m c.args.owner c.args.rid c.args.after) c.in-Err.fault (λ e. c.in-Err.ensures.only (ap (λ f. Err f) e)) (row_yields m c.args.owner c.args.rid c.args.after)
    (λ e. subst (λ (x : Installation). Shows c.args.opened x c.args.locks.now registers m) (sym (c.in-Err.ensures.unchanged (λ failed. absurd cc))) shows)

pub returns-in-Err-clause-stops : goal.returns-in-Err-clause-stops
returns-in-Err-clause-stops g c tells m registers earlier shows regular stored =
    let v = c.args.storage.now.now in
    subst (λ (p : Past). Stops (g.D.Disk.past c.args.storage.now.disk) p (StandsWithinEither v (anchor_made v c.args.locks.now) earlier (row_turn m c.args.owner c.args.rid c.args.after).1)) (sym (c.in-Err.ensures.past tells))
    (stops_none _ _ (λ d rest. row_stands v (anchor_made v c.args.locks.now) earlier m c.args.owner c.args.rid c.args.after d stored.behind (rest_stops v earlier m d shows.storage.next (c.is_stopped-stands.ensures.stands tells (behind_of earlier m) stored d rest))))

pub returns-in-Err-clause-good : goal.returns-in-Err-clause-good
returns-in-Err-clause-good g c tells m earlier stored chunk page e =
    let same : c.in-Err.fault ≡ Bad chunk page = cc in
    c.in-Err.ensures.good tells (behind_of earlier m) stored c.requires.up chunk page (ap (λ f. Err f) same)

pub returns-in-Some-clause-archives : goal.returns-in-Some-clause-archives
returns-in-Some-clause-archives g c tells m registers earlier shows regular stored archives =
    let is = locked_turn c.args.locks.now registers m c.args.owner c.args.rid c.args.after c.in-Some.holder regular shows.sessions (sym c.holder.ensures ∙ c.in-Some.is) in
    subst (λ (r : Reply × Machine). ShowsArchives c.args.archives.now c.args.storage.now.now.store.before r.1) (sym is) archives

pub returns-in-Ok-None-clause-archives : goal.returns-in-Ok-None-clause-archives
returns-in-Ok-None-clause-archives g c tells m registers earlier shows regular stored archives =
    let v = c.args.storage.now.now in
    let before = ap (λ (s : Store). s.before) c.in-Ok-None.ensures.loaded.rest in
    let place = subst (λ (x : Config). has_place x c.args.rid ≡ true) shows.storage.config c.requires.place in
    let row : row_in m c.args.rid ≡ None = sym (row_read v.anchor earlier m c.args.rid place) ∙ sym (c.in-Ok-None.ensures.row tells (behind_of earlier m) stored c.requires.up) ∙ c.in-Ok-None.field-0-is in
    let is = empty_turn c.args.locks.now registers m c.args.owner c.args.rid c.args.after regular shows.sessions (sym c.holder.ensures ∙ none_found c.holder.result c.in_default.not-Some) row in
    subst (λ (r : Reply × Machine). ShowsArchives c.args.archives.now c.read.new.self.now.store.before r.1) (sym is) (subst (λ (b : Captures). ShowsArchives c.args.archives.now b m) (sym before) archives)

pub returns-in-Err-clause-archives : goal.returns-in-Err-clause-archives
returns-in-Err-clause-archives g c tells m registers earlier shows regular stored archives =
    leaves_same m (row_turn m c.args.owner c.args.rid c.args.after).1 (λ n. ShowsArchives c.args.archives.now c.read.new.self.now.store.before n) c.in-Err.fault
    (λ never. let same = c.in-Err.ensures.unchanged (λ failed. let fault : c.in-Err.fault ≡ Failed = cc in never fault) in subst (λ (x : Installation). ShowsArchives c.args.archives.now x.store.before m) (sym same) archives)

-- ---- what is left as it was

pub returns-in-Some-clause-goes : goal.returns-in-Some-clause-goes
returns-in-Some-clause-goes g c ok = goes_same c.args.storage.now.now c.requires.going

pub returns-in-Ok-Some-clause-goes : goal.returns-in-Ok-Some-clause-goes
returns-in-Ok-Some-clause-goes g c ok =
    let v = c.args.storage.now.now in
    let w = c.read.new.self.now in
    goes_both v w c.write_row.new.storage.now (goes_beside v w c.requires.going c.in-Ok-Some.ensures.step) (c.write_row.ensures.goes ok)

pub returns-in-Ok-None-clause-goes : goal.returns-in-Ok-None-clause-goes
returns-in-Ok-None-clause-goes g c ok = goes_beside c.args.storage.now.now c.read.new.self.now c.requires.going c.in-Ok-None.ensures.step

pub returns-in-Err-clause-goes : goal.returns-in-Err-clause-goes
returns-in-Err-clause-goes g c ok =
    let same = c.in-Err.ensures.unchanged (λ failed. let fault : c.in-Err.fault ≡ Failed = cc in ok (ap (λ f. Err f) fault)) in
    subst (λ (x : Installation). GoesOn c.args.storage.now.now x) (sym same) (goes_same c.args.storage.now.now c.requires.going)

pub returns-in-Ok-Some-clause-unwritten : goal.returns-in-Ok-Some-clause-unwritten
returns-in-Ok-Some-clause-unwritten g c = restored_err c.args.storage.now.now c.read.new.self.now c.write_row.new.storage.now c.write_row.result c.in-Ok-Some.ensures.step c.write_row.ensures.unwritten

pub returns-in-Err-clause-unwritten : goal.returns-in-Err-clause-unwritten
returns-in-Err-clause-unwritten g c ok =
    let same = c.in-Err.ensures.unchanged (λ failed. let fault : c.in-Err.fault ≡ Failed = cc in ok (ap (λ f. Err f) fault)) in
    subst (λ (x : Installation). x ≡ with_store c.args.storage.now.now x.store) (sym same) refl
