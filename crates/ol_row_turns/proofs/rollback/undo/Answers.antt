use Rattle.std.specs.Prelude.{OnOk, None, Some, ℕ, ◌+◌, ◌≡◌}
use Rattle.std.proofs.Common.{ap, inl, refl, subst, sym, ◌∙◌}
use Rattle.ol_values.specs.declared.event.Reply.{Reply}
use Rattle.ol_values.specs.declared.event.Reply.TheVariants.{NoTxn}
use Rattle.ol_values.specs.declared.record.Record.TheVariants.{Undo}
use Rattle.ol_model.specs.Machine.{Machine}
use Rattle.ol_ports.proofs.StopLaws.{stops_none, stops_weaker}
use Rattle.ol_ports.specs.Stops.{Stops}
use Rattle.ol_running.specs.Running.{ShowsArchives}
use Rattle.ol_storage.specs.Behind.{Behind}
use Rattle.ol_storage.specs.Storing.{IsStored}
use Rattle.ol_engine.specs.Parts.{Shows, anchor_made, behind_of}
use Rattle.ol_engine.specs.Turns.{Answers, StandsWithinEither}
use Rattle.ol_engine.proofs.Stops.{behind_changed, either_changed, rest_stops}
use Rattle.ol_row_turns.specs.Turns.{Leaves, undone_turn}
use Rattle.ol_row_turns.proofs.TakenBack.{back_turn, idle_turn, spent_turn}
use Rattle.ol_engine.proofs.Going.{goes_same}
use Rattle.ol_row_turns.proofs.rollback.undo.Goals as goal

-- ---- no open transaction

pub returns-in-None-clause-stops : goal.returns-in-None-clause-stops
returns-in-None-clause-stops g c tells opened m registers earlier shows regular stored =
    let v = c.args.storage.now.now in
    let is = idle_turn c.args.locks.now registers m c.args.session c.args.entry c.requires.session shows.sessions (sym c.txn.ensures ∙ c.in-None.is) in
    subst (λ (r : Reply × Machine). Stops (g.D.Disk.past c.args.storage.now.disk) (g.D.Disk.past c.args.storage.now.disk) (StandsWithinEither v (anchor_made v c.args.locks.now) earlier r.1)) (sym is)
    (stops_none _ _ (λ d rest. inl (rest_stops v earlier m d shows.storage.next (c.is_stopped-stands.ensures.stands tells (behind_of earlier m) stored d rest))))

-- ---- nothing to take back

pub returns-in-None-last-clause-answer : goal.returns-in-None-last-clause-answer
returns-in-None-last-clause-answer g c opened m registers shows regular =
    let is = spent_turn c.args.locks.now registers m c.args.session c.args.entry c.in-Some.txn c.requires.session regular shows.sessions (sym c.txn.ensures ∙ c.in-Some.is) (sym c.last.ensures ∙ c.in-None-last.is) in
    subst (λ (r : Reply × Machine). (NoTxn ≡ r.0) × Shows opened c.args.storage.now.now c.args.locks.now registers r.1) (sym is) (refl, shows)

pub returns-in-None-last-clause-archives : goal.returns-in-None-last-clause-archives
returns-in-None-last-clause-archives g c tells opened m registers earlier shows regular stored archives =
    let is = spent_turn c.args.locks.now registers m c.args.session c.args.entry c.in-Some.txn c.requires.session regular shows.sessions (sym c.txn.ensures ∙ c.in-Some.is) (sym c.last.ensures ∙ c.in-None-last.is) in
    subst (λ (r : Reply × Machine). ShowsArchives c.args.archives.now c.args.storage.now.now.store.before r.1) (sym is) archives

pub returns-in-None-last-clause-stops : goal.returns-in-None-last-clause-stops
returns-in-None-last-clause-stops g c tells opened m registers earlier shows regular stored =
    let v = c.args.storage.now.now in
    let is = spent_turn c.args.locks.now registers m c.args.session c.args.entry c.in-Some.txn c.requires.session regular shows.sessions (sym c.txn.ensures ∙ c.in-Some.is) (sym c.last.ensures ∙ c.in-None-last.is) in
    subst (λ (r : Reply × Machine). Stops (g.D.Disk.past c.args.storage.now.disk) (g.D.Disk.past c.args.storage.now.disk) (StandsWithinEither v (anchor_made v c.args.locks.now) earlier r.1)) (sym is)
    (stops_none _ _ (λ d rest. inl (rest_stops v earlier m d shows.storage.next (c.is_stopped-stands.ensures.stands tells (behind_of earlier m) stored d rest))))

pub returns-in-None-last-clause-stored : goal.returns-in-None-last-clause-stored
returns-in-None-last-clause-stored g c tells opened m registers earlier shows regular stored =
    let is = spent_turn c.args.locks.now registers m c.args.session c.args.entry c.in-Some.txn c.requires.session regular shows.sessions (sym c.txn.ensures ∙ c.in-Some.is) (sym c.last.ensures ∙ c.in-None-last.is) in
    subst (λ (r : Reply × Machine). IsStored (g.D.Disk.past c.args.storage.now.disk) c.args.storage.now.now (behind_of earlier r.1)) (sym is) stored

-- ---- the newest change is taken back

pub returns-clause-answer : goal.returns-clause-answer
returns-clause-answer g c opened m registers shows regular =
    let p = c.in-Some-last.last in
    let is = back_turn c.args.locks.now registers m c.args.session c.args.entry c.in-Some.txn p c.requires.session regular shows.sessions (sym c.txn.ensures ∙ c.in-Some.is) (sym c.last.ensures ∙ c.in-Some-last.is) in
    subst (λ (r : Reply × Machine). Answers m (Shows opened c.undo_last.new.storage.now c.undo_last.new.locks registers) r c.undo_last.result) (sym is) (c.undo_last.ensures.answer opened m registers shows regular)

pub returns-clause-archives : goal.returns-clause-archives
returns-clause-archives g c tells opened m registers earlier shows regular stored archives =
    let p = c.in-Some-last.last in
    let is = back_turn c.args.locks.now registers m c.args.session c.args.entry c.in-Some.txn p c.requires.session regular shows.sessions (sym c.txn.ensures ∙ c.in-Some.is) (sym c.last.ensures ∙ c.in-Some-last.is) in
    subst (λ (r : Reply × Machine). Leaves m (λ n. ShowsArchives c.undo_last.new.archives c.undo_last.new.storage.now.store.before n) r.1 c.undo_last.result) (sym is) (c.undo_last.ensures.archives tells opened m registers earlier shows regular stored archives)

pub returns-clause-stops : goal.returns-clause-stops
returns-clause-stops g c tells opened m registers earlier shows regular stored =
    let v = c.args.storage.now.now in
    let p = c.in-Some-last.last in
    let is = back_turn c.args.locks.now registers m c.args.session c.args.entry c.in-Some.txn p c.requires.session regular shows.sessions (sym c.txn.ensures ∙ c.in-Some.is) (sym c.last.ensures ∙ c.in-Some-last.is) in
    subst (λ (r : Reply × Machine). Stops (g.D.Disk.past c.args.storage.now.disk) (g.D.Disk.past c.undo_last.new.storage.disk) (StandsWithinEither v (anchor_made v c.args.locks.now) earlier r.1)) (sym is)
    (stops_weaker _ _ _ _ (λ d s. either_changed v (anchor_made v c.args.locks.now) earlier c.args.entry p.0 (Undo c.in-Some.txn p.0 p.1) m d s) (c.undo_last.ensures.stops tells opened m registers earlier shows regular stored))

pub returns-clause-stored : goal.returns-clause-stored
returns-clause-stored g c tells opened m registers earlier shows regular stored =
    let p = c.in-Some-last.last in
    let is = back_turn c.args.locks.now registers m c.args.session c.args.entry c.in-Some.txn p c.requires.session regular shows.sessions (sym c.txn.ensures ∙ c.in-Some.is) (sym c.last.ensures ∙ c.in-Some-last.is) in
    subst (λ (r : Reply × Machine). OnOk c.undo_last.result (IsStored (g.D.Disk.past c.undo_last.new.storage.disk) c.undo_last.new.storage.now (behind_of earlier r.1))) (sym is)
    (subst (λ (b : Behind). OnOk c.undo_last.result (IsStored (g.D.Disk.past c.undo_last.new.storage.disk) c.undo_last.new.storage.now b)) (sym (behind_changed earlier c.args.entry p.0 (Undo c.in-Some.txn p.0 p.1) m)) (c.undo_last.ensures.stored tells opened m registers earlier shows regular stored))

-- ---- what is left as it was

pub returns-in-None-clause-goes : goal.returns-in-None-clause-goes
returns-in-None-clause-goes g c ok = goes_same c.args.storage.now.now c.requires.going

pub returns-in-None-last-clause-goes : goal.returns-in-None-last-clause-goes
returns-in-None-last-clause-goes g c ok = goes_same c.args.storage.now.now c.requires.going
