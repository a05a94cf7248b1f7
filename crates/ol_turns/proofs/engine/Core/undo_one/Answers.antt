use Rattle.std.specs.Prelude.{IfOk, List, OnOk, Option, Some, [], length, ℕ, ◌+◌, ◌≡◌}
use Rattle.std.proofs.Common.{ap, arith, refl, subst, sym, ◌∙◌}
use Rattle.ol_values.specs.declared.event.Event.TheVariants.{UndoOne}
use Rattle.ol_values.specs.declared.history.Actor.{Actor}
use Rattle.ol_values.specs.declared.history.Entry.{Entry}
use Rattle.ol_free_slots.specs.declared.hints.Hints.{Hints}
use Rattle.ol_free_slots.specs.Filled.{AreFull}
use Rattle.ol_model.specs.History.{Steps, state_at}
use Rattle.ol_model.specs.Machine.{Machine, seat_of}
use Rattle.ol_model.specs.Turns.{number_of, turn_of}
use Rattle.ol_engine.specs.Parts.{Shows, behind_of}
use Rattle.ol_row_turns.proofs.Changes.{none_found}
use Rattle.ol_row_turns.specs.Turns.{undone_turn}
use Rattle.ol_session_turns.specs.Pending.{ArePending}
use Rattle.ol_storage.specs.Causes.{HasStorageCause}
use Rattle.ol_storage.specs.Installation.{config_of, with_store}
use Rattle.ol_txn.specs.Seats.{last_of}
use Rattle.ol_txn.specs.Seats.{seat_of as locks_of}
use Rattle.ol_turns.specs.Cores.{HasReplyCause, IsGoing, Runs, history_of, is_there, machine_of}
use Rattle.ol_turns.specs.RowTurns.{hints_opened}
use Rattle.ol_turns.specs.declared.state.State.{State}
use Rattle.ol_turns.proofs.Archiving.{ok_from_calm, starved_calm}
use Rattle.ol_turns.proofs.Goes.{calm_answer, goes_on, ready_of, reserved_runs, stopped_runs}
use Rattle.ol_turns.proofs.Undoing.{cursors_numbered, cursors_up, last_space, last_there, opened_full, row_answers, starved_error, starved_row, undo_calm, undo_stopped, undone_full}
use Rattle.ol_turns.proofs.Wholes.{going_after, ok_map, places_same, up_same, whole_on}
use Rattle.ol_turns.proofs.engine.Core.undo_one.Goals as goal

pub returns-in-Some-clause-runs : goal.returns-in-Some-clause-runs
returns-in-Some-clause-runs g c tells earlier begun runs =
    let s : State = record c.args.self.now.state { entries = c.reserve.new.self } in
    let past = g.D.Disk.past c.args.self.now.storage.disk in
    subst (λ (x : State). Runs earlier begun past c.args.self.now.storage.now x) (sym c.refuse.ensures.state)
    (stopped_runs earlier begun past c.args.self.now.storage.now s c.args.by UndoOne _ _ c.in-Some.entry c.in-Some.is
    (reserved_runs earlier begun past c.args.self.now.storage.now c.args.self.now.state c.reserve.new.self c.in-Ok.ensures.entries runs))

-- ---- the place of the newest change

pub open_hint-requires-clause-space : goal.open_hint-requires-clause-space
open_hint-requires-clause-space g c =
    let old = c.args.self.now.state in
    let v = c.args.self.now.storage.now in
    let going = c.requires.whole (none_found old.stopped c.in_default.not-Some) in
    last_space v (last_of (locks_of old.locks c.session_in-session.result)) c.is_stopped-whole.ensures.ring.config.few (last_there v old.locks c.session_in-session.result going.places)

pub undo-answered-requires-clause-there : goal.undo-answered-requires-clause-there
undo-answered-requires-clause-there g c =
    let old = c.args.self.now.state in
    let going = c.requires.whole (none_found old.stopped c.in_default.not-Some) in
    last_there c.args.self.now.storage.now old.locks c.session_in-session.result going.places

-- ---- it is taken back

pub returns-clause-whole : goal.returns-clause-whole
returns-clause-whole g c =
    let old = c.args.self.now.state in
    let v = c.args.self.now.storage.now in
    let u = c.undo-answered in
    let w = u.new.storage.now in
    let s : State = record old { entries = c.reserve.new.self; hints = c.open_hint.new.hints; locks = u.new.locks; archives = u.new.archives } in
    let faults = g.D.Disk.fault_counts c.args.self.now.storage.disk in
    let now = g.D.Disk.fault_counts u.new.storage.disk in
    let going = c.requires.whole (none_found old.stopped c.in_default.not-Some) in
    let answered = u.result in
    let e = u.ensures in
    let goes = ok_from_calm answered e.goes in
    let places = ok_from_calm answered (λ calm. places_same v w u.new.locks (e.goes calm) (e.places (is_there v) going.places calm)) in
    let up = ok_map answered goes (λ goes. up_same v w u.new.archives goes (cursors_up v.anchor old.archives u.new.archives e.cursors going.up)) in
    let numbers = ok_map answered goes (λ goes. cursors_numbered old.archives u.new.archives e.cursors going.numbers) in
    let after = going_after faults now v w old s 2 (length (history_of old)) answered (omega arith) going refl refl goes (ok_from_calm answered (e.turns old.opened going.turns)) places up numbers e.risen e.cause.kept in
    whole_on faults now w s c.args.by UndoOne _ _ answered c.finish.result c.finish.new.self
    (subst (λ (h : List Entry). OnOk answered (IsGoing (length h + 1) now w s)) (sym c.in-Ok.ensures.entries) after)
    (λ memory. let calm = starved_calm answered memory in
    subst (λ (h : List Entry). IsGoing (length h) now w s) (sym c.in-Ok.ensures.entries)
    (starved_row (length (history_of old)) faults now v w old s going refl refl (e.goes calm) (e.turns old.opened going.turns calm) (e.places (is_there v) going.places calm) e.cursors (starved_error (w ≡ with_store v w.store) answered memory e.unwritten) (e.cause.kept calm)))
    c.finish.ensures.told c.finish.ensures.ok c.finish.ensures.err

pub returns-clause-runs : goal.returns-clause-runs
returns-clause-runs g c tells earlier begun runs =
    let old = c.args.self.now.state in
    let v = c.args.self.now.storage.now in
    let u = c.undo-answered in
    let w = u.new.storage.now in
    let s : State = record old { entries = c.reserve.new.self; hints = c.open_hint.new.hints; locks = u.new.locks; archives = u.new.archives } in
    let past = g.D.Disk.past u.new.storage.disk in
    let none = none_found old.stopped c.in_default.not-Some in
    let told = runs.told none in
    let shown = told.shown in
    let m = machine_of begun old in
    let k = c.session_in-session.result in
    let n = c.next_entry-entry.result in
    let session = c.session_in-session.ensures.session in
    let answered = u.result in
    let e = u.ensures in
    let r = undone_turn m n k in
    let last = last_of (locks_of old.locks k) in
    let after = subst (λ (h : Hints). AreFull h r.1) (sym c.open_hint.ensures) (undone_full old.hints old.locks old.registers m k n session told.regular shown.shows.sessions shown.full) in
    let before = subst (λ (h : Hints). AreFull h m) (sym c.open_hint.ensures) (opened_full last old.hints m shown.full) in
    goes_on earlier begun past w s c.args.by UndoOne _ _ m r answered c.finish.result c.finish.new.self
    (subst (λ (h : List Entry). Steps [] begun 1 h) (sym c.in-Ok.ensures.entries) runs.steps) (ap (λ (h : List Entry). state_at [] begun h) c.in-Ok.ensures.entries) none (ready_of earlier _ v old m told)
    (λ given. ap (λ (a : Actor). turn_of [] given m (length (history_of s) + 1) (number_of a) UndoOne) c.session_in-session.ensures.actor ∙ ap (λ (i : ℕ). undone_turn m i k) (sym c.next_entry-entry.ensures))
    (undo_calm m n k (seat_of m k).txn) tt
    (row_answers earlier past w s m r answered (e.answer old.opened m old.registers shown.shows told.regular) (e.archives tells old.opened m old.registers earlier shown.shows told.regular shown.stored shown.archives)
    (e.stored tells old.opened m old.registers earlier shown.shows told.regular shown.stored) (e.still tells m earlier shown.stored) after before (undo_stopped m n k (seat_of m k).txn ∙ shown.going) shown.going)
    c.finish.ensures.told c.finish.ensures.ok c.finish.ensures.err

pub returns-clause-cause : goal.returns-clause-cause
returns-clause-cause g c tells earlier begun runs =
    let old = c.args.self.now.state in
    let v = c.args.self.now.storage.now in
    let u = c.undo-answered in
    let none = none_found old.stopped c.in_default.not-Some in
    let told = runs.told none in
    let m = machine_of begun old in
    let k = c.session_in-session.result in
    let n = c.next_entry-entry.result in
    let e = u.ensures in
    let faults = g.D.Disk.fault_counts c.args.self.now.storage.disk in
    let now : g.D.Disk.fault_counts c.disk-2.result.now ≡ g.D.Disk.fault_counts u.new.storage.disk = ap g.D.Disk.fault_counts c.disk-2.ensures in
    subst (λ (f : ℕ → ℕ). IfOk c.finish.result (HasReplyCause faults f)) now
    (c.finish.ensures.cause (config_of v) faults (c.requires.whole none).counts (omega (arith, c.is_stopped-whole.ensures.ring.config.chunks)) (subst (λ (f : ℕ → ℕ). HasStorageCause (config_of v) faults f u.result) (sym now) e.cause)
    (calm_answer m (λ x. Shows old.opened u.new.storage.now u.new.locks old.registers x) (undone_turn m n k) u.result (undo_calm m n k (seat_of m k).txn) (e.answer old.opened m old.registers told.shown.shows told.regular)))
