use Rattle.std.specs.Prelude.{IfOk, List, OnOk, [], length, ℕ, ◌+◌, ◌≡◌}
use Rattle.std.proofs.Common.{ap, arith, refl, subst, sym}
use Rattle.ol_values.specs.declared.event.Event.TheVariants.{Read}
use Rattle.ol_values.specs.declared.history.Actor.{Actor}
use Rattle.ol_values.specs.declared.history.Entry.{Entry}
use Rattle.ol_model.specs.SessionTurns.{read_turn}
use Rattle.ol_engine.proofs.Going.{goes_beside}
use Rattle.ol_engine.specs.Parts.{Shows, behind_of}
use Rattle.ol_model.specs.History.{Steps, state_at}
use Rattle.ol_model.specs.Machine.{seat_of}
use Rattle.ol_model.specs.Turns.{number_of, turn_of}
use Rattle.ol_row_turns.proofs.Changes.{none_found}
use Rattle.ol_storage.specs.Causes.{HasStorageCause}
use Rattle.ol_storage.specs.Installation.{config_of}
use Rattle.ol_turns.specs.Cores.{HasReplyCause, IsGoing, Runs, history_of, is_there, machine_of}
use Rattle.ol_turns.specs.declared.state.State.{State}
use Rattle.ol_turns.proofs.Archiving.{kept_at_error, ok_from_calm, risen_beside, starved_calm, starved_going}
use Rattle.ol_turns.proofs.Besides.{IsBeside, seat_beside}
use Rattle.ol_turns.proofs.Reading.{read_answers, read_calm, read_keeps}
use Rattle.ol_turns.proofs.Goes.{calm_answer, goes_on, ready_of, reserved_runs, stopped_runs}
use Rattle.ol_turns.proofs.Wholes.{going_after, ok_map, places_same, up_same, whole_on}
use Rattle.ol_turns.proofs.engine.Core.read.Goals as goal

pub returns-in-Some-clause-runs : goal.returns-in-Some-clause-runs
returns-in-Some-clause-runs g c tells earlier begun runs =
    let past = g.D.Disk.past c.args.self.now.storage.disk in
    subst (λ (x : State). Runs earlier begun past c.args.self.now.storage.now x) (sym c.refuse.ensures.state)
    (stopped_runs earlier begun past c.args.self.now.storage.now (record c.args.self.now.state { entries = c.reserve.new.self }) c.args.by (Read c.args.target) _ _ c.in-Some.entry c.in-Some.is
    (reserved_runs earlier begun past c.args.self.now.storage.now c.args.self.now.state c.reserve.new.self c.in-Ok.ensures.entries runs))

pub returns-clause-whole : goal.returns-clause-whole
returns-clause-whole g c =
    let old = c.args.self.now.state in
    let v = c.args.self.now.storage.now in
    let w = c.read_target-answered.new.storage.now in
    let s : State = record old { entries = c.reserve.new.self; locks = c.read_target-answered.new.locks } in
    let faults = g.D.Disk.fault_counts c.args.self.now.storage.disk in
    let now = g.D.Disk.fault_counts c.read_target-answered.new.storage.disk in
    let going = c.requires.whole (none_found old.stopped c.in_default.not-Some) in
    let answered = c.read_target-answered.result in
    let e = c.read_target-answered.ensures in
    let goes = ok_from_calm answered (λ calm. goes_beside v w going.going (e.step calm)) in
    let places = ok_map answered goes (λ goes. places_same v w c.read_target-answered.new.locks goes (e.places (is_there v) going.places)) in
    let after = going_after faults now v w old s 1 (length (history_of old)) answered (omega arith) going refl refl goes (ok_from_calm answered (e.turns old.opened going.turns)) places (ok_map answered goes (λ is. up_same v w old.archives is going.up)) (ok_map answered goes (λ is. going.numbers)) (ok_from_calm answered (λ calm. risen_beside 1 v w (e.step calm))) e.cause.kept in
    whole_on faults now w s c.args.by (Read c.args.target) _ _ answered c.finish.result c.finish.new.self (subst (λ (h : List Entry). OnOk answered (IsGoing (length h + 1) now w s)) (sym c.in-Ok.ensures.entries) after)
    (λ starved. let calm = starved_calm answered starved in
    subst (λ (h : List Entry). IsGoing (length h) now w s) (sym c.in-Ok.ensures.entries)
    (starved_going (length (history_of old)) faults now v w old s going refl refl refl (kept_at_error answered starved e.unlocked) (e.step calm) (e.turns old.opened going.turns calm) (e.cause.kept calm)))
    c.finish.ensures.told c.finish.ensures.ok c.finish.ensures.err

pub returns-clause-runs : goal.returns-clause-runs
returns-clause-runs g c tells earlier begun runs =
    let old = c.args.self.now.state in
    let v = c.args.self.now.storage.now in
    let w = c.read_target-answered.new.storage.now in
    let s : State = record old { entries = c.reserve.new.self; locks = c.read_target-answered.new.locks } in
    let past = g.D.Disk.past c.read_target-answered.new.storage.disk in
    let none = none_found old.stopped c.in_default.not-Some in
    let told = runs.told none in
    let going = c.requires.whole none in
    let m = machine_of begun old in
    let k = c.session_of.result in
    let answered = c.read_target-answered.result in
    let e = c.read_target-answered.ensures in
    let r = read_turn m k (seat_of m k) (seat_of m k).txn c.args.target in
    let shown = told.shown in
    let beside : IsBeside old.archives v.store.before old.hints m = record { archives = shown.archives; full = shown.full; going = shown.going } in
    let after = read_keeps (λ n. IsBeside old.archives v.store.before old.hints n) m k (seat_of m k) (seat_of m k).txn c.args.target beside (λ t. seat_beside old.archives v.store.before old.hints k t m beside) in
    goes_on earlier begun past w s c.args.by (Read c.args.target) _ _ m r answered c.finish.result c.finish.new.self
    (subst (λ (h : List Entry). Steps [] begun 1 h) (sym c.in-Ok.ensures.entries) runs.steps) (ap (λ (h : List Entry). state_at [] begun h) c.in-Ok.ensures.entries) none (ready_of earlier _ v old m told)
    (λ given. ap (λ (a : Actor). turn_of [] given m (length (history_of s) + 1) (number_of a) (Read c.args.target)) c.session_of.ensures.actor) (read_calm m k (seat_of m k) (seat_of m k).txn c.args.target) tt
    (read_answers earlier past w s v.store.before m r answered (e.answer tells old.opened m earlier shown.shows told.regular shown.stored) e.images (e.stored tells (behind_of earlier m) shown.stored)
    (read_keeps (λ n. behind_of earlier n ≡ behind_of earlier m) m k (seat_of m k) (seat_of m k).txn c.args.target refl (λ t. refl)) beside after)
    c.finish.ensures.told c.finish.ensures.ok c.finish.ensures.err

pub returns-clause-cause : goal.returns-clause-cause
returns-clause-cause g c tells earlier begun runs =
    let old = c.args.self.now.state in
    let v = c.args.self.now.storage.now in
    let none = none_found old.stopped c.in_default.not-Some in
    let told = runs.told none in
    let going = c.requires.whole none in
    let shown = told.shown in
    let m = machine_of begun old in
    let k = c.session_of.result in
    let e = c.read_target-answered.ensures in
    let faults = g.D.Disk.fault_counts c.args.self.now.storage.disk in
    let now : g.D.Disk.fault_counts c.disk-2.result.now ≡ g.D.Disk.fault_counts c.read_target-answered.new.storage.disk = ap g.D.Disk.fault_counts c.disk-2.ensures in
    subst (λ (f : ℕ → ℕ). IfOk c.finish.result (HasReplyCause faults f)) now
    (c.finish.ensures.cause (config_of v) faults going.counts (omega (arith, c.is_stopped-whole.ensures.ring.config.chunks)) (subst (λ (f : ℕ → ℕ). HasStorageCause (config_of v) faults f c.read_target-answered.result) (sym now) e.cause)
    (calm_answer m (λ n. Shows old.opened c.read_target-answered.new.storage.now c.read_target-answered.new.locks old.registers n) (read_turn m k (seat_of m k) (seat_of m k).txn c.args.target) c.read_target-answered.result (read_calm m k (seat_of m k) (seat_of m k).txn c.args.target) (e.answer tells old.opened m earlier shown.shows told.regular shown.stored)))
