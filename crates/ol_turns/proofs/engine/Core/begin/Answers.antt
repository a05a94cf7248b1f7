use Rattle.std.specs.Prelude.{IfOk, List, OnOk, [], length, ℕ, ◌+◌, ◌≡◌}
use Rattle.std.proofs.Common.{ap, arith, refl, subst, sym}
use Rattle.ol_values.specs.declared.event.Event.TheVariants.{Begin}
use Rattle.ol_values.specs.declared.history.Actor.{Actor}
use Rattle.ol_values.specs.declared.history.Entry.{Entry}
use Rattle.ol_model.specs.History.{Steps, state_at}
use Rattle.ol_model.specs.Machine.{seat_of}
use Rattle.ol_model.specs.Turns.{number_of, turn_of}
use Rattle.ol_engine.specs.Parts.{Shows}
use Rattle.ol_row_turns.proofs.Changes.{none_found}
use Rattle.ol_session_turns.specs.Turns.{begin_turn}
use Rattle.ol_session_turns.proofs.Places.{pending_kept}
use Rattle.ol_turns.specs.Cores.{HasReplyCause, IsGoing, Runs, history_of, is_there, machine_of}
use Rattle.ol_storage.specs.Causes.{HasStorageCause}
use Rattle.ol_storage.specs.Installation.{config_of}
use Rattle.ol_turns.specs.declared.state.State.{State}
use Rattle.ol_turns.proofs.Besides.{begin_beside, begin_calm, quiet_answers}
use Rattle.ol_turns.proofs.Goes.{calm_answer, goes_on, ready_of, reserved_runs, stopped_runs}
use Rattle.ol_turns.proofs.Wholes.{going_after, never_starved, ok_both, ok_map, places_same, up_same, whole_on}
use Rattle.ol_turns.proofs.engine.Core.begin.Goals as goal

pub returns-in-Some-clause-runs : goal.returns-in-Some-clause-runs
returns-in-Some-clause-runs g c tells earlier begun runs =
    let s : State = record c.args.self.now.state { entries = c.reserve.new.self } in
    let past = g.D.Disk.past c.args.self.now.storage.disk in
    subst (λ (x : State). Runs earlier begun past c.args.self.now.storage.now x) (sym c.refuse.ensures.state)
    (stopped_runs earlier begun past c.args.self.now.storage.now s c.args.by Begin _ _ c.in-Some.entry c.in-Some.is
    (reserved_runs earlier begun past c.args.self.now.storage.now c.args.self.now.state c.reserve.new.self c.in-Ok.ensures.entries runs))

pub returns-clause-whole : goal.returns-clause-whole
returns-clause-whole g c =
    let old = c.args.self.now.state in
    let v = c.args.self.now.storage.now in
    let w = c.begin-answered.new.storage.now in
    let s : State = record old { entries = c.reserve.new.self; locks = c.begin-answered.new.locks } in
    let faults = g.D.Disk.fault_counts c.args.self.now.storage.disk in
    let now = g.D.Disk.fault_counts c.begin-answered.new.storage.disk in
    let going = c.requires.whole (none_found old.stopped c.in_default.not-Some) in
    let answered = c.begin-answered.result in
    let e = c.begin-answered.ensures in
    let places = ok_both answered e.goes e.places (λ goes places. places_same v w c.begin-answered.new.locks goes (pending_kept (is_there v) old.locks c.begin-answered.new.locks places going.places)) in
    let up = ok_map answered e.goes (λ goes. up_same v w old.archives goes going.up) in
    let numbers = ok_map answered e.goes (λ goes. going.numbers) in
    let after = going_after faults now v w old s 1 (length (history_of old)) answered (omega arith) going refl refl e.goes e.turns places up numbers e.risen e.cause.kept in
    whole_on faults now w s c.args.by Begin _ _ answered c.finish.result c.finish.new.self
    (subst (λ (h : List Entry). OnOk answered (IsGoing (length h + 1) now w s)) (sym c.in-Ok.ensures.entries) after)
    (λ starved. absurd (never_starved answered e.only starved))
    c.finish.ensures.told c.finish.ensures.ok c.finish.ensures.err

pub returns-clause-runs : goal.returns-clause-runs
returns-clause-runs g c tells earlier begun runs =
    let old = c.args.self.now.state in
    let v = c.args.self.now.storage.now in
    let w = c.begin-answered.new.storage.now in
    let s : State = record old { entries = c.reserve.new.self; locks = c.begin-answered.new.locks } in
    let past = g.D.Disk.past c.begin-answered.new.storage.disk in
    let none = none_found old.stopped c.in_default.not-Some in
    let told = runs.told none in
    let m = machine_of begun old in
    let k = c.session_of.result in
    let answered = c.begin-answered.result in
    let e = c.begin-answered.ensures in
    let r = begin_turn m k in
    let shown = told.shown in
    let shows = e.answer m old.registers shown.shows told.regular in
    let beside = begin_beside old.archives v.store.before old.hints m k (seat_of m k) (seat_of m k).txn (record { archives = shown.archives; full = shown.full; going = shown.going }) in
    goes_on earlier begun past w s c.args.by Begin _ _ m r answered c.finish.result c.finish.new.self
    (subst (λ (h : List Entry). Steps [] begun 1 h) (sym c.in-Ok.ensures.entries) runs.steps) (ap (λ (h : List Entry). state_at [] begun h) c.in-Ok.ensures.entries) none (ready_of earlier _ v old m told)
    (λ given. ap (λ (a : Actor). turn_of [] given m (length (history_of s) + 1) (number_of a) Begin) c.session_of.ensures.actor) (begin_calm m k (seat_of m k) (seat_of m k).txn) tt
    (quiet_answers earlier past w s v.store.before m r answered e.only shows e.images (e.stored tells m old.registers earlier shown.shows told.regular shown.stored) beside)
    c.finish.ensures.told c.finish.ensures.ok c.finish.ensures.err

pub returns-clause-cause : goal.returns-clause-cause
returns-clause-cause g c tells earlier begun runs =
    let old = c.args.self.now.state in
    let v = c.args.self.now.storage.now in
    let none = none_found old.stopped c.in_default.not-Some in
    let told = runs.told none in
    let m = machine_of begun old in
    let k = c.session_of.result in
    let e = c.begin-answered.ensures in
    let faults = g.D.Disk.fault_counts c.args.self.now.storage.disk in
    let now : g.D.Disk.fault_counts c.disk-2.result.now ≡ g.D.Disk.fault_counts c.begin-answered.new.storage.disk = ap g.D.Disk.fault_counts c.disk-2.ensures in
    subst (λ (f : ℕ → ℕ). IfOk c.finish.result (HasReplyCause faults f)) now
    (c.finish.ensures.cause (config_of v) faults (c.requires.whole none).counts (omega (arith, c.is_stopped-whole.ensures.ring.config.chunks)) (subst (λ (f : ℕ → ℕ). HasStorageCause (config_of v) faults f c.begin-answered.result) (sym now) e.cause)
    (calm_answer m (λ n. Shows old.opened c.begin-answered.new.storage.now c.begin-answered.new.locks old.registers n) (begin_turn m k) c.begin-answered.result (begin_calm m k (seat_of m k) (seat_of m k).txn) (e.answer m old.registers told.shown.shows told.regular)))
