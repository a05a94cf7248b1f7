use Rattle.std.specs.Prelude.{IfOk, List, OnOk, [], length, ℕ, ◌+◌, ◌≡◌}
use Rattle.std.proofs.Common.{ap, arith, refl, subst, sym}
use Rattle.ol_values.specs.declared.event.Event.TheVariants.{ArchiveStart}
use Rattle.ol_values.specs.declared.history.Actor.{Actor}
use Rattle.ol_archive_turns.specs.Turns.{Tells}
use Rattle.ol_values.specs.declared.history.Entry.{Entry}
use Rattle.ol_model.specs.ArchiveTurns.{start_at}
use Rattle.ol_model.specs.History.{Steps, state_at}
use Rattle.ol_model.specs.Machine.{archive_of}
use Rattle.ol_model.specs.Turns.{number_of, turn_of}
use Rattle.ol_row_turns.proofs.Changes.{none_found}
use Rattle.ol_storage.specs.Causes.{HasStorageCause}
use Rattle.ol_storage.specs.Installation.{config_of}
use Rattle.ol_turns.specs.Cores.{HasReplyCause, IsGoing, Runs, history_of, machine_of}
use Rattle.ol_turns.specs.declared.state.State.{State}
use Rattle.ol_turns.proofs.Archiving.{archive_answers, kept_at_error, ok_from_calm, start_calm, start_same, starved_calm, starved_going}
use Rattle.ol_turns.proofs.Goes.{calm_answer, goes_on, ready_of, reserved_runs, stopped_runs}
use Rattle.ol_turns.proofs.Wholes.{going_after, ok_map, places_same, whole_on}
use Rattle.ol_turns.proofs.engine.Core.archive_start.Goals as goal

pub returns-in-Some-clause-runs : goal.returns-in-Some-clause-runs
returns-in-Some-clause-runs g c tells earlier begun runs =
    let past = g.D.Disk.past c.args.self.now.storage.disk in
    subst (λ (x : State). Runs earlier begun past c.args.self.now.storage.now x) (sym c.refuse.ensures.state)
    (stopped_runs earlier begun past c.args.self.now.storage.now (record c.args.self.now.state { entries = c.reserve.new.self }) c.args.by (ArchiveStart c.args.level c.args.spaces) _ _ c.in-Some.entry c.in-Some.is
    (reserved_runs earlier begun past c.args.self.now.storage.now c.args.self.now.state c.reserve.new.self c.in-Ok.ensures.entries runs))

pub returns-clause-whole : goal.returns-clause-whole
returns-clause-whole g c =
    let old = c.args.self.now.state in
    let v = c.args.self.now.storage.now in
    let w = c.start_named-answered.new.storage.now in
    let s : State = record old { entries = c.reserve.new.self; archives = c.start_named-answered.new.archives } in
    let faults = g.D.Disk.fault_counts c.args.self.now.storage.disk in
    let now = g.D.Disk.fault_counts c.start_named-answered.new.storage.disk in
    let going = c.requires.whole (none_found old.stopped c.in_default.not-Some) in
    let answered = c.start_named-answered.result in
    let e = c.start_named-answered.ensures in
    let goes = e.goes in
    let places = ok_map answered goes (λ goes. places_same v w old.locks goes going.places) in
    let after = going_after faults now v w old s 1 (length (history_of old)) answered (omega arith) going refl refl goes (ok_from_calm answered (e.turns old.opened going.turns)) places (e.up going.up) (e.numbers going.numbers) e.risen e.cause.kept in
    whole_on faults now w s c.args.by (ArchiveStart c.args.level c.args.spaces) _ _ answered c.finish.result c.finish.new.self (subst (λ (h : List Entry). OnOk answered (IsGoing (length h + 1) now w s)) (sym c.in-Ok.ensures.entries) after)
    (λ starved. let calm = starved_calm answered starved in
    subst (λ (h : List Entry). IsGoing (length h) now w s) (sym c.in-Ok.ensures.entries)
    (starved_going (length (history_of old)) faults now v w old s going refl refl (kept_at_error answered starved e.kept) refl (kept_at_error answered starved e.still calm).step (e.turns old.opened going.turns calm) (e.cause.kept calm)))
    c.finish.ensures.told c.finish.ensures.ok c.finish.ensures.err

pub returns-clause-runs : goal.returns-clause-runs
returns-clause-runs g c tells earlier begun runs =
    let old = c.args.self.now.state in
    let v = c.args.self.now.storage.now in
    let w = c.start_named-answered.new.storage.now in
    let s : State = record old { entries = c.reserve.new.self; archives = c.start_named-answered.new.archives } in
    let past = g.D.Disk.past c.start_named-answered.new.storage.disk in
    let none = none_found old.stopped c.in_default.not-Some in
    let told = runs.told none in
    let going = c.requires.whole none in
    let m = machine_of begun old in
    let k = c.archiver_of.result in
    let answered = c.start_named-answered.result in
    let e = c.start_named-answered.ensures in
    let r = start_at m k c.args.level c.args.spaces (archive_of m k) in
    let shown = told.shown in
    let stored = e.stored tells old.opened m old.registers earlier (shown.shows, shown.archives) told.regular shown.stored in
    goes_on earlier begun past w s c.args.by (ArchiveStart c.args.level c.args.spaces) _ _ m r answered c.finish.result c.finish.new.self
    (subst (λ (h : List Entry). Steps [] begun 1 h) (sym c.in-Ok.ensures.entries) runs.steps) (ap (λ (h : List Entry). state_at [] begun h) c.in-Ok.ensures.entries) none (ready_of earlier _ v old m told)
    (λ given. ap (λ (a : Actor). turn_of [] given m (length (history_of s) + 1) (number_of a) (ArchiveStart c.args.level c.args.spaces)) c.archiver_of.ensures.actor) (start_calm m k c.args.level c.args.spaces (archive_of m k)) tt
    (archive_answers earlier past w s m r answered (e.answer tells old.opened m old.registers earlier (shown.shows, shown.archives) told.regular shown.stored) (start_same m k c.args.level c.args.spaces (archive_of m k)) (ok_from_calm answered stored) (λ starved. stored (starved_calm answered starved)) shown.full shown.going)
    c.finish.ensures.told c.finish.ensures.ok c.finish.ensures.err

pub returns-clause-cause : goal.returns-clause-cause
returns-clause-cause g c tells earlier begun runs =
    let old = c.args.self.now.state in
    let v = c.args.self.now.storage.now in
    let none = none_found old.stopped c.in_default.not-Some in
    let told = runs.told none in
    let going = c.requires.whole none in
    let shown = told.shown in
    let m = machine_of begun old in
    let k = c.archiver_of.result in
    let e = c.start_named-answered.ensures in
    let faults = g.D.Disk.fault_counts c.args.self.now.storage.disk in
    let now : g.D.Disk.fault_counts c.disk-2.result.now ≡ g.D.Disk.fault_counts c.start_named-answered.new.storage.disk = ap g.D.Disk.fault_counts c.disk-2.ensures in
    subst (λ (f : ℕ → ℕ). IfOk c.finish.result (HasReplyCause faults f)) now
    (c.finish.ensures.cause (config_of v) faults going.counts (omega (arith, c.is_stopped-whole.ensures.ring.config.chunks)) (subst (λ (f : ℕ → ℕ). HasStorageCause (config_of v) faults f c.start_named-answered.result) (sym now) e.cause)
    (calm_answer m (λ n. Tells old.opened c.start_named-answered.new.storage.now old.locks old.registers c.start_named-answered.new.archives n) (start_at m k c.args.level c.args.spaces (archive_of m k)) c.start_named-answered.result (start_calm m k c.args.level c.args.spaces (archive_of m k)) (e.answer tells old.opened m old.registers earlier (shown.shows, shown.archives) told.regular shown.stored)))
