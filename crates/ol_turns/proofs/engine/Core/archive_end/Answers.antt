use Rattle.std.specs.Prelude.{[], length, ℕ, ◌+◌, ◌≡◌}
use Rattle.std.proofs.Common.{ap, arith, refl, subst, sym}
use Rattle.ol_values.specs.declared.event.Event.TheVariants.{ArchiveEnd}
use Rattle.ol_values.specs.declared.history.Actor.{Actor}
use Rattle.ol_archive_turns.specs.Turns.{Tells, end_turn}
use Rattle.ol_engine.specs.Parts.{behind_of}
use Rattle.ol_model.specs.Machine.{archive_of}
use Rattle.ol_model.specs.Turns.{number_of, turn_of}
use Rattle.ol_row_turns.proofs.Changes.{none_found}
use Rattle.ol_storage.specs.Causes.{HasStorageCause}
use Rattle.ol_storage.specs.Installation.{config_of}
use Rattle.ol_turns.specs.Cores.{HasReplyCause, Runs, history_of, machine_of, surely}
use Rattle.ol_turns.specs.declared.state.State.{State}
use Rattle.ol_turns.proofs.Archiving.{archive_answers, end_calm, end_same}
use Rattle.ol_turns.proofs.Goes.{calm_answer, goes_on, ready_of, stopped_runs}
use Rattle.ol_turns.proofs.Wholes.{going_after, never_starved, ok_map, places_same, whole_on}
use Rattle.ol_turns.proofs.engine.Core.archive_end.Goals as goal

pub returns-in-Some-clause-runs : goal.returns-in-Some-clause-runs
returns-in-Some-clause-runs g c tells earlier begun runs =
    let past = g.D.Disk.past c.args.self.now.storage.disk in
    subst (λ (x : State). Runs earlier begun past c.args.self.now.storage.now x) (sym c.refuse.ensures.state)
    (stopped_runs earlier begun past c.args.self.now.storage.now c.args.self.now.state c.args.by ArchiveEnd _ _ c.in-Some.entry c.in-Some.is runs)

pub returns-clause-whole : goal.returns-clause-whole
returns-clause-whole g c =
    let old = c.args.self.now.state in
    let v = c.args.self.now.storage.now in
    let w = c.end-answered.new.storage.now in
    let s : State = record old { archives = c.end-answered.new.archives } in
    let faults = g.D.Disk.fault_counts c.args.self.now.storage.disk in
    let now = g.D.Disk.fault_counts c.end-answered.new.storage.disk in
    let going = c.requires.whole (none_found old.stopped c.in_default.not-Some) in
    let answered = c.end-answered.result in
    let e = c.end-answered.ensures in
    let goes = e.goes in
    let places = ok_map answered goes (λ goes. places_same v w old.locks goes going.places) in
    let after = going_after faults now v w old s 1 (length (history_of old)) answered (omega arith) going refl refl goes (e.turns old.opened old.locks going.turns) places (e.up going.up) (ok_map answered goes (λ is. e.numbers)) e.risen e.cause.kept in
    whole_on faults now w s c.args.by ArchiveEnd _ _ answered (surely c.finish_surely.result) c.finish_surely.new.self after (λ starved. absurd (never_starved answered e.only starved))
    c.finish_surely.ensures.told c.finish_surely.ensures.state tt

pub returns-clause-runs : goal.returns-clause-runs
returns-clause-runs g c tells earlier begun runs =
    let old = c.args.self.now.state in
    let v = c.args.self.now.storage.now in
    let w = c.end-answered.new.storage.now in
    let s : State = record old { archives = c.end-answered.new.archives } in
    let past = g.D.Disk.past c.end-answered.new.storage.disk in
    let none = none_found old.stopped c.in_default.not-Some in
    let told = runs.told none in
    let going = c.requires.whole none in
    let m = machine_of begun old in
    let k = c.archiver_of.result in
    let answered = c.end-answered.result in
    let e = c.end-answered.ensures in
    let r = end_turn m k in
    let shown = told.shown in
    goes_on earlier begun past w s c.args.by ArchiveEnd _ _ m r answered (surely c.finish_surely.result) c.finish_surely.new.self
    runs.steps refl none (ready_of earlier _ v old m told)
    (λ given. ap (λ (a : Actor). turn_of [] given m (length (history_of s) + 1) (number_of a) ArchiveEnd) c.archiver_of.ensures.actor) (end_calm m k (archive_of m k)) tt
    (archive_answers earlier past w s m r answered (e.answer old.opened old.locks old.registers m (shown.shows, shown.archives)) (end_same m k (archive_of m k)) (e.stored tells (behind_of earlier m) shown.stored) (λ starved. absurd (never_starved answered e.only starved)) shown.full shown.going)
    c.finish_surely.ensures.told c.finish_surely.ensures.state tt

pub returns-clause-cause : goal.returns-clause-cause
returns-clause-cause g c tells earlier begun runs =
    let old = c.args.self.now.state in
    let v = c.args.self.now.storage.now in
    let none = none_found old.stopped c.in_default.not-Some in
    let told = runs.told none in
    let going = c.requires.whole none in
    let shown = told.shown in
    let m = machine_of begun old in
    let k = c.archiver_of.result in
    let e = c.end-answered.ensures in
    let faults = g.D.Disk.fault_counts c.args.self.now.storage.disk in
    let now : g.D.Disk.fault_counts c.disk-2.result.now ≡ g.D.Disk.fault_counts c.end-answered.new.storage.disk = ap g.D.Disk.fault_counts c.disk-2.ensures in
    subst (λ (f : ℕ → ℕ). HasReplyCause faults f c.finish_surely.result) now
    (c.finish_surely.ensures.cause (config_of v) faults going.counts (omega (arith, c.is_stopped.ensures.ring.config.chunks)) (subst (λ (f : ℕ → ℕ). HasStorageCause (config_of v) faults f c.end-answered.result) (sym now) e.cause)
    (calm_answer m (λ n. Tells old.opened c.end-answered.new.storage.now old.locks old.registers c.end-answered.new.archives n) (end_turn m k) c.end-answered.result (end_calm m k (archive_of m k)) (e.answer old.opened old.locks old.registers m (shown.shows, shown.archives))))
