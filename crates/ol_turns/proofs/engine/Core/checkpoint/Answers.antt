use Rattle.std.specs.Prelude.{length, ℕ, ◌≡◌}
use Rattle.std.proofs.Common.{ap, arith, refl, subst, sym}
use Rattle.ol_values.specs.declared.event.Event.TheVariants.{Checkpoint}
use Rattle.ol_engine.specs.Parts.{Shows}
use Rattle.ol_row_turns.proofs.Changes.{none_found}
use Rattle.ol_model.specs.LogTurns.{checkpoint_turn}
use Rattle.ol_turns.specs.Cores.{HasReplyCause, Runs, history_of, machine_of, surely}
use Rattle.ol_storage.specs.Causes.{HasStorageCause}
use Rattle.ol_storage.specs.Installation.{config_of}
use Rattle.ol_turns.specs.declared.state.State.{State}
use Rattle.ol_turns.proofs.Besides.{checkpoint_beside, quiet_answers}
use Rattle.ol_turns.proofs.Goes.{calm_answer, goes_on, ready_of, stopped_runs}
use Rattle.ol_turns.proofs.Wholes.{going_after, never_starved, ok_map, places_same, up_same, whole_on}
use Rattle.ol_turns.proofs.engine.Core.checkpoint.Goals as goal

pub returns-in-Some-clause-runs : goal.returns-in-Some-clause-runs
returns-in-Some-clause-runs g c tells earlier begun runs =
    let s : State = c.args.self.now.state in
    let past = g.D.Disk.past c.args.self.now.storage.disk in
    subst (λ (x : State). Runs earlier begun past c.args.self.now.storage.now x) (sym c.refuse.ensures.state)
    (stopped_runs earlier begun past c.args.self.now.storage.now s c.args.by Checkpoint _ _ c.in-Some.entry c.in-Some.is runs)

pub returns-clause-whole : goal.returns-clause-whole
returns-clause-whole g c =
    let old = c.args.self.now.state in
    let v = c.args.self.now.storage.now in
    let w = c.checkpoint-answered.new.storage.now in
    let s : State = old in
    let faults = g.D.Disk.fault_counts c.args.self.now.storage.disk in
    let now = g.D.Disk.fault_counts c.checkpoint-answered.new.storage.disk in
    let going = c.requires.whole (none_found old.stopped c.in_default.not-Some) in
    let answered = c.checkpoint-answered.result in
    let e = c.checkpoint-answered.ensures in
    let places = ok_map answered e.goes (λ goes. places_same v w old.locks goes going.places) in
    let up = ok_map answered e.goes (λ goes. up_same v w old.archives goes going.up) in
    let numbers = ok_map answered e.goes (λ goes. going.numbers) in
    let after = going_after faults now v w old s 1 (length (history_of old)) answered (omega arith) going refl refl e.goes (e.turns old.opened going.turns) places up numbers e.risen e.cause.kept in
    whole_on faults now w s c.args.by Checkpoint _ _ answered (surely c.finish_surely.result) c.finish_surely.new.self
    after
    (λ starved. absurd (never_starved answered e.only starved))
    c.finish_surely.ensures.told c.finish_surely.ensures.state tt

pub returns-clause-runs : goal.returns-clause-runs
returns-clause-runs g c tells earlier begun runs =
    let old = c.args.self.now.state in
    let v = c.args.self.now.storage.now in
    let w = c.checkpoint-answered.new.storage.now in
    let s : State = old in
    let past = g.D.Disk.past c.checkpoint-answered.new.storage.disk in
    let none = none_found old.stopped c.in_default.not-Some in
    let told = runs.told none in
    let m = machine_of begun old in
    let answered = c.checkpoint-answered.result in
    let e = c.checkpoint-answered.ensures in
    let r = checkpoint_turn m in
    let shown = told.shown in
    let shows = e.answer old.opened m old.registers shown.shows told.regular in
    let beside = checkpoint_beside old.archives v.store.before old.hints m (record { archives = shown.archives; full = shown.full; going = shown.going }) in
    goes_on earlier begun past w s c.args.by Checkpoint _ _ m r answered (surely c.finish_surely.result) c.finish_surely.new.self
    runs.steps refl none (ready_of earlier _ v old m told)
    (λ given. refl) refl tt
    (quiet_answers earlier past w s v.store.before m r answered e.only shows e.images (e.stored tells old.opened m old.registers earlier shown.shows told.regular shown.stored) beside)
    c.finish_surely.ensures.told c.finish_surely.ensures.state tt

pub returns-clause-cause : goal.returns-clause-cause
returns-clause-cause g c tells earlier begun runs =
    let old = c.args.self.now.state in
    let v = c.args.self.now.storage.now in
    let none = none_found old.stopped c.in_default.not-Some in
    let told = runs.told none in
    let m = machine_of begun old in
    let e = c.checkpoint-answered.ensures in
    let faults = g.D.Disk.fault_counts c.args.self.now.storage.disk in
    let now : g.D.Disk.fault_counts c.disk-2.result.now ≡ g.D.Disk.fault_counts c.checkpoint-answered.new.storage.disk = ap g.D.Disk.fault_counts c.disk-2.ensures in
    subst (λ (f : ℕ → ℕ). HasReplyCause faults f c.finish_surely.result) now
    (c.finish_surely.ensures.cause (config_of v) faults (c.requires.whole none).counts (omega (arith, c.is_stopped.ensures.ring.config.chunks)) (subst (λ (f : ℕ → ℕ). HasStorageCause (config_of v) faults f c.checkpoint-answered.result) (sym now) e.cause)
    (calm_answer m (λ n. Shows old.opened c.checkpoint-answered.new.storage.now old.locks old.registers n) (checkpoint_turn m) c.checkpoint-answered.result refl (e.answer old.opened m old.registers told.shown.shows told.regular)))
