use Rattle.std.specs.Prelude.{true, ◌-◌, ◌<◌, ◌≡◌, ◌≤◌}
use Rattle.std.proofs.Common.{ap, arith, refl, rules, subst, sym, ◌∙◌}
use Rattle.ol_values.specs.declared.event.Reply.{Reply}
use Rattle.ol_values.specs.declared.event.Reply.TheVariants.{LogsFull, Switched}
use Rattle.ol_rules.specs.Ring.{Ring, blocker, free_after_switch}
use Rattle.ol_model.specs.Machine.{Machine, last_of}
use Rattle.ol_log_state.specs.RingState.{ring_of}
use Rattle.ol_loglog.specs.RingValue.{RingValue}
use Rattle.ol_ports.proofs.StopLaws.{stops_none}
use Rattle.ol_ports.specs.Stops.{Stops}
use Rattle.ol_storage.specs.Installation.{Installation, config_of, flushed_of}
use Rattle.ol_storage.specs.Standing.{StandsFrom}
use Rattle.ol_engine.specs.Parts.{Shows, behind_of, owed_of}
use Rattle.ol_engine.proofs.Results.{when_false}
use Rattle.ol_engine.proofs.Stops.{rest_stops}
use Rattle.ol_log_turns.specs.Closing.{may_close}
use Rattle.ol_log_turns.proofs.Switches.{switch_is, switch_refused, switch_rises, switch_shown, switch_turns}
use Rattle.ol_log_turns.proofs.turns.switch.Goals as goal

pub returns-then-not-may_close-clause-stops : goal.returns-then-not-may_close-clause-stops
returns-then-not-may_close-clause-stops g c tells m before is =
    stops_none _ _ (λ d rest. rest_stops c.args.storage.now.now before m d is.next (c.is_stopped-stands.ensures.stands tells (behind_of before m) is d rest))

pub returns-then-from-owed-clause-stops : goal.returns-then-from-owed-clause-stops
returns-then-from-owed-clause-stops g c tells m before is =
    stops_none _ _ (λ d rest. rest_stops c.args.storage.now.now before m d is.next (c.is_stopped-stands.ensures.stands tells (behind_of before m) is d rest))

pub returns-then-from-owed-clause-answer : goal.returns-then-from-owed-clause-answer
returns-then-from-owed-clause-answer g c opened m registers shows =
    let v = c.args.storage.now.now in
    let going = when_false _ _ c.is_stopped-stands.ensures.going (c.is_stopped-stands.ensures.value ∙ c.requires.going) in
    let may : may_close v.ring ≡ true = search rules in
    let after = c.free_after_switch.ensures ∙ ap (λ (r : RingValue). free_after_switch r.config r.state.reuse (ring_of r.state)) c.log-log.ensures in
    let low : free_after_switch v.ring.config v.ring.state.reuse (ring_of v.ring.state) < owed_of c.args.locks.now = omega (arith, after, c.from.ensures, c.owed.ensures.value, c.if-from-owed.true) in
    let uniq : c.blocker.result ≡ blocker v.ring.config v.ring.state.reuse (ring_of v.ring.state) = c.blocker.ensures ∙ ap (λ (r : RingValue). blocker r.config r.state.reuse (ring_of r.state)) c.log-log.ensures in
    let is = switch_refused opened v c.args.locks.now registers m shows going may c.blocker.result uniq low in
    subst (λ (r : Reply × Machine). (LogsFull c.blocker.result ≡ r.0) × Shows opened v c.args.locks.now registers r.1) (sym is) (refl, shows)

pub returns-in-Ok-clause-answer : goal.returns-in-Ok-clause-answer
returns-in-Ok-clause-answer g c opened m registers shows =
    let v = c.args.storage.now.now in
    let going = when_false _ _ c.is_stopped-stands.ensures.going (c.is_stopped-stands.ensures.value ∙ c.requires.going) in
    let may : may_close v.ring ≡ true = search rules in
    let after = c.free_after_switch.ensures ∙ ap (λ (r : RingValue). free_after_switch r.config r.state.reuse (ring_of r.state)) c.log-log.ensures in
    let room : owed_of c.args.locks.now ≤ free_after_switch v.ring.config v.ring.state.reuse (ring_of v.ring.state) = omega (arith, after, c.from.ensures, c.owed.ensures.value, c.if-from-owed.false) in
    let is = switch_is opened v c.args.locks.now registers m shows going may room in
    let uniq : c.uniq-uniq.result ≡ m.log.ring.uniq = c.uniq-uniq.ensures ∙ ap (λ (r : RingValue). r.state.files.uniq) c.log-log.ensures ∙ ap (λ (r : Ring). r.uniq) shows.storage.ring in
    subst (λ (r : Reply × Machine). (Switched c.uniq-uniq.result ≡ r.0) × Shows opened c.switch.new.self.now c.args.locks.now registers r.1) (sym is)
    (ap (λ n. Switched n) uniq, switch_shown opened v c.args.locks.now registers m shows going may c.switch.new.self.now c.in-Ok.ensures.step c.in-Ok.ensures.ring)

pub returns-in-Ok-clause-turns : goal.returns-in-Ok-clause-turns
returns-in-Ok-clause-turns g c opened turns =
    let v = c.args.storage.now.now in
    let may : may_close v.ring ≡ true = search rules in
    let after = c.free_after_switch.ensures ∙ ap (λ (r : RingValue). free_after_switch r.config r.state.reuse (ring_of r.state)) c.log-log.ensures in
    let room : owed_of c.args.locks.now ≤ free_after_switch v.ring.config v.ring.state.reuse (ring_of v.ring.state) = omega (arith, after, c.from.ensures, c.owed.ensures.value, c.if-from-owed.false) in
    switch_turns opened v c.switch.new.self.now c.args.locks.now may room c.in-Ok.ensures.step c.in-Ok.ensures.ring turns

pub returns-in-Ok-clause-risen : goal.returns-in-Ok-clause-risen
returns-in-Ok-clause-risen g c = switch_rises c.args.storage.now.now c.switch.new.self.now c.in-Ok.ensures.step

pub returns-in-Ok-clause-goes : goal.returns-in-Ok-clause-goes
returns-in-Ok-clause-goes g c =
    record { going = ap (λ (v : Installation). v.stopped) c.in-Ok.ensures.step ∙ c.requires.going; config = ap (λ (v : Installation). v.ring.config) c.in-Ok.ensures.step; states = ap (λ (v : Installation). v.anchor.states) c.in-Ok.ensures.step }

pub returns-in-Ok-clause-stops : goal.returns-in-Ok-clause-stops
returns-in-Ok-clause-stops g c tells m before is =
    let v = c.args.storage.now.now in
    let last : v.ring.state.next - 1 ≡ last_of m = omega (arith, is.next) in
    subst (λ n. Stops (g.D.Disk.past c.args.storage.now.disk) (g.D.Disk.past c.switch.new.self.disk) (StandsFrom (config_of v) (behind_of before m) v.anchor (flushed_of v) n)) last (c.switch.ensures.stops tells (behind_of before m) is)

pub returns-in-Err-clause-stops : goal.returns-in-Err-clause-stops
returns-in-Err-clause-stops g c tells m before is =
    let v = c.args.storage.now.now in
    let last : v.ring.state.next - 1 ≡ last_of m = omega (arith, is.next) in
    subst (λ n. Stops (g.D.Disk.past c.args.storage.now.disk) (g.D.Disk.past c.switch.new.self.disk) (StandsFrom (config_of v) (behind_of before m) v.anchor (flushed_of v) n)) last (c.switch.ensures.stops tells (behind_of before m) is)
