use Rattle.std.specs.Prelude.{Option, ℕ, ◌-◌, ◌≡◌}
use Rattle.std.proofs.Common.{ap, arith, refl, subst, sym, ◌∙◌}
use Rattle.ol_model.specs.Machine.{last_of}
use Rattle.ol_log_state.specs.RingState.{ring_of}
use Rattle.ol_ports.specs.Stops.{Stops}
use Rattle.ol_storage.specs.Installation.{Installation, cleaned, cleaned_ring, config_of, flushed, flushed_of}
use Rattle.ol_storage.specs.Standing.{StandsFrom}
use Rattle.ol_engine.specs.Parts.{behind_of}
use Rattle.ol_engine.proofs.Turns.{flush_turns, turns_beside}
use Rattle.ol_log_turns.proofs.turns.clean.Goals as goal

pub returns-in-Ok-Some-clause-turns : goal.returns-in-Ok-Some-clause-turns
returns-in-Ok-Some-clause-turns g c opened seats turns =
    let v = c.args.storage.now.now in
    let w = c.clean_one.new.self.now in
    let u : Installation = flushed v w.ring.gates in
    let step = c.in-Ok-Some.ensures.step ∙ ap (λ (p : Option (ℕ × ℕ)). cleaned v w.ring.gates p) c.in-Ok-Some.field-0-is in
    let ring = c.in-Ok-Some.ensures.ring ∙ ap (λ (p : Option (ℕ × ℕ)). cleaned_ring v p) c.in-Ok-Some.field-0-is in
    turns_beside opened u w seats (ap (λ (x : Installation). x.ring) step) (ap (λ (x : Installation). x.anchor) step) (ap (λ (x : Installation). x.reached) step)
    (flush_turns opened v u seats refl (ap (λ (x : Installation). ring_of x.ring.state) (sym step) ∙ ring) turns)

pub returns-in-Ok-Some-clause-goes : goal.returns-in-Ok-Some-clause-goes
returns-in-Ok-Some-clause-goes g c =
    let step = c.in-Ok-Some.ensures.step ∙ ap (λ (p : Option (ℕ × ℕ)). cleaned c.args.storage.now.now c.clean_one.new.self.now.ring.gates p) c.in-Ok-Some.field-0-is in
    record { going = ap (λ (v : Installation). v.stopped) step ∙ c.requires.going; config = ap (λ (v : Installation). v.ring.config) step; states = ap (λ (v : Installation). v.anchor.states) step }

pub returns-in-Ok-Some-clause-stops : goal.returns-in-Ok-Some-clause-stops
returns-in-Ok-Some-clause-stops g c tells m before is =
    let v = c.args.storage.now.now in
    let last : v.ring.state.next - 1 ≡ last_of m = omega (arith, is.next) in
    subst (λ n. Stops (g.D.Disk.past c.args.storage.now.disk) (g.D.Disk.past c.clean_one.new.self.disk) (StandsFrom (config_of v) (behind_of before m) v.anchor (flushed_of v) n)) last (c.clean_one.ensures.stops tells (behind_of before m) is)
