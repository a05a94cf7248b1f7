use Rattle.std.specs.Prelude.{◌-◌, ◌≡◌}
use Rattle.std.proofs.Common.{ap, arith, ◌∙◌}
use Rattle.ol_values.specs.declared.event.Reply.TheVariants.{Checkpointed}
use Rattle.ol_model.specs.Machine.{last_of}
use Rattle.ol_loglog.specs.RingValue.{RingValue}
use Rattle.ol_storage.specs.Installation.{Installation}
use Rattle.ol_log_turns.proofs.turns.checkpoint.Goals as goal

pub returns-in-Ok-clause-answer : goal.returns-in-Ok-clause-answer
returns-in-Ok-clause-answer g c opened m registers shows regular =
    let position : c.next_position-position.result ≡ c.args.storage.now.now.ring.state.next = c.next_position-position.ensures.value ∙ ap (λ (r : RingValue). r.state.next) c.log.ensures in
    let last : c.next_position-position.result - 1 ≡ last_of m = omega (arith, position, shows.storage.next) in
    (ap (λ n. Checkpointed n) last, c.in-Ok.ensures.shows opened m registers shows regular)

pub returns-in-Ok-clause-goes : goal.returns-in-Ok-clause-goes
returns-in-Ok-clause-goes g c =
    record { going = ap (λ (v : Installation). v.stopped) c.in-Ok.ensures.step ∙ c.requires.going; config = ap (λ (v : Installation). v.ring.config) c.in-Ok.ensures.step; states = ap (λ (v : Installation). v.anchor.states) c.in-Ok.ensures.step }
