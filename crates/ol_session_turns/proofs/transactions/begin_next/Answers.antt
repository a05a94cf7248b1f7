use Rattle.std.specs.Prelude.{List, ◌+◌, ◌≡◌}
use Rattle.std.proofs.Common.{ap, refl, subst, sym, ◌∙◌}
use Rattle.ol_values.specs.declared.event.Reply.{Reply}
use Rattle.ol_values.specs.declared.event.Reply.TheVariants.{Begun}
use Rattle.ol_values.specs.declared.record.Record.TheVariants.{Begin}
use Rattle.ol_model.specs.Machine.{Machine, last_of}
use Rattle.ol_model.specs.Steps.{append}
use Rattle.ol_loglog.specs.RingValue.{RingValue}
use Rattle.ol_ports.proofs.StopLaws.{stops_weaker}
use Rattle.ol_ports.specs.Stops.{Stops}
use Rattle.ol_storage.specs.Behind.{Behind}
use Rattle.ol_storage.specs.Installation.{Installation}
use Rattle.ol_storage.specs.Storing.{IsStored}
use Rattle.ol_txn.specs.Seats.{Seat}
use Rattle.ol_engine.specs.Parts.{HasTurns, Shows, behind_of}
use Rattle.ol_engine.specs.Turns.{StandsWithinTurn}
use Rattle.ol_engine.proofs.Results.{when_false}
use Rattle.ol_engine.proofs.Stops.{behind_more, record_stops}
use Rattle.ol_engine.proofs.Turns.{append_rises}
use Rattle.ol_session_turns.specs.Pending.{HoldsNoMore}
use Rattle.ol_session_turns.proofs.Begins.{begin_is, begun_machine, begun_shown, begun_turns}
use Rattle.ol_session_turns.proofs.Places.{begun_held}
use Rattle.ol_session_turns.proofs.transactions.begin_next.Goals as goal

pub returns-in-Ok-clause-answer : goal.returns-in-Ok-clause-answer
returns-in-Ok-clause-answer g c m registers shows regular =
    let v = c.args.storage.now.now in
    let going = when_false _ _ c.is_stopped.ensures.going (c.is_stopped.ensures.value ∙ c.requires.going) in
    let txn : c.next_position-txn.result ≡ v.ring.state.next = c.next_position-txn.ensures.value ∙ ap (λ (r : RingValue). r.state.next) c.log.ensures in
    let is = begin_is c.args.opened v c.args.locks.now registers m c.args.session c.requires.session shows going c.requires.idle c.requires.room in
    let shown = begun_shown c.args.opened v c.args.locks.now registers m c.args.session c.requires.session shows c.append.new.self.now c.next_position-txn.result c.is_stopped.ensures.ring.limits.first txn c.requires.idle regular c.in-Ok.ensures.step c.in-Ok.ensures.ring in
    subst (λ (r : Reply × Machine). (Begun c.next_position-txn.result ≡ r.0) × Shows c.args.opened c.append.new.self.now c.begin-begun.new.self registers r.1) (sym is)
    (ap (λ n. Begun n) (txn ∙ shows.storage.next), subst (λ (l : List Seat). Shows c.args.opened c.append.new.self.now l registers (begun_machine m c.args.session)) (sym c.begin-begun.ensures.begun) shown)

pub returns-in-Ok-clause-turns : goal.returns-in-Ok-clause-turns
returns-in-Ok-clause-turns g c =
    let v = c.args.storage.now.now in
    let txn : c.next_position-txn.result ≡ v.ring.state.next = c.next_position-txn.ensures.value ∙ ap (λ (r : RingValue). r.state.next) c.log.ensures in
    subst (λ (l : List Seat). HasTurns c.args.opened c.append.new.self.now l) (sym c.begin-begun.ensures.begun)
    (begun_turns c.args.opened v c.append.new.self.now c.args.locks.now c.args.session c.next_position-txn.result c.requires.session c.is_open.ensures.sessions c.is_stopped.ensures.ring.limits.first txn c.requires.idle c.requires.room c.in-Ok.ensures.step c.in-Ok.ensures.ring c.requires.turns)

pub returns-in-Ok-clause-risen : goal.returns-in-Ok-clause-risen
returns-in-Ok-clause-risen g c = append_rises c.args.storage.now.now c.append.new.self.now (Begin c.next_position-txn.result) c.in-Ok.ensures.step

pub returns-in-Ok-clause-goes : goal.returns-in-Ok-clause-goes
returns-in-Ok-clause-goes g c =
    record { going = ap (λ (v : Installation). v.stopped) c.in-Ok.ensures.step ∙ c.requires.going; config = ap (λ (v : Installation). v.ring.config) c.in-Ok.ensures.step; states = ap (λ (v : Installation). v.anchor.states) c.in-Ok.ensures.step }

pub returns-in-Ok-clause-places : goal.returns-in-Ok-clause-places
returns-in-Ok-clause-places g c =
    subst (λ (l : List Seat). HoldsNoMore c.args.locks.now l) (sym c.begin-begun.ensures.begun)
    (begun_held c.args.locks.now c.args.session c.requires.session c.is_open.ensures.sessions c.next_position-txn.result)

pub returns-in-Ok-clause-stops : goal.returns-in-Ok-clause-stops
returns-in-Ok-clause-stops g c tells m registers before shows regular is =
    let v = c.args.storage.now.now in
    let going = when_false _ _ c.is_stopped.ensures.going (c.is_stopped.ensures.value ∙ c.requires.going) in
    let turn = begin_is c.args.opened v c.args.locks.now registers m c.args.session c.requires.session shows going c.requires.idle c.requires.room in
    subst (λ (r : Reply × Machine). Stops (g.D.Disk.past c.args.storage.now.disk) (g.D.Disk.past c.append.new.self.disk) (StandsWithinTurn v before r.1)) (sym turn)
    (stops_weaker _ _ _ _ (λ d s. record_stops v before m (Begin (last_of m + 1)) d is.behind shows.storage.next s) (c.append.ensures.stops tells (behind_of before m) is))

pub returns-in-Ok-clause-stored : goal.returns-in-Ok-clause-stored
returns-in-Ok-clause-stored g c tells m registers before shows regular is =
    let v = c.args.storage.now.now in
    let going = when_false _ _ c.is_stopped.ensures.going (c.is_stopped.ensures.value ∙ c.requires.going) in
    let txn : c.next_position-txn.result ≡ v.ring.state.next = c.next_position-txn.ensures.value ∙ ap (λ (r : RingValue). r.state.next) c.log.ensures in
    let turn = begin_is c.args.opened v c.args.locks.now registers m c.args.session c.requires.session shows going c.requires.idle c.requires.room in
    subst (λ (r : Reply × Machine). IsStored (g.D.Disk.past c.append.new.self.disk) c.append.new.self.now (behind_of before r.1)) (sym turn)
    (subst (λ n. IsStored (g.D.Disk.past c.append.new.self.disk) c.append.new.self.now (behind_of before (append (Begin n) m))) (txn ∙ shows.storage.next)
    (subst (λ (b : Behind). IsStored (g.D.Disk.past c.append.new.self.disk) c.append.new.self.now b) (sym (behind_more before m (Begin c.next_position-txn.result)))
    (c.in-Ok.ensures.stored tells (behind_of before m) is (λ space page up there. refl))))

pub returns-in-Err-clause-stops : goal.returns-in-Err-clause-stops
returns-in-Err-clause-stops g c tells m registers before shows regular is =
    let v = c.args.storage.now.now in
    let going = when_false _ _ c.is_stopped.ensures.going (c.is_stopped.ensures.value ∙ c.requires.going) in
    let turn = begin_is c.args.opened v c.args.locks.now registers m c.args.session c.requires.session shows going c.requires.idle c.requires.room in
    subst (λ (r : Reply × Machine). Stops (g.D.Disk.past c.args.storage.now.disk) (g.D.Disk.past c.append.new.self.disk) (StandsWithinTurn v before r.1)) (sym turn)
    (stops_weaker _ _ _ _ (λ d s. record_stops v before m (Begin (last_of m + 1)) d is.behind shows.storage.next s) (c.append.ensures.stops tells (behind_of before m) is))
