use Rattle.std.specs.Prelude.{List, ◌≡◌}
use Rattle.std.proofs.Common.{ap, arith, refl, subst, sym, ◌∙◌}
use Rattle.ol_values.specs.declared.event.Reply.{Reply}
use Rattle.ol_values.specs.declared.event.Reply.TheVariants.{RolledBack}
use Rattle.ol_values.specs.declared.record.Record.TheVariants.{Rolled}
use Rattle.ol_model.specs.Machine.{Machine}
use Rattle.ol_loglog.specs.RingValue.{RingValue}
use Rattle.ol_ports.proofs.StopLaws.{stops_weaker}
use Rattle.ol_ports.specs.Stops.{Stops}
use Rattle.ol_storage.specs.Behind.{Behind}
use Rattle.ol_storage.specs.Installation.{Installation}
use Rattle.ol_storage.specs.Storing.{IsStored}
use Rattle.ol_txn.specs.Seats.{Seat}
use Rattle.ol_engine.specs.Parts.{HasTurns, Shows, behind_of}
use Rattle.ol_engine.specs.Turns.{StandsWithinTurn}
use Rattle.ol_engine.proofs.Stops.{behind_more, record_stops}
use Rattle.ol_session_turns.specs.Pending.{HoldsNoMore}
use Rattle.ol_session_turns.proofs.Ends.{end_is, ended_turns, open_owed, rolled_machine, rolled_shown}
use Rattle.ol_session_turns.proofs.Places.{forgotten_held}
use Rattle.ol_session_turns.proofs.transactions.end_rolled.Goals as goal

pub append-requires-clause-low : goal.append-requires-clause-low
append-requires-clause-low g c =
    let owed = open_owed c.args.locks.now c.args.session c.args.txn c.requires.session c.is_open.ensures.sessions c.requires.open in
    (omega (arith, c.requires.rise.uniq), omega (arith, owed, c.requires.turns.1.positions, c.is_stopped.ensures.ring.limits.first))

pub returns-in-Ok-clause-answer : goal.returns-in-Ok-clause-answer
returns-in-Ok-clause-answer g c opened m registers shows regular =
    let v = c.args.storage.now.now in
    let position : c.next_position-position.result ≡ v.ring.state.next = c.next_position-position.ensures.value ∙ ap (λ (r : RingValue). r.state.next) c.log.ensures in
    let is = end_is opened v c.args.locks.now registers m c.args.session c.requires.session shows c.args.txn c.requires.open in
    let shown = rolled_shown opened v c.args.locks.now registers m c.args.session c.requires.session shows c.append.new.self.now c.args.txn c.is_stopped.ensures.ring.limits.first c.requires.open regular c.in-Ok.ensures.step c.in-Ok.ensures.ring in
    subst (λ (r : Reply × Machine). (RolledBack c.next_position-position.result ≡ r.0) × Shows opened c.append.new.self.now c.forget.new.self registers r.1) (sym is)
    (ap (λ n. RolledBack n) (position ∙ shows.storage.next), subst (λ (l : List Seat). Shows opened c.append.new.self.now l registers (rolled_machine m c.args.session c.args.txn)) (sym c.forget.ensures) shown)

pub returns-in-Ok-clause-turns : goal.returns-in-Ok-clause-turns
returns-in-Ok-clause-turns g c opened turns =
    let v = c.args.storage.now.now in
    subst (λ (l : List Seat). HasTurns opened c.append.new.self.now l) (sym c.forget.ensures)
    (ended_turns opened v c.append.new.self.now c.args.locks.now c.args.session c.args.txn (Rolled c.args.txn) (omega arith) c.requires.session c.is_open.ensures.sessions c.is_stopped.ensures.ring.limits.first c.requires.open c.in-Ok.ensures.step c.in-Ok.ensures.ring turns)

pub returns-in-Ok-clause-goes : goal.returns-in-Ok-clause-goes
returns-in-Ok-clause-goes g c =
    record { going = ap (λ (v : Installation). v.stopped) c.in-Ok.ensures.step ∙ c.requires.going; config = ap (λ (v : Installation). v.ring.config) c.in-Ok.ensures.step; states = ap (λ (v : Installation). v.anchor.states) c.in-Ok.ensures.step }

pub returns-in-Ok-clause-places : goal.returns-in-Ok-clause-places
returns-in-Ok-clause-places g c =
    subst (λ (l : List Seat). HoldsNoMore c.args.locks.now l) (sym c.forget.ensures)
    (forgotten_held c.args.locks.now c.args.session c.requires.session c.is_open.ensures.sessions)

pub returns-in-Ok-clause-stops : goal.returns-in-Ok-clause-stops
returns-in-Ok-clause-stops g c tells opened m registers before shows regular is =
    let v = c.args.storage.now.now in
    let turn = end_is opened v c.args.locks.now registers m c.args.session c.requires.session shows c.args.txn c.requires.open in
    subst (λ (r : Reply × Machine). Stops (g.D.Disk.past c.args.storage.now.disk) (g.D.Disk.past c.append.new.self.disk) (StandsWithinTurn v before r.1)) (sym turn)
    (stops_weaker _ _ _ _ (λ d s. record_stops v before m (Rolled c.args.txn) d is.behind shows.storage.next s) (c.append.ensures.stops tells (behind_of before m) is))

pub returns-in-Ok-clause-stored : goal.returns-in-Ok-clause-stored
returns-in-Ok-clause-stored g c tells opened m registers before shows regular is =
    let v = c.args.storage.now.now in
    let turn = end_is opened v c.args.locks.now registers m c.args.session c.requires.session shows c.args.txn c.requires.open in
    let held = subst (λ (b : Behind). IsStored (g.D.Disk.past c.append.new.self.disk) c.append.new.self.now b) (sym (behind_more before m (Rolled c.args.txn))) (c.in-Ok.ensures.stored tells (behind_of before m) is (λ space page up there. refl)) in
    subst (λ (r : Reply × Machine). IsStored (g.D.Disk.past c.append.new.self.disk) c.append.new.self.now (behind_of before r.1)) (sym turn) held

pub returns-in-Err-clause-stops : goal.returns-in-Err-clause-stops
returns-in-Err-clause-stops g c tells opened m registers before shows regular is =
    let v = c.args.storage.now.now in
    let turn = end_is opened v c.args.locks.now registers m c.args.session c.requires.session shows c.args.txn c.requires.open in
    subst (λ (r : Reply × Machine). Stops (g.D.Disk.past c.args.storage.now.disk) (g.D.Disk.past c.append.new.self.disk) (StandsWithinTurn v before r.1)) (sym turn)
    (stops_weaker _ _ _ _ (λ d s. record_stops v before m (Rolled c.args.txn) d is.behind shows.storage.next s) (c.append.ensures.stops tells (behind_of before m) is))
