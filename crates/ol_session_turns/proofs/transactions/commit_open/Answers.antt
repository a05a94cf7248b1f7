use Rattle.std.specs.Prelude.{List, ◌≡◌}
use Rattle.std.proofs.Common.{ap, arith, refl, subst, sym, ◌∙◌}
use Rattle.ol_values.specs.declared.event.Reply.{Reply}
use Rattle.ol_values.specs.declared.event.Reply.TheVariants.{Committed}
use Rattle.ol_values.specs.declared.record.Record.TheVariants.{Commit}
use Rattle.ol_model.specs.Machine.{Machine}
use Rattle.ol_model.specs.Steps.{append}
use Rattle.ol_loglog.specs.RingValue.{RingValue}
use Rattle.ol_ports.proofs.StopLaws.{stops_both, stops_weaker}
use Rattle.ol_ports.specs.Stops.{Stops}
use Rattle.ol_storage.specs.Behind.{Behind}
use Rattle.ol_storage.specs.Installation.{Installation}
use Rattle.ol_storage.specs.Storing.{IsStored}
use Rattle.ol_txn.specs.Seats.{Seat}
use Rattle.ol_engine.specs.Parts.{HasTurns, Shows, behind_of}
use Rattle.ol_engine.specs.Turns.{StandsWithinTurn}
use Rattle.ol_engine.proofs.Stops.{appended_stops, behind_more, record_stops}
use Rattle.ol_engine.proofs.Turns.{append_rises, append_room, flush_rises, flush_turns, risen_both}
use Rattle.ol_session_turns.specs.Pending.{HoldsNoMore}
use Rattle.ol_session_turns.proofs.Ends.{commit_is, committed_machine, committed_shown, ended_turns, open_owed, owes_one}
use Rattle.ol_session_turns.proofs.Places.{forgotten_held}
use Rattle.ol_session_turns.proofs.transactions.commit_open.Goals as goal

pub append-requires-clause-low : goal.append-requires-clause-low
append-requires-clause-low g c =
    let owed = open_owed c.args.locks.now c.args.session c.args.txn c.requires.session c.is_open.ensures.sessions c.requires.open in
    (omega (arith, c.requires.rise.uniq), omega (arith, owed, c.requires.turns.1.positions, c.is_stopped.ensures.ring.limits.first))

pub flush-requires-clause-room : goal.flush-requires-clause-room
flush-requires-clause-room g c =
    let v = c.args.storage.now.now in
    append_room v c.append.new.self.now (Commit c.args.txn) (omega arith)
    (owes_one c.requires.turns.0 v c.args.locks.now c.args.session c.args.txn c.requires.session c.is_open.ensures.sessions c.requires.open c.requires.turns.1)
    c.is_stopped.ensures.ring.limits.first c.in-Ok.ensures.step c.in-Ok.ensures.ring

pub flush-requires-clause-low : goal.flush-requires-clause-low
flush-requires-clause-low g c =
    let risen = append_rises c.args.storage.now.now c.append.new.self.now (Commit c.args.txn) c.in-Ok.ensures.step in
    omega (arith, risen.uniq, c.requires.rise.uniq)

pub returns-in-Err-clause-stops : goal.returns-in-Err-clause-stops
returns-in-Err-clause-stops g c tells opened m registers before shows regular is =
    let v = c.args.storage.now.now in
    let turn = commit_is opened v c.args.locks.now registers m c.args.session c.requires.session shows c.args.txn c.requires.open in
    subst (λ (r : Reply × Machine). Stops (g.D.Disk.past c.args.storage.now.disk) (g.D.Disk.past c.append.new.self.disk) (StandsWithinTurn v before r.1)) (sym turn)
    (stops_weaker _ _ _ _ (λ d s. record_stops v before m (Commit c.args.txn) d is.behind shows.storage.next s) (c.append.ensures.stops tells (behind_of before m) is))

pub returns-in-Ok-flush-clause-answer : goal.returns-in-Ok-flush-clause-answer
returns-in-Ok-flush-clause-answer g c opened m registers shows regular =
    let v = c.args.storage.now.now in
    let position : c.next_position-position.result ≡ v.ring.state.next = c.next_position-position.ensures.value ∙ ap (λ (r : RingValue). r.state.next) c.log.ensures in
    let is = commit_is opened v c.args.locks.now registers m c.args.session c.requires.session shows c.args.txn c.requires.open in
    let shown = committed_shown opened v c.args.locks.now registers m c.args.session c.requires.session shows c.append.new.self.now c.flush.new.self.now c.args.txn c.is_stopped.ensures.ring.limits.first c.requires.open regular c.in-Ok.ensures.step c.in-Ok.ensures.ring c.in-Ok-flush.ensures.step c.in-Ok-flush.ensures.ring in
    subst (λ (r : Reply × Machine). (Committed c.next_position-position.result ≡ r.0) × Shows opened c.flush.new.self.now c.forget.new.self registers r.1) (sym is)
    (ap (λ n. Committed n) (position ∙ shows.storage.next), subst (λ (l : List Seat). Shows opened c.flush.new.self.now l registers (committed_machine m c.args.session c.args.txn)) (sym c.forget.ensures) shown)

pub returns-in-Ok-flush-clause-turns : goal.returns-in-Ok-flush-clause-turns
returns-in-Ok-flush-clause-turns g c opened turns =
    let v = c.args.storage.now.now in
    subst (λ (l : List Seat). HasTurns opened c.flush.new.self.now l) (sym c.forget.ensures)
    (flush_turns opened c.append.new.self.now c.flush.new.self.now _ c.in-Ok-flush.ensures.step c.in-Ok-flush.ensures.ring
    (ended_turns opened v c.append.new.self.now c.args.locks.now c.args.session c.args.txn (Commit c.args.txn) (omega arith) c.requires.session c.is_open.ensures.sessions c.is_stopped.ensures.ring.limits.first c.requires.open c.in-Ok.ensures.step c.in-Ok.ensures.ring turns))

pub returns-in-Ok-flush-clause-risen : goal.returns-in-Ok-flush-clause-risen
returns-in-Ok-flush-clause-risen g c =
    risen_both 1 1 c.args.storage.now.now c.append.new.self.now c.flush.new.self.now
    (append_rises c.args.storage.now.now c.append.new.self.now (Commit c.args.txn) c.in-Ok.ensures.step) (flush_rises c.append.new.self.now c.flush.new.self.now c.in-Ok-flush.ensures.step)

pub returns-in-Ok-flush-clause-goes : goal.returns-in-Ok-flush-clause-goes
returns-in-Ok-flush-clause-goes g c = record {
  going = ap (λ (v : Installation). v.stopped) c.in-Ok-flush.ensures.step ∙ ap (λ (v : Installation). v.stopped) c.in-Ok.ensures.step ∙ c.requires.going;
  config = ap (λ (v : Installation). v.ring.config) c.in-Ok-flush.ensures.step ∙ ap (λ (v : Installation). v.ring.config) c.in-Ok.ensures.step;
  states = ap (λ (v : Installation). v.anchor.states) c.in-Ok-flush.ensures.step ∙ ap (λ (v : Installation). v.anchor.states) c.in-Ok.ensures.step;
}

pub returns-in-Ok-flush-clause-places : goal.returns-in-Ok-flush-clause-places
returns-in-Ok-flush-clause-places g c =
    subst (λ (l : List Seat). HoldsNoMore c.args.locks.now l) (sym c.forget.ensures)
    (forgotten_held c.args.locks.now c.args.session c.requires.session c.is_open.ensures.sessions)

pub returns-in-Ok-flush-clause-stops : goal.returns-in-Ok-flush-clause-stops
returns-in-Ok-flush-clause-stops g c tells opened m registers before shows regular is =
    let v = c.args.storage.now.now in
    let turn = commit_is opened v c.args.locks.now registers m c.args.session c.requires.session shows c.args.txn c.requires.open in
    let held = subst (λ (b : Behind). IsStored (g.D.Disk.past c.append.new.self.disk) c.append.new.self.now b) (sym (behind_more before m (Commit c.args.txn))) (c.in-Ok.ensures.stored tells (behind_of before m) is (λ space page up there. refl)) in
    subst (λ (r : Reply × Machine). Stops (g.D.Disk.past c.args.storage.now.disk) (g.D.Disk.past c.flush.new.self.disk) (StandsWithinTurn v before r.1)) (sym turn)
    (stops_both _ (g.D.Disk.past c.append.new.self.disk) _ _
    (stops_weaker _ _ _ _ (λ d s. record_stops v before m (Commit c.args.txn) d is.behind shows.storage.next s) (c.append.ensures.stops tells (behind_of before m) is))
    (stops_weaker _ _ _ _ (λ d s. appended_stops v c.append.new.self.now before m (Commit c.args.txn) d c.is_stopped.ensures.ring.limits.first c.in-Ok.ensures.step shows.storage.next s) (c.flush.ensures.stops tells (behind_of before (append (Commit c.args.txn) m)) held)))

pub returns-in-Ok-flush-clause-stored : goal.returns-in-Ok-flush-clause-stored
returns-in-Ok-flush-clause-stored g c tells opened m registers before shows regular is =
    let v = c.args.storage.now.now in
    let turn = commit_is opened v c.args.locks.now registers m c.args.session c.requires.session shows c.args.txn c.requires.open in
    let held = subst (λ (b : Behind). IsStored (g.D.Disk.past c.append.new.self.disk) c.append.new.self.now b) (sym (behind_more before m (Commit c.args.txn))) (c.in-Ok.ensures.stored tells (behind_of before m) is (λ space page up there. refl)) in
    subst (λ (r : Reply × Machine). IsStored (g.D.Disk.past c.flush.new.self.disk) c.flush.new.self.now (behind_of before r.1)) (sym turn) (c.in-Ok-flush.ensures.stored tells (behind_of before (append (Commit c.args.txn) m)) held)

pub returns-in-Err-flush-clause-stops : goal.returns-in-Err-flush-clause-stops
returns-in-Err-flush-clause-stops g c tells opened m registers before shows regular is =
    let v = c.args.storage.now.now in
    let turn = commit_is opened v c.args.locks.now registers m c.args.session c.requires.session shows c.args.txn c.requires.open in
    let held = subst (λ (b : Behind). IsStored (g.D.Disk.past c.append.new.self.disk) c.append.new.self.now b) (sym (behind_more before m (Commit c.args.txn))) (c.in-Ok.ensures.stored tells (behind_of before m) is (λ space page up there. refl)) in
    subst (λ (r : Reply × Machine). Stops (g.D.Disk.past c.args.storage.now.disk) (g.D.Disk.past c.flush.new.self.disk) (StandsWithinTurn v before r.1)) (sym turn)
    (stops_both _ (g.D.Disk.past c.append.new.self.disk) _ _
    (stops_weaker _ _ _ _ (λ d s. record_stops v before m (Commit c.args.txn) d is.behind shows.storage.next s) (c.append.ensures.stops tells (behind_of before m) is))
    (stops_weaker _ _ _ _ (λ d s. appended_stops v c.append.new.self.now before m (Commit c.args.txn) d c.is_stopped.ensures.ring.limits.first c.in-Ok.ensures.step shows.storage.next s) (c.flush.ensures.stops tells (behind_of before (append (Commit c.args.txn) m)) held)))
