use Rattle.std.specs.Prelude.{◌≡◌}
use Rattle.std.proofs.Common.{refl, subst, sym, ◌∙◌}
use Rattle.ol_values.specs.declared.event.Reply.{Reply}
use Rattle.ol_values.specs.declared.event.Reply.TheVariants.{TxnOpen}
use Rattle.ol_model.specs.Machine.{Machine}
use Rattle.ol_ports.proofs.StopLaws.{stops_none}
use Rattle.ol_ports.specs.Stops.{Stops}
use Rattle.ol_storage.specs.Storing.{IsStored}
use Rattle.ol_txn.specs.Seats.{seat_of as locks_of}
use Rattle.ol_engine.specs.Parts.{Shows, behind_of}
use Rattle.ol_engine.specs.Turns.{StandsWithinTurn}
use Rattle.ol_engine.proofs.Results.{when_false}
use Rattle.ol_engine.proofs.Stops.{rest_stops}
use Rattle.ol_session_turns.proofs.Begins.{IsOpen, begin_refused, is_open, none_open, open_is}
use Rattle.ol_session_turns.proofs.transactions.begin.Goals as goal

pub returns-then-is_open-clause-answer : goal.returns-then-is_open-clause-answer
returns-then-is_open-clause-answer g c m registers shows regular =
    let v = c.args.storage.now.now in
    let has : IsOpen (locks_of c.args.locks.now c.args.session).holding = is_open _ (sym c.is_open.ensures.value ∙ c.if-is_open.true) in
    let is = open_is c.args.opened v c.args.locks.now registers m c.args.session c.requires.session shows has.holding has.is in
    subst (λ (r : Reply × Machine). (TxnOpen ≡ r.0) × Shows c.args.opened v c.args.locks.now registers r.1) (sym is) (refl, shows)

pub returns-then-is_open-clause-stops : goal.returns-then-is_open-clause-stops
returns-then-is_open-clause-stops g c tells m registers before shows regular stored =
    let v = c.args.storage.now.now in
    let has : IsOpen (locks_of c.args.locks.now c.args.session).holding = is_open _ (sym c.is_open.ensures.value ∙ c.if-is_open.true) in
    let is = open_is c.args.opened v c.args.locks.now registers m c.args.session c.requires.session shows has.holding has.is in
    subst (λ (r : Reply × Machine). Stops (g.D.Disk.past c.args.storage.now.disk) (g.D.Disk.past c.args.storage.now.disk) (StandsWithinTurn v before r.1)) (sym is)
    (stops_none _ _ (λ d rest. rest_stops v before m d shows.storage.next (c.is_stopped-stands.ensures.stands tells (behind_of before m) stored d rest)))

pub returns-then-is_open-clause-stored : goal.returns-then-is_open-clause-stored
returns-then-is_open-clause-stored g c tells m registers before shows regular stored =
    let v = c.args.storage.now.now in
    let has : IsOpen (locks_of c.args.locks.now c.args.session).holding = is_open _ (sym c.is_open.ensures.value ∙ c.if-is_open.true) in
    let is = open_is c.args.opened v c.args.locks.now registers m c.args.session c.requires.session shows has.holding has.is in
    subst (λ (r : Reply × Machine). IsStored (g.D.Disk.past c.args.storage.now.disk) v (behind_of before r.1)) (sym is) stored

pub returns-in-Some-clause-answer : goal.returns-in-Some-clause-answer
returns-in-Some-clause-answer g c m registers shows regular =
    let v = c.args.storage.now.now in
    let going = when_false _ _ c.is_stopped-stands.ensures.going (c.is_stopped-stands.ensures.value ∙ c.requires.going) in
    let idle = none_open _ (sym c.is_open.ensures.value ∙ c.if-is_open.false) in
    let is = begin_refused c.args.opened v c.args.locks.now registers m c.args.session c.requires.session shows c.in-Some.refusal going idle (sym c.no_room.ensures.value ∙ c.in-Some.is) in
    subst (λ (r : Reply × Machine). (c.in-Some.refusal ≡ r.0) × Shows c.args.opened v c.args.locks.now registers r.1) (sym is) (refl, shows)

pub returns-in-Some-clause-stops : goal.returns-in-Some-clause-stops
returns-in-Some-clause-stops g c tells m registers before shows regular stored =
    let v = c.args.storage.now.now in
    let going = when_false _ _ c.is_stopped-stands.ensures.going (c.is_stopped-stands.ensures.value ∙ c.requires.going) in
    let idle = none_open _ (sym c.is_open.ensures.value ∙ c.if-is_open.false) in
    let is = begin_refused c.args.opened v c.args.locks.now registers m c.args.session c.requires.session shows c.in-Some.refusal going idle (sym c.no_room.ensures.value ∙ c.in-Some.is) in
    subst (λ (r : Reply × Machine). Stops (g.D.Disk.past c.args.storage.now.disk) (g.D.Disk.past c.args.storage.now.disk) (StandsWithinTurn v before r.1)) (sym is)
    (stops_none _ _ (λ d rest. rest_stops v before m d shows.storage.next (c.is_stopped-stands.ensures.stands tells (behind_of before m) stored d rest)))

pub returns-in-Some-clause-stored : goal.returns-in-Some-clause-stored
returns-in-Some-clause-stored g c tells m registers before shows regular stored =
    let v = c.args.storage.now.now in
    let going = when_false _ _ c.is_stopped-stands.ensures.going (c.is_stopped-stands.ensures.value ∙ c.requires.going) in
    let idle = none_open _ (sym c.is_open.ensures.value ∙ c.if-is_open.false) in
    let is = begin_refused c.args.opened v c.args.locks.now registers m c.args.session c.requires.session shows c.in-Some.refusal going idle (sym c.no_room.ensures.value ∙ c.in-Some.is) in
    subst (λ (r : Reply × Machine). IsStored (g.D.Disk.past c.args.storage.now.disk) v (behind_of before r.1)) (sym is) stored
