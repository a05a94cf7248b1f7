-- A transaction begins.
use Rattle.std.specs.Prelude.{List, None, Option, Some, false, is_some, length, true, ℕ, ◌+◌, ◌<◌, ◌≡◌}
use Rattle.std.proofs.Common.{ap, arith, refl, subst, sym, ⊎_elim, ◌∙◌}
use Rattle.ol_values.specs.declared.event.Reply.{Reply}
use Rattle.ol_values.specs.declared.event.Reply.TheVariants.{Begun, TxnOpen}
use Rattle.ol_values.specs.declared.record.Record.TheVariants.{Begin}
use Rattle.ol_rules.specs.Locks.{Holding, owed_by_holding}
use Rattle.ol_rules.specs.Ring.{logged}
use Rattle.ol_model.specs.Answering.{no_room, unless}
use Rattle.ol_model.specs.Machine.{Machine, last_of, seat_of, with_seat}
use Rattle.ol_model.specs.SessionTurns.{begin_at}
use Rattle.ol_model.specs.Steps.{append}
use Rattle.ol_turn_laws.specs.Room.{Regular}
use Rattle.ol_log_state.specs.RingState.{ring_of}
use Rattle.ol_storage.specs.Installation.{Installation, IsGoing, appended}
use Rattle.ol_storage.specs.Installation.{config_of as config_in, last_of as last_behind}
use Rattle.ol_txn.specs.Seats.{IsSession, Seat, begun_seat}
use Rattle.ol_txn.specs.Seats.{seat_of as locks_of, with_seat as with_locks}
use Rattle.ol_engine.specs.Parts.{HasTurns, Registers, Shows, number_in, owed_of}
use Rattle.ol_engine.specs.Turns.{no_room_of}
use Rattle.ol_engine.proofs.Rooms.{finds, room_found, room_refused}
use Rattle.ol_engine.proofs.Seats.{begin_shows, idle_number}
use Rattle.ol_engine.proofs.Steps.{append_shows}
use Rattle.ol_engine.proofs.Tables.{held_set, owed_set}
use Rattle.ol_engine.proofs.Turns.{append_turns, has_more}
use Rattle.ol_session_turns.specs.Turns.{begin_turn}

-- what a session holds, where it has a transaction
pub record IsOpen (held : Option Holding) : Type 0 where
  pub holding : Holding
  pub is : held ≡ Some holding

pub is_open : (held : Option Holding) → is_some held ≡ true → IsOpen held
is_open None e = absurd (let c : false ≡ true = e in cc)
is_open (Some h) e = record { holding = h; is = refl }

pub none_open : (held : Option Holding) → is_some held ≡ false → held ≡ None
none_open None e = refl
none_open (Some h) e = absurd (let c : true ≡ false = e in cc)

-- the machine, where the session has no transaction
abbrev pub begun_machine : Machine → ℕ → Machine
begun_machine m k = with_seat k (record (seat_of m k) { txn = Some (last_of m + 1) }) (append (Begin (last_of m + 1)) m)

module _ (opened : ℕ) (v : Installation) (seats : List Seat) (registers : Registers) (m : Machine) (k : ℕ) (session : IsSession k) (shows : Shows opened v seats registers m) where
  pub open_is : (h : Holding) → (locks_of seats k).holding ≡ Some h → begin_turn m k ≡ (TxnOpen, m)
  open_is h holds =
      let some : (seat_of m k).txn ≡ Some h.number = sym (shows.sessions.numbers k session.0 session.1) ∙ ap number_in holds in
      ap (λ (t : Option ℕ). begin_at m k (seat_of m k) t) some

  idle_is : (locks_of seats k).holding ≡ None → begin_turn m k ≡ unless m (no_room m) (Begun (last_of m + 1), begun_machine m k)
  idle_is idle =
      let none : (seat_of m k).txn ≡ None = sym (shows.sessions.numbers k session.0 session.1) ∙ idle_number _ idle in
      ap (λ (t : Option ℕ). begin_at m k (seat_of m k) t) none

  pub begin_refused : (refusal : Reply) → IsGoing v → (locks_of seats k).holding ≡ None → no_room_of opened v seats ≡ Some refusal → begin_turn m k ≡ (refusal, m)
  begin_refused refusal going idle some = idle_is idle ∙ room_refused opened v seats m (Begun (last_of m + 1), begun_machine m k) refusal (finds opened v seats registers m shows going) some

  pub begin_is : IsGoing v → (locks_of seats k).holding ≡ None → no_room_of opened v seats ≡ None → begin_turn m k ≡ (Begun (last_of m + 1), begun_machine m k)
  begin_is going idle none = idle_is idle ∙ room_found opened v seats m (Begun (last_of m + 1), begun_machine m k) (finds opened v seats registers m shows going) none

  pub begun_shown : (w : Installation) (txn : ℕ) → length v.ring.state.buffer < v.ring.state.next → txn ≡ v.ring.state.next → (locks_of seats k).holding ≡ None → Regular m → w ≡ appended v (Begin txn) w.ring.gates → ring_of w.ring.state ≡ logged (config_in v) (ring_of v.ring.state) (last_behind v) (Begin txn)
      → Shows opened w (with_locks seats k (begun_seat txn (locks_of seats k))) registers (begun_machine m k)
  begun_shown w txn long is idle regular step ring =
      subst (λ n. Shows opened w (with_locks seats k (begun_seat txn (locks_of seats k))) registers (with_seat k (record (seat_of m k) { txn = Some n }) (append (Begin n) m))) (is ∙ shows.storage.next)
      (let s = append_shows v w (Begin txn) m long step ring shows.storage in
      record {
        storage = record { config = s.config; ring = s.ring; next = s.next; reached = s.reached; position = s.position; need = s.need; touched = s.touched; lasting = s.lasting };
        sessions = begin_shows seats registers m k txn session idle regular shows.sessions;
        since = shows.since;
      })

-- there is room behind it
pub begun_turns : (opened : ℕ) (v w : Installation) (seats : List Seat) (k txn : ℕ) → IsSession k → length seats ≡ 16 → length v.ring.state.buffer < v.ring.state.next → txn ≡ v.ring.state.next → (locks_of seats k).holding ≡ None → no_room_of opened v seats ≡ None
    → w ≡ appended v (Begin txn) w.ring.gates → ring_of w.ring.state ≡ logged (config_in v) (ring_of v.ring.state) (last_behind v) (Begin txn) → HasTurns opened v seats → HasTurns opened w (with_locks seats k (begun_seat txn (locks_of seats k)))
begun_turns opened v w seats k txn session sixteen long is idle none step ring turns =
    let now = with_locks seats k (begun_seat txn (locks_of seats k)) in
    let more = has_more opened v seats none in
    let before : owed_by_holding (locks_of seats k).holding ≡ 0 = ap owed_by_holding idle in
    let owed : owed_of now ≡ owed_of seats + 1 = omega (arith, owed_set seats k (begun_seat txn (locks_of seats k)) sixteen session, before) in
    append_turns opened v w seats now (Begin txn) (omega arith) long step ring turns (omega (arith, more.log)) (omega (arith, more.log, owed)) (omega (arith, more.records, owed)) (omega (arith, more.positions, owed))
    (λ i h e. ⊎_elim
    (λ (own : (begun_seat txn (locks_of seats k)).holding ≡ Some h). let number : txn ≡ h.number = (let c : Some _ ≡ Some h = own in cc) in (omega (arith, number, is, turns.need), omega (arith, number, is)))
    (λ old. let both = turns.numbers i h old in (both.0, omega (arith, both.1)))
    (held_set seats k i (begun_seat txn (locks_of seats k)) h sixteen session e))
