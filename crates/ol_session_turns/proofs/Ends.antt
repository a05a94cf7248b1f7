-- A transaction ends, by a commit or behind its roll back.
use Rattle.std.specs.Prelude.{List, None, Option, Some, length, ℕ, ◌+◌, ◌<◌, ◌≡◌, ◌≤◌}
use Rattle.std.proofs.Common.{ap, arith, refl, subst, sym, ⊎_elim, ◌∙◌}
use Rattle.ol_values.specs.declared.event.Reply.TheVariants.{Committed, NoTxn, RolledBack}
use Rattle.ol_values.specs.declared.record.Record.{Record}
use Rattle.ol_values.specs.declared.record.Record.TheVariants.{Commit, Rolled}
use Rattle.ol_values.specs.LogPages.{log_room, record_length}
use Rattle.ol_rules.specs.Locks.{Holding, owed_by_holding}
use Rattle.ol_rules.specs.Ring.{logged}
use Rattle.ol_rules.specs.Ring.{flushed as flushed_ring}
use Rattle.ol_model.specs.Machine.{Machine, last_of, seat_of}
use Rattle.ol_model.specs.SessionTurns.{commit_at, rolled_at, without_txn}
use Rattle.ol_model.specs.Steps.{append, flush}
use Rattle.ol_turn_laws.specs.Room.{Regular}
use Rattle.ol_log_state.specs.RingState.{ring_of}
use Rattle.ol_storage.specs.Installation.{Installation, appended, flushed}
use Rattle.ol_storage.specs.Installation.{config_of as config_in, last_of as last_behind}
use Rattle.ol_txn.specs.Seats.{IsSession, Seat, forgotten_seat}
use Rattle.ol_txn.specs.Seats.{seat_of as locks_of, with_seat as with_locks}
use Rattle.ol_engine.specs.Parts.{HasTurns, Registers, Shows, ShowsSeats, free_of, number_in, owed_of}
use Rattle.ol_engine.proofs.Seats.{commit_shows, rolled_shows}
use Rattle.ol_engine.proofs.Steps.{append_shows, flush_shows}
use Rattle.ol_engine.proofs.Tables.{held_set, owed_set}
use Rattle.ol_engine.proofs.Turns.{append_turns}
use Rattle.ol_session_turns.specs.Turns.{commit_turn, rolled_turn}

-- what a session holds, by its transaction's number
pub record Has (held : Option Holding) (txn : ℕ) : Type 0 where
  pub holding : Holding
  pub is : held ≡ Some holding
  pub number : holding.number ≡ txn

pub has_holding : (held : Option Holding) (txn : ℕ) → number_in held ≡ Some txn → Has held txn
has_holding None txn e = absurd (let c : None ≡ Some txn = e in cc)
has_holding (Some h) txn e = record { holding = h; is = refl; number = let c : Some h.number ≡ Some txn = e in cc }

-- the machines behind the ends
abbrev pub committed_machine : Machine → ℕ → ℕ → Machine
committed_machine m k txn = without_txn k (seat_of m k) (flush (append (Commit txn) m))

abbrev pub rolled_machine : Machine → ℕ → ℕ → Machine
rolled_machine m k txn = without_txn k (seat_of m k) (append (Rolled txn) m)

module _ (opened : ℕ) (v : Installation) (seats : List Seat) (registers : Registers) (m : Machine) (k : ℕ) (session : IsSession k) (shows : Shows opened v seats registers m) where
  pub no_commit : number_in (locks_of seats k).holding ≡ None → commit_turn m k ≡ (NoTxn, m)
  no_commit none = ap (λ (t : Option ℕ). commit_at m k (seat_of m k) t) (sym (shows.sessions.numbers k session.0 session.1) ∙ none)

  pub no_end : number_in (locks_of seats k).holding ≡ None → rolled_turn m k ≡ (NoTxn, m)
  no_end none = ap (λ (t : Option ℕ). rolled_at m k (seat_of m k) t) (sym (shows.sessions.numbers k session.0 session.1) ∙ none)

  pub commit_is : (txn : ℕ) → number_in (locks_of seats k).holding ≡ Some txn → commit_turn m k ≡ (Committed (last_of m + 1), committed_machine m k txn)
  commit_is txn some = ap (λ (t : Option ℕ). commit_at m k (seat_of m k) t) (sym (shows.sessions.numbers k session.0 session.1) ∙ some)

  pub end_is : (txn : ℕ) → number_in (locks_of seats k).holding ≡ Some txn → rolled_turn m k ≡ (RolledBack (last_of m + 1), rolled_machine m k txn)
  end_is txn some = ap (λ (t : Option ℕ). rolled_at m k (seat_of m k) t) (sym (shows.sessions.numbers k session.0 session.1) ∙ some)

  pub committed_shown : (w u : Installation) (txn : ℕ) → length v.ring.state.buffer < v.ring.state.next → number_in (locks_of seats k).holding ≡ Some txn → Regular m → w ≡ appended v (Commit txn) w.ring.gates → ring_of w.ring.state ≡ logged (config_in v) (ring_of v.ring.state) (last_behind v) (Commit txn)
      → u ≡ flushed w u.ring.gates → ring_of u.ring.state ≡ flushed_ring (config_in w) (ring_of w.ring.state) (last_behind w) → Shows opened u (with_locks seats k (forgotten_seat (locks_of seats k))) registers (committed_machine m k txn)
  committed_shown w u txn long some regular step ring flushing behind =
      let has = has_holding _ txn some in
      let s = flush_shows w u (append (Commit txn) m) flushing behind (append_shows v w (Commit txn) m long step ring shows.storage) in
      record {
        storage = record { config = s.config; ring = s.ring; next = s.next; reached = s.reached; position = s.position; need = s.need; touched = s.touched; lasting = s.lasting };
        sessions = subst (λ n. ShowsSeats (with_locks seats k (forgotten_seat (locks_of seats k))) registers (committed_machine m k n)) has.number (commit_shows seats registers m k has.holding session has.is regular shows.sessions);
        since = shows.since;
      }

  pub rolled_shown : (w : Installation) (txn : ℕ) → length v.ring.state.buffer < v.ring.state.next → number_in (locks_of seats k).holding ≡ Some txn → Regular m → w ≡ appended v (Rolled txn) w.ring.gates → ring_of w.ring.state ≡ logged (config_in v) (ring_of v.ring.state) (last_behind v) (Rolled txn)
      → Shows opened w (with_locks seats k (forgotten_seat (locks_of seats k))) registers (rolled_machine m k txn)
  rolled_shown w txn long some regular step ring =
      let has = has_holding _ txn some in
      let s = append_shows v w (Rolled txn) m long step ring shows.storage in
      record {
        storage = record { config = s.config; ring = s.ring; next = s.next; reached = s.reached; position = s.position; need = s.need; touched = s.touched; lasting = s.lasting };
        sessions = subst (λ n. ShowsSeats (with_locks seats k (forgotten_seat (locks_of seats k))) registers (rolled_machine m k n)) has.number (rolled_shows seats registers m k has.holding session has.is regular shows.sessions);
        since = shows.since;
      }

-- ---- room

-- an open transaction owes a record
pub open_owed : (seats : List Seat) (k txn : ℕ) → IsSession k → length seats ≡ 16 → number_in (locks_of seats k).holding ≡ Some txn → 1 ≤ owed_of seats
open_owed seats k txn session sixteen some =
    let has = has_holding _ txn some in
    let one : 1 ≤ owed_by_holding (locks_of seats k).holding = subst (λ (o : Option Holding). 1 ≤ owed_by_holding o) (sym has.is) (omega arith) in
    omega (arith, one, owed_set seats k (forgotten_seat (locks_of seats k)) sixteen session)

-- and a page
pub owes_one : (opened : ℕ) (v : Installation) (seats : List Seat) (k txn : ℕ) → IsSession k → length seats ≡ 16 → number_in (locks_of seats k).holding ≡ Some txn → HasTurns opened v seats → 1 ≤ free_of v
owes_one opened v seats k txn session sixteen some turns =
    omega (arith, open_owed seats k txn session sixteen some, turns.log)

-- behind the record of its end there is room for what the others owe
pub ended_turns : (opened : ℕ) (v w : Installation) (seats : List Seat) (k txn : ℕ) (r : Record) → record_length r ≤ log_room → IsSession k → length seats ≡ 16 → length v.ring.state.buffer < v.ring.state.next → number_in (locks_of seats k).holding ≡ Some txn
    → w ≡ appended v r w.ring.gates → ring_of w.ring.state ≡ logged (config_in v) (ring_of v.ring.state) (last_behind v) r → HasTurns opened v seats → HasTurns opened w (with_locks seats k (forgotten_seat (locks_of seats k)))
ended_turns opened v w seats k txn r small session sixteen long some step ring turns =
    let now = with_locks seats k (forgotten_seat (locks_of seats k)) in
    let has = has_holding _ txn some in
    let one : 1 ≤ owed_by_holding (locks_of seats k).holding = subst (λ (o : Option Holding). 1 ≤ owed_by_holding o) (sym has.is) (omega arith) in
    let owed : owed_of now + 1 ≤ owed_of seats = omega (arith, one, owed_set seats k (forgotten_seat (locks_of seats k)) sixteen session) in
    append_turns opened v w seats now r small long step ring turns (owes_one opened v seats k txn session sixteen some turns) (omega (arith, turns.log, owed)) (omega (arith, turns.records, owed)) (omega (arith, turns.positions, owed, long))
    (λ i h e. ⊎_elim
    (λ (own : (forgotten_seat (locks_of seats k)).holding ≡ Some h). absurd (let c : None ≡ Some h = own in cc))
    (λ old. let both = turns.numbers i h old in (both.0, omega (arith, both.1)))
    (held_set seats k i (forgotten_seat (locks_of seats k)) h sixteen session e))
