-- A change is taken back: what the lock table holds then, and what room is left.
use Rattle.std.specs.Option.{option_map, unwrap_or}
use Rattle.std.specs.Prelude.{List, None, Option, Some, [], drop, length, slice_get, ℕ, ◌∷◌, ◌+◌, ◌-◌, ◌<◌, ◌^◌, ◌≡◌, ◌≤◌}
use Rattle.std.proofs.Common.{ap, arith, refl, subst, sym, ⊎_elim, ◌∙◌}
use Rattle.ol_values.specs.declared.event.Reply.{Reply}
use Rattle.ol_values.specs.declared.event.Reply.TheVariants.{NoTxn, Undone}
use Rattle.ol_values.specs.declared.record.Record.{Record}
use Rattle.ol_values.specs.declared.record.Record.TheVariants.{Undo}
use Rattle.ol_values.specs.declared.record.Rid.{Rid}
use Rattle.ol_values.specs.declared.row.Row.{Row}
use Rattle.ol_rules.specs.Locks.{Holding, is_among, owed_by_holding}
use Rattle.ol_rules.specs.Transactions.{Txn}
use Rattle.ol_model.specs.Machine.{Machine, pending_at, seat_of, txn_at, txns_in}
use Rattle.ol_model.specs.SessionTurns.{undo_at, undo_turn}
use Rattle.ol_turn_laws.specs.Tables.{IsHeld}
use Rattle.ol_row_turns.specs.Turns.{undone_turn}
use Rattle.ol_model.specs.Steps.{change_row}
use Rattle.ol_turn_laws.specs.Room.{Regular}
use Rattle.ol_turn_laws.proofs.KeptLaws.{change_sessions}
use Rattle.ol_turn_laws.proofs.StepLaws.{before_even, changed_txns}
use Rattle.ol_storage.specs.Installation.{Installation}
use Rattle.ol_txn.specs.Seats.{IsSession, Seat, last_of, pending_of, table_of, undoing, undone_seat}
use Rattle.ol_txn.specs.Seats.{seat_of as locks_of, with_seat as with_locks}
use Rattle.ol_txn.specs.Telling.{Tells}
use Rattle.ol_txn.proofs.TellingSeats.{told_undo}
use Rattle.ol_engine.specs.Parts.{HasTurns, MayFollow, Registers, Shows, ShowsSeats, ShowsStorage, free_of, number_in, owed_of, shared_in}
use Rattle.ol_engine.proofs.Seats.{locks_show, sessions_told}
use Rattle.ol_engine.proofs.Tables.{held_seat, held_set, owed_set}
use Rattle.ol_session_turns.proofs.Ends.{has_holding}

-- ---- the session

back_number : (held : Option Holding) → number_in (option_map undoing held) ≡ number_in held
back_number None = refl
back_number (Some h) = refl

back_shared : (held : Option Holding) → shared_in (option_map undoing held) ≡ shared_in held
back_shared None = refl
back_shared (Some h) = refl

-- its transaction takes a change back
back_sessions : (seats : List Seat) (registers : Registers) (m : Machine) (k n : ℕ) (h : Holding) (rid : Rid) (value : Option Row) → IsSession k → (locks_of seats k).holding ≡ Some h → Regular m → ShowsSeats seats registers m
    → ShowsSeats (with_locks seats k (undone_seat (locks_of seats k))) registers (change_row n rid (Undo h.number rid value) m)
back_sessions seats registers m k n h rid value session holds regular is =
    let r : Record = Undo h.number rid value in
    locks_show seats registers m (change_row n rid r m) k (undone_seat (locks_of seats k)) session (change_sessions n rid r m)
    (subst (λ (t : List Txn). Tells t (table_of (with_locks seats k (undone_seat (locks_of seats k))))) (sym (changed_txns n rid r m)) (told_undo (txns_in m) seats k h.number h rid value regular.orderly.ascending holds refl is.tells))
    (back_number (locks_of seats k).holding) (λ place. ap (λ (l : List Rid). is_among place l) (back_shared (locks_of seats k).holding)) is

-- ---- what is owed

pending_less : (pending : List (Rid × Option Row)) (p : Rid × Option Row) → slice_get pending 0 ≡ Some p → length (drop 1 pending) + 1 ≡ length pending
pending_less [] p e = absurd (let c : None ≡ Some p = e in cc)
pending_less (q ∷ pending) p e = omega arith

back_owed : (held : Option Holding) (p : Rid × Option Row) → slice_get (pending_of held) 0 ≡ Some p → owed_by_holding (option_map undoing held) + 1 ≡ owed_by_holding held
back_owed None p e = absurd (let c : None ≡ Some p = e in cc)
back_owed (Some h) p e = omega (arith, pending_less h.pending p e)

-- one less is owed
pub owes_less : (seats : List Seat) (k : ℕ) (p : Rid × Option Row) → IsSession k → length seats ≡ 16 → last_of (locks_of seats k) ≡ Some p → owed_of (with_locks seats k (undone_seat (locks_of seats k))) + 1 ≡ owed_of seats
owes_less seats k p session sixteen last = omega (arith, back_owed (locks_of seats k).holding p last, owed_set seats k (undone_seat (locks_of seats k)) sixteen session)

-- ---- the table behind the record

numbers_alike : (a b : Option Holding) (h g : Holding) → number_in a ≡ number_in b → a ≡ Some h → b ≡ Some g → g.number ≡ h.number
numbers_alike a b h g same e f = let c : Some h.number ≡ Some g.number = sym (ap number_in e) ∙ same ∙ ap number_in f in cc

-- it may stand behind it
pub back_follows : (opened : ℕ) (v : Installation) (seats : List Seat) (k txn : ℕ) (p : Rid × Option Row) → IsSession k → length seats ≡ 16 → number_in (locks_of seats k).holding ≡ Some txn → last_of (locks_of seats k) ≡ Some p → HasTurns opened v seats
    → MayFollow opened v seats (with_locks seats k (undone_seat (locks_of seats k)))
back_follows opened v seats k txn p session sixteen some last turns =
    let has = has_holding _ txn some in
    let owed = owes_less seats k p session sixteen last in
    record {
      log = omega (arith, owed, turns.log);
      records = omega (arith, owed, turns.records);
      positions = omega (arith, owed, turns.positions);
      numbers = λ i h e. ⊎_elim
          (λ own. (k - 1, has.holding, held_seat seats k ∙ has.is, numbers_alike _ _ h has.holding (back_number (locks_of seats k).holding) own has.is))
          (λ old. (i, h, old, refl))
          (held_set seats k i (undone_seat (locks_of seats k)) h sixteen session e);
    }

-- the parts show the machine behind it
pub back_shown : (opened : ℕ) (v w : Installation) (seats : List Seat) (registers : Registers) (m : Machine) (k txn n : ℕ) (rid : Rid) (value : Option Row) → IsSession k → number_in (locks_of seats k).holding ≡ Some txn → Regular m → Shows opened v seats registers m
    → ShowsStorage w (change_row n rid (Undo txn rid value) m) → Shows opened w (with_locks seats k (undone_seat (locks_of seats k))) registers (change_row n rid (Undo txn rid value) m)
back_shown opened v w seats registers m k txn n rid value session some regular shows storage =
    let has = has_holding _ txn some in
    record {
      storage = storage;
      sessions = subst (λ t. ShowsSeats (with_locks seats k (undone_seat (locks_of seats k))) registers (change_row n rid (Undo t rid value) m)) has.number (back_sessions seats registers m k n has.holding rid value session has.is regular shows.sessions);
      since = (before_even n (rid.space, rid.page) m regular.orderly.need).opened ∙ shows.since;
    }

-- ---- the machine's turn

pending_same : (held : Option Holding) (o : Option Txn) (shares : List Rid) → IsHeld held o shares → unwrap_or (option_map (λ (t : Txn). t.pending) o) [] ≡ pending_of held
pending_same None None shares is = refl
pending_same (Some h) (Some t) shares is = sym is.pending
pending_same None (Some t) shares is = absurd is
pending_same (Some h) None shares is = absurd is

-- what a session may take back is what its transaction may
pending_is : (seats : List Seat) (registers : Registers) (m : Machine) (k : ℕ) → IsSession k → Regular m → ShowsSeats seats registers m → pending_at m k ≡ pending_of (locks_of seats k).holding
pending_is seats registers m k session regular shows =
    let is = subst (λ (o : Option Holding). IsHeld o (txn_at m k) (seat_of m k).shares) (held_seat seats k) ((sessions_told seats registers m regular shows).sessions k session.0 session.1) in
    pending_same (locks_of seats k).holding (txn_at m k) (seat_of m k).shares is

first_back : (m : Machine) (n txn : ℕ) (l : List (Rid × Option Row)) (p : Rid × Option Row) → slice_get l 0 ≡ Some p → undo_at m n txn l ≡ (Undone p.0, change_row n p.0 (Undo txn p.0 p.1) m)
first_back m n txn [] p e = absurd (let c : None ≡ Some p = e in cc)
first_back m n txn (q ∷ l) p e = let same : q ≡ p = cc in ap (λ (x : Rid × Option Row). let r : Reply × Machine = (Undone x.0, change_row n x.0 (Undo txn x.0 x.1) m) in r) same

none_back : (m : Machine) (n txn : ℕ) (l : List (Rid × Option Row)) → slice_get l 0 ≡ None → undo_at m n txn l ≡ (NoTxn, m)
none_back m n txn [] e = refl
none_back m n txn (q ∷ l) e = absurd (let c : Some q ≡ None = e in cc)

-- the newest change of an open transaction
pub back_turn : (seats : List Seat) (registers : Registers) (m : Machine) (k n txn : ℕ) (p : Rid × Option Row) → IsSession k → Regular m → ShowsSeats seats registers m → number_in (locks_of seats k).holding ≡ Some txn → last_of (locks_of seats k) ≡ Some p
    → undone_turn m n k ≡ (Undone p.0, change_row n p.0 (Undo txn p.0 p.1) m)
back_turn seats registers m k n txn p session regular shows some last =
    ap (λ (t : Option ℕ). undo_turn m n k t) (sym (shows.numbers k session.0 session.1) ∙ some)
    ∙ ap (λ (l : List (Rid × Option Row)). undo_at m n txn l) (pending_is seats registers m k session regular shows)
    ∙ first_back m n txn (pending_of (locks_of seats k).holding) p last

-- no open transaction
pub idle_turn : (seats : List Seat) (registers : Registers) (m : Machine) (k n : ℕ) → IsSession k → ShowsSeats seats registers m → number_in (locks_of seats k).holding ≡ None → undone_turn m n k ≡ (NoTxn, m)
idle_turn seats registers m k n session shows none = ap (λ (t : Option ℕ). undo_turn m n k t) (sym (shows.numbers k session.0 session.1) ∙ none)

-- no change to take back
pub spent_turn : (seats : List Seat) (registers : Registers) (m : Machine) (k n txn : ℕ) → IsSession k → Regular m → ShowsSeats seats registers m → number_in (locks_of seats k).holding ≡ Some txn → last_of (locks_of seats k) ≡ None → undone_turn m n k ≡ (NoTxn, m)
spent_turn seats registers m k n txn session regular shows some last =
    ap (λ (t : Option ℕ). undo_turn m n k t) (sym (shows.numbers k session.0 session.1) ∙ some)
    ∙ ap (λ (l : List (Rid × Option Row)). undo_at m n txn l) (pending_is seats registers m k session regular shows)
    ∙ none_back m n txn (pending_of (locks_of seats k).holding) last
