-- What the lock table and the registers show behind the records of a session.
use Rattle.std.specs.Option.{option_map}
use Rattle.std.specs.Prelude.{Bool, List, None, Option, Some, [], false, length, slice_index_or, slice_set, true, ℕ, ◌+◌, ◌-◌, ◌≡◌, ◌≤◌, ◌≢◌}
use Rattle.std.proofs.Common.{ap, arith, inl, inr, refl, subst, sym, ◌∙◌}
use Rattle.std.proofs.lemmas.Bool.{cases_Bool}
use Rattle.std.proofs.lemmas.Bool.Decides.{eqb_tells}
use Rattle.std.proofs.lemmas.List.{get_or-set_other, get_or-set_same, length-map, length-set}
use Rattle.ol_values.specs.declared.record.Record.{Record}
use Rattle.ol_values.specs.declared.record.Record.TheVariants.{Begin, Change, Commit, Rolled}
use Rattle.ol_values.specs.declared.record.Rid.{Rid}
use Rattle.ol_values.specs.declared.row.Row.{Row}
use Rattle.ol_rules.specs.Locks.{Holding, holder_of, is_among, owns}
use Rattle.ol_rules.specs.Transactions.{Ascending, Txn, txn_numbered, txns_after}
use Rattle.ol_model.specs.Machine.{Machine, Seat, holder, no_seat, seat_of, txn_at, txn_of, txns_in, with_seat}
use Rattle.ol_model.specs.SessionTurns.{without_txn}
use Rattle.ol_model.specs.Steps.{append, change_row, flush}
use Rattle.ol_turn_laws.proofs.KeptLaws.{change_sessions}
use Rattle.ol_turn_laws.proofs.StepLaws.{appended_txns, changed_txns}
use Rattle.ol_turn_laws.proofs.TableLaws.{same_holder}
use Rattle.ol_turn_laws.specs.Room.{Regular}
use Rattle.ol_turn_laws.specs.Tables.{IsHeld, TellsSessions}
use Rattle.ol_txn.specs.Seats.{IsSession, begun_seat, changing, empty_seat, forgotten_seat, noted_seat, owned_more, owning, reserved_seat, table_of}
use Rattle.ol_txn.specs.Seats.{Seat as LockSeat, seat_of as locks_of, with_seat as with_locks}
use Rattle.ol_txn.specs.Telling.{IsOf, Tells}
use Rattle.ol_txn.proofs.TellingSeats.{seat_read, told_begin, told_change, told_end, told_open, told_reserve}
use Rattle.ol_rules.specs.Sound.{IsOne}
use Rattle.ol_engine.proofs.Tables.{held_seat}
use Rattle.ol_engine.specs.Parts.{Registers, ShowsSeats, number_in, registers_of, shared_in}

-- ---- one seat and the others

locks_other : (seats : List LockSeat) (k j : ℕ) (s : LockSeat) → 1 ≤ k → 1 ≤ j → (j ≡ k → ⊥) → locks_of (with_locks seats k s) j ≡ locks_of seats j
locks_other seats k j s from_k from_j other = get_or-set_other seats (k - 1) (j - 1) s empty_seat (λ same. other (omega (arith, same, from_k, from_j)))

seat_other : (m : Machine) (k j : ℕ) (s : Seat) → 1 ≤ k → 1 ≤ j → (j ≡ k → ⊥) → seat_of (with_seat k s m) j ≡ seat_of m j
seat_other m k j s from_k from_j other = get_or-set_other m.work.sessions (k - 1) (j - 1) s no_seat (λ same. other (omega (arith, same, from_k, from_j)))

seat_own : (m : Machine) (k : ℕ) (s : Seat) → length m.work.sessions ≡ 16 → IsSession k → seat_of (with_seat k s m) k ≡ s
seat_own m k s long is = get_or-set_same m.work.sessions (k - 1) s no_seat (omega (arith, long, is.0, is.1))

-- the sessions of a machine whose own work is the same
pub same_shows : (seats : List LockSeat) (registers : Registers) (m n : Machine) → n.work ≡ m.work → ShowsSeats seats registers m → ShowsSeats seats registers n
same_shows seats registers m n work is = record {
  sixteen = is.sixteen;
  seated = ap (λ w. length w.sessions) work ∙ is.seated;
  tells = rw work is.tells;
  numbers = λ k from to. is.numbers k from to ∙ ap (λ w. (slice_index_or w.sessions (k - 1) no_seat).txn) (sym work);
  shares = λ k rid from to. is.shares k rid from to ∙ ap (λ w. is_among rid (slice_index_or w.sessions (k - 1) no_seat).shares) (sym work);
  registered = λ k from to. is.registered k from to ∙ ap (λ w. (slice_index_or w.sessions (k - 1) no_seat).registers) (sym work);
}

-- session k has other locks and another seat, which go together
seat_shows : (seats : List LockSeat) (registers : Registers) (m n : Machine) (k : ℕ) (l : LockSeat) (s : Seat) → IsSession k → n.work.sessions ≡ m.work.sessions → Tells (txns_in n) (table_of (with_locks seats k l)) → number_in l.holding ≡ s.txn
    → ((rid : Rid) → is_among rid (shared_in l.holding) ≡ is_among rid s.shares) → s.registers ≡ (seat_of m k).registers → ShowsSeats seats registers m → ShowsSeats (with_locks seats k l) registers (with_seat k s n)
seat_shows seats registers m n k l s session same tells number shares kept is = record {
  sixteen = length-set seats (k - 1) l ∙ is.sixteen;
  seated = length-set n.work.sessions (k - 1) s ∙ long;
  tells = tells;
  numbers = λ j from to. elim (eqb_tells j k) [
    | inl here ↦ subst (λ i. number_in (locks_of (with_locks seats k l) i).holding ≡ (seat_of (with_seat k s n) i).txn) (sym here.1) (ap (λ (x : LockSeat). number_in x.holding) mine ∙ number ∙ ap (λ (x : Seat). x.txn) (sym own))
    | inr there ↦ ap (λ (x : LockSeat). number_in x.holding) (locks_other seats k j l session.0 from there.1) ∙ is.numbers j from to ∙ ap (λ (x : Seat). x.txn) (sym (before j from there.1))
  ];
  shares = λ j rid from to. elim (eqb_tells j k) [
    | inl here ↦ subst (λ i. is_among rid (shared_in (locks_of (with_locks seats k l) i).holding) ≡ is_among rid (seat_of (with_seat k s n) i).shares) (sym here.1) (ap (λ (x : LockSeat). is_among rid (shared_in x.holding)) mine ∙ shares rid ∙ ap (λ (x : Seat). is_among rid x.shares) (sym own))
    | inr there ↦ ap (λ (x : LockSeat). is_among rid (shared_in x.holding)) (locks_other seats k j l session.0 from there.1) ∙ is.shares j rid from to ∙ ap (λ (x : Seat). is_among rid x.shares) (sym (before j from there.1))
  ];
  registered = λ j from to. elim (eqb_tells j k) [
    | inl here ↦ subst (λ i. registers_of registers i ≡ (seat_of (with_seat k s n) i).registers) (sym here.1) (is.registered k session.0 session.1 ∙ sym kept ∙ ap (λ (x : Seat). x.registers) (sym own))
    | inr there ↦ is.registered j from to ∙ ap (λ (x : Seat). x.registers) (sym (before j from there.1))
  ];
}
  where
    long : length n.work.sessions ≡ 16
    long = ap (λ (l : List Seat). length l) same ∙ is.seated

    mine : locks_of (with_locks seats k l) k ≡ l
    mine = seat_read seats k l is.sixteen session

    own : seat_of (with_seat k s n) k ≡ s
    own = seat_own n k s long session

    before : (j : ℕ) → 1 ≤ j → (j ≡ k → ⊥) → seat_of (with_seat k s n) j ≡ seat_of m j
    before j from other = seat_other n k j s session.0 from other ∙ ap (λ (l : List Seat). slice_index_or l (j - 1) no_seat) same

-- ---- a transaction begins and ends

pub idle_number : (held : Option Holding) → held ≡ None → number_in held ≡ None
idle_number held e = ap number_in e

-- a session without a transaction holds nothing, and one with a transaction holds it
pub none_held : (held : Option Holding) (txn : Option ℕ) → number_in held ≡ txn → txn ≡ None → held ≡ None
none_held None txn e none = refl
none_held (Some h) txn e none = absurd (let c : Some h.number ≡ None = e ∙ none in cc)

pub begin_shows : (seats : List LockSeat) (registers : Registers) (m : Machine) (k n : ℕ) → IsSession k → (locks_of seats k).holding ≡ None → Regular m → ShowsSeats seats registers m
    → ShowsSeats (with_locks seats k (begun_seat n (locks_of seats k))) registers (with_seat k (record (seat_of m k) { txn = Some n }) (append (Begin n) m))
begin_shows seats registers m k n session idle regular is =
    let none : (seat_of m k).txn ≡ None = sym (is.numbers k session.0 session.1) ∙ idle_number _ idle in
    seat_shows seats registers m (append (Begin n) m) k (begun_seat n (locks_of seats k)) (record (seat_of m k) { txn = Some n }) session refl
    (subst (λ (t : List Txn). Tells t (table_of (with_locks seats k (begun_seat n (locks_of seats k))))) (sym (appended_txns (Begin n) m)) (told_begin (txns_in m) seats k n is.sixteen session idle is.tells))
    refl (λ rid. ap (λ (l : List Rid). is_among rid l) (sym (regular.idle k none))) refl is

-- the session's transaction ends by a record
end_shows : (seats : List LockSeat) (registers : Registers) (m n : Machine) (k : ℕ) (h : Holding) → IsSession k → (locks_of seats k).holding ≡ Some h → Regular m → n.work.sessions ≡ m.work.sessions → txns_in n ≡ txns_after (txns_in m) (Commit h.number)
    → ShowsSeats seats registers m → ShowsSeats (with_locks seats k (forgotten_seat (locks_of seats k))) registers (without_txn k (seat_of m k) n)
end_shows seats registers m n k h session holds regular same txns is =
    seat_shows seats registers m n k (forgotten_seat (locks_of seats k)) (record (seat_of m k) { txn = None; shares = [] }) session same
    (subst (λ (t : List Txn). Tells t (table_of (with_locks seats k (forgotten_seat (locks_of seats k))))) (sym txns) (told_end (txns_in m) seats k h.number h regular.orderly.ascending holds refl is.tells))
    refl (λ rid. refl) refl is

pub commit_shows : (seats : List LockSeat) (registers : Registers) (m : Machine) (k : ℕ) (h : Holding) → IsSession k → (locks_of seats k).holding ≡ Some h → Regular m → ShowsSeats seats registers m
    → ShowsSeats (with_locks seats k (forgotten_seat (locks_of seats k))) registers (without_txn k (seat_of m k) (flush (append (Commit h.number) m)))
commit_shows seats registers m k h session holds regular is = end_shows seats registers m (flush (append (Commit h.number) m)) k h session holds regular refl (appended_txns (Commit h.number) m) is

pub rolled_shows : (seats : List LockSeat) (registers : Registers) (m : Machine) (k : ℕ) (h : Holding) → IsSession k → (locks_of seats k).holding ≡ Some h → Regular m → ShowsSeats seats registers m
    → ShowsSeats (with_locks seats k (forgotten_seat (locks_of seats k))) registers (without_txn k (seat_of m k) (append (Rolled h.number) m))
rolled_shows seats registers m k h session holds regular is = end_shows seats registers m (append (Rolled h.number) m) k h session holds regular refl (appended_txns (Rolled h.number) m) is

-- ---- locks alone

-- session k has other locks, by which its transaction has the same number and shares the same slots
pub locks_show : (seats : List LockSeat) (registers : Registers) (m n : Machine) (k : ℕ) (l : LockSeat) → IsSession k → n.work.sessions ≡ m.work.sessions → Tells (txns_in n) (table_of (with_locks seats k l)) → number_in l.holding ≡ number_in (locks_of seats k).holding
    → ((rid : Rid) → is_among rid (shared_in l.holding) ≡ is_among rid (shared_in (locks_of seats k).holding)) → ShowsSeats seats registers m → ShowsSeats (with_locks seats k l) registers n
locks_show seats registers m n k l session same tells number shares is = record {
  sixteen = length-set seats (k - 1) l ∙ is.sixteen;
  seated = ap (λ (s : List Seat). length s) same ∙ is.seated;
  tells = tells;
  numbers = λ j from to. elim (eqb_tells j k) [
    | inl here ↦ subst (λ i. number_in (locks_of (with_locks seats k l) i).holding ≡ (seat_of n i).txn) (sym here.1) (ap (λ (x : LockSeat). number_in x.holding) mine ∙ number ∙ is.numbers k session.0 session.1 ∙ ap (λ (x : Seat). x.txn) (sym (before k)))
    | inr there ↦ ap (λ (x : LockSeat). number_in x.holding) (locks_other seats k j l session.0 from there.1) ∙ is.numbers j from to ∙ ap (λ (x : Seat). x.txn) (sym (before j))
  ];
  shares = λ j rid from to. elim (eqb_tells j k) [
    | inl here ↦ subst (λ i. is_among rid (shared_in (locks_of (with_locks seats k l) i).holding) ≡ is_among rid (seat_of n i).shares) (sym here.1) (ap (λ (x : LockSeat). is_among rid (shared_in x.holding)) mine ∙ shares rid ∙ is.shares k rid session.0 session.1 ∙ ap (λ (x : Seat). is_among rid x.shares) (sym (before k)))
    | inr there ↦ ap (λ (x : LockSeat). is_among rid (shared_in x.holding)) (locks_other seats k j l session.0 from there.1) ∙ is.shares j rid from to ∙ ap (λ (x : Seat). is_among rid x.shares) (sym (before j))
  ];
  registered = λ j from to. is.registered j from to ∙ ap (λ (x : Seat). x.registers) (sym (before j));
}
  where
    mine : locks_of (with_locks seats k l) k ≡ l
    mine = seat_read seats k l is.sixteen session

    before : (j : ℕ) → seat_of n j ≡ seat_of m j
    before j = ap (λ (s : List Seat). slice_index_or s (j - 1) no_seat) same

-- memory that is made for a session's locks shows nothing
pub reserve_shows : (seats : List LockSeat) (registers : Registers) (m : Machine) (k n : ℕ) → IsSession k → ShowsSeats seats registers m → ShowsSeats (with_locks seats k (reserved_seat n (locks_of seats k))) registers m
reserve_shows seats registers m k n session is = locks_show seats registers m m k (reserved_seat n (locks_of seats k)) session refl (told_reserve (txns_in m) seats k n is.tells) refl (λ rid. refl) is

-- a change is noted, and its slot owned
changed_number : (p : Rid × Option Row) (held : Option Holding) → number_in (option_map (changing p) held) ≡ number_in held
changed_number p None = refl
changed_number p (Some h) = refl

owned_number : (p : Rid × Option Row) (rid : Rid) (held : Option Holding) → number_in (option_map (changing p) (option_map (owning rid) held)) ≡ number_in held
owned_number p rid None = refl
owned_number p rid (Some h) = refl

changed_shared : (p : Rid × Option Row) (held : Option Holding) → shared_in (option_map (changing p) held) ≡ shared_in held
changed_shared p None = refl
changed_shared p (Some h) = refl

owned_shared : (p : Rid × Option Row) (rid : Rid) (held : Option Holding) → shared_in (option_map (changing p) (option_map (owning rid) held)) ≡ shared_in held
owned_shared p rid None = refl
owned_shared p rid (Some h) = refl

pub noted_number : (p : Rid × Option Row) (rid : Rid) (s : LockSeat) → number_in (noted_seat p (owned_more rid s)).holding ≡ number_in s.holding
noted_number p rid s = elim (cases_Bool (owns rid s.holding)) [ inl e ↦ rw e (changed_number p s.holding) | inr e ↦ rw e (owned_number p rid s.holding) ]

noted_shared : (p : Rid × Option Row) (rid : Rid) (s : LockSeat) → shared_in (noted_seat p (owned_more rid s)).holding ≡ shared_in s.holding
noted_shared p rid s = elim (cases_Bool (owns rid s.holding)) [ inl e ↦ rw e (changed_shared p s.holding) | inr e ↦ rw e (owned_shared p rid s.holding) ]

-- the session's transaction changes a row
pub change_sessions_show : (seats : List LockSeat) (registers : Registers) (m : Machine) (k n : ℕ) (h : Holding) (rid : Rid) (before after : Option Row) → IsSession k → (locks_of seats k).holding ≡ Some h → Regular m → ShowsSeats seats registers m
    → ShowsSeats (with_locks seats k (noted_seat (rid, before) (owned_more rid (locks_of seats k)))) registers (change_row n rid (Change h.number rid before after) m)
change_sessions_show seats registers m k n h rid before after session holds regular is =
    let r : Record = Change h.number rid before after in
    locks_show seats registers m (change_row n rid r m) k (noted_seat (rid, before) (owned_more rid (locks_of seats k))) session (change_sessions n rid r m)
    (subst (λ (t : List Txn). Tells t (table_of (with_locks seats k (noted_seat (rid, before) (owned_more rid (locks_of seats k)))))) (sym (changed_txns n rid r m)) (told_change (txns_in m) seats k h.number h rid before after regular.orderly.ascending holds refl is.tells))
    (noted_number (rid, before) rid (locks_of seats k)) (λ place. ap (λ (l : List Rid). is_among place l) (noted_shared (rid, before) rid (locks_of seats k))) is

-- ---- the table tells of the machine's sessions

open_holding : (h : Holding) (o : Option Txn) (shares : List Rid) → IsOne o (IsOf h) → ((rid : Rid) → is_among rid h.shared ≡ is_among rid shares) → IsHeld (Some h) o shares
open_holding h None shares is shared = absurd is
open_holding h (Some t) shares is shared = record { number = is.number; pending = is.pending; undone = is.undone; owned = is.owned; shared = shared }

pub sessions_told : (seats : List LockSeat) (registers : Registers) (m : Machine) → Regular m → ShowsSeats seats registers m → TellsSessions m (table_of seats)
sessions_told seats registers m regular is = record {
  sixteen = length-map seats (λ (s : LockSeat). s.holding) ∙ is.sixteen;
  sessions = λ k from to. subst (λ (o : Option Holding). IsHeld o (txn_at m k) (seat_of m k).shares) (sym (held_seat seats k)) (by_holding k from to (locks_of seats k).holding refl);
}
  where
    by_holding : (k : ℕ) → 1 ≤ k → k ≤ 16 → (held : Option Holding) → (locks_of seats k).holding ≡ held → IsHeld held (txn_at m k) (seat_of m k).shares
    by_holding k from to None e =
        let none : (seat_of m k).txn ≡ None = sym (is.numbers k from to) ∙ ap number_in e in
        subst (λ (o : Option ℕ). IsHeld None (txn_of m o) (seat_of m k).shares) (sym none) (regular.idle k none)
    by_holding k from to (Some h) e =
        let some : (seat_of m k).txn ≡ Some h.number = sym (is.numbers k from to) ∙ ap number_in e in
        subst (λ (o : Option ℕ). IsHeld (Some h) (txn_of m o) (seat_of m k).shares) (sym some)
        (open_holding h (txn_numbered h.number (txns_in m)) (seat_of m k).shares (told_open (txns_in m) seats k h regular.orderly.ascending e is.tells) (λ rid. ap (λ (o : Option Holding). is_among rid (shared_in o)) (sym e) ∙ is.shares k rid from to))

-- the least other session in the way is the machine's
pub holder_is : (seats : List LockSeat) (registers : Registers) (m : Machine) (k : ℕ) (own : Bool) (rid : Rid) → Regular m → ShowsSeats seats registers m → holder_of (table_of seats) k rid own ≡ holder m k own rid
holder_is seats registers m k own rid regular is = same_holder m (table_of seats) k own rid (sessions_told seats registers m regular is)
