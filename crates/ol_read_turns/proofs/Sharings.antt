-- A session shares slots more: what the lock table shows then.
use Rattle.std.specs.Option.{option_map}
use Rattle.std.specs.Prelude.{IsSome, List, None, Option, Some, [], false, fold, length, true, ℕ, ◌++◌, ◌-◌, ◌||◌, ◌∷◌, ◌≡◌, ◌≤◌}
use Rattle.std.proofs.Common.{ap, arith, inl, inr, refl, subst, sym, ⊎_elim, ◌∙◌}
use Rattle.std.proofs.lemmas.Bool.{cases_Bool}
use Rattle.std.proofs.lemmas.Bool.Decides.{eqb_tells}
use Rattle.std.proofs.lemmas.List.{get_or-set_other, get_or-set_same, length-set, map-set}
use Rattle.std.proofs.lemmas.List.Folds.{list_any-append}
use Rattle.ol_values.specs.declared.record.Rid.{Rid}
use Rattle.ol_rules.specs.Journal.{same_place}
use Rattle.ol_rules.specs.Locks.{Holding, is_among, owed_by_holding, shares}
use Rattle.ol_rules.specs.Transactions.{Txn}
use Rattle.ol_model.specs.Machine.{Machine, Seat, no_seat, seat_of, txns_in, with_seat}
use Rattle.ol_model.specs.SessionTurns.{add_share, sharing as sharing_all}
use Rattle.ol_storage.specs.Installation.{Installation}
use Rattle.ol_txn.specs.Seats.{HasTxn, IsSession, empty_seat, shared_more, sharing, table_of}
use Rattle.ol_txn.specs.Seats.{Seat as LockSeat, seat_of as locks_of, with_seat as with_locks}
use Rattle.ol_txn.specs.Telling.{Tells}
use Rattle.ol_txn.proofs.TellingLaws.{unchanged}
use Rattle.ol_txn.proofs.TellingSeats.{seat_again, seat_read, told_share}
use Rattle.ol_engine.specs.Parts.{HasTurns, Registers, Shows, ShowsSeats, number_in, owed_of, registers_of, shared_in}
use Rattle.ol_engine.proofs.Tables.{held_seat, held_set, owed_set}
use Rattle.ol_read_turns.specs.Sharing.{shared_all}

-- ---- one slot more

sharing_number : (rid : Rid) (holding : Option Holding) → number_in (option_map (sharing rid) holding) ≡ number_in holding
sharing_number rid None = refl
sharing_number rid (Some h) = refl

more_number : (rid : Rid) (s : LockSeat) → number_in (shared_more rid s).holding ≡ number_in s.holding
more_number rid s = elim (cases_Bool (shares rid s.holding)) [ inl e ↦ rw e refl | inr e ↦ rw e (sharing_number rid s.holding) ]

sharing_owed : (rid : Rid) (holding : Option Holding) → owed_by_holding (option_map (sharing rid) holding) ≡ owed_by_holding holding
sharing_owed rid None = refl
sharing_owed rid (Some h) = refl

more_owed : (rid : Rid) (s : LockSeat) → owed_by_holding (shared_more rid s).holding ≡ owed_by_holding s.holding
more_owed rid s = elim (cases_Bool (shares rid s.holding)) [ inl e ↦ rw e refl | inr e ↦ rw e (sharing_owed rid s.holding) ]

sharing_some : (rid : Rid) (holding : Option Holding) → IsSome holding → IsSome (option_map (sharing rid) holding)
sharing_some rid None some = some
sharing_some rid (Some h) some = some

pub more_some : (rid : Rid) (s : LockSeat) → IsSome s.holding → IsSome (shared_more rid s).holding
more_some rid s some = elim (cases_Bool (shares rid s.holding)) [ inl e ↦ rw e some | inr e ↦ rw e (sharing_some rid s.holding some) ]

shares_is : (rid : Rid) (holding : Option Holding) → shares rid holding ≡ is_among rid (shared_in holding)
shares_is rid None = refl
shares_is rid (Some h) = refl

appended : (place rid : Rid) (holding : Option Holding) (shared : List Rid) → IsSome holding → is_among place (shared_in holding) ≡ is_among place shared → is_among place (shared_in (option_map (sharing rid) holding)) ≡ is_among place (shared ++ rid ∷ [])
appended place rid None shared some same = absurd (let c : false ≡ true = some in cc)
appended place rid (Some h) shared some same = list_any-append (same_place place) h.shared (rid ∷ []) ∙ ap (λ b. b || is_among place (rid ∷ [])) same ∙ sym (list_any-append (same_place place) shared (rid ∷ []))

-- the lock table and the machine's session share the same slots
abbrev SameShares : LockSeat → List Rid → Type 0
SameShares s shared = (place : Rid) → is_among place (shared_in s.holding) ≡ is_among place shared

more_shared : (place rid : Rid) (s : LockSeat) (shared : List Rid) → IsSome s.holding → SameShares s shared → is_among place (shared_in (shared_more rid s).holding) ≡ is_among place (add_share shared rid)
more_shared place rid s shared some same =
    let test : is_among rid shared ≡ shares rid s.holding = sym (same rid) ∙ sym (shares_is rid s.holding) in
    elim (cases_Bool (shares rid s.holding)) [
      | inl e ↦ (let f : is_among rid shared ≡ true = test ∙ e in rw (e, f) (same place))
      | inr e ↦ (let f : is_among rid shared ≡ false = test ∙ e in rw (e, f) (appended place rid s.holding shared some (same place)))
    ]

-- ---- all of them

all_number : (rids : List Rid) (s : LockSeat) → number_in (shared_all rids s).holding ≡ number_in s.holding
all_number [] s = refl
all_number (rid ∷ rids) s = all_number rids (shared_more rid s) ∙ more_number rid s

all_owed : (rids : List Rid) (s : LockSeat) → owed_by_holding (shared_all rids s).holding ≡ owed_by_holding s.holding
all_owed [] s = refl
all_owed (rid ∷ rids) s = all_owed rids (shared_more rid s) ∙ more_owed rid s

all_shared : (place : Rid) (rids : List Rid) (s : LockSeat) (shared : List Rid) → IsSome s.holding → SameShares s shared → is_among place (shared_in (shared_all rids s).holding) ≡ is_among place (fold add_share shared rids)
all_shared place [] s shared some same = same place
all_shared place (rid ∷ rids) s shared some same = all_shared place rids (shared_more rid s) (add_share shared rid) (more_some rid s some) (λ r. more_shared r rid s shared some same)

-- they tell the journal nothing
all_told : (txns : List Txn) (seats : List LockSeat) (k : ℕ) (rids : List Rid) (s : LockSeat) → length seats ≡ 16 → IsSession k → Tells txns (table_of (with_locks seats k s)) → Tells txns (table_of (with_locks seats k (shared_all rids s)))
all_told txns seats k [] s sixteen session told = told
all_told txns seats k (rid ∷ rids) s sixteen session told =
    all_told txns seats k rids (shared_more rid s) sixteen session
    (subst (λ (l : List LockSeat). Tells txns (table_of l)) (ap (λ (t : LockSeat). with_locks (with_locks seats k s) k (shared_more rid t)) (seat_read seats k s sixteen session) ∙ seat_again seats k s (shared_more rid s)) (told_share txns (with_locks seats k s) k rid told))

same_table : (seats : List LockSeat) (k : ℕ) → table_of (with_locks seats k (locks_of seats k)) ≡ table_of seats
same_table seats k = map-set (λ (u : LockSeat). u.holding) seats (k - 1) (locks_of seats k) ∙ unchanged (table_of seats) (k - 1) (locks_of seats k).holding (held_seat seats k)

-- ---- a session with other locks and another seat

other_locks : (seats : List LockSeat) (k j : ℕ) (s : LockSeat) → 1 ≤ k → 1 ≤ j → (j ≡ k → ⊥) → locks_of (with_locks seats k s) j ≡ locks_of seats j
other_locks seats k j s from_k from_j other = get_or-set_other seats (k - 1) (j - 1) s empty_seat (λ same. other (omega (arith, same, from_k, from_j)))

other_seat : (m : Machine) (k j : ℕ) (s : Seat) → 1 ≤ k → 1 ≤ j → (j ≡ k → ⊥) → seat_of (with_seat k s m) j ≡ seat_of m j
other_seat m k j s from_k from_j other = get_or-set_other m.work.sessions (k - 1) (j - 1) s no_seat (λ same. other (omega (arith, same, from_k, from_j)))

pair_shown : (seats : List LockSeat) (registers : Registers) (m : Machine) (k : ℕ) (l : LockSeat) (s : Seat) → IsSession k → Tells (txns_in m) (table_of (with_locks seats k l)) → number_in l.holding ≡ s.txn → SameShares l s.shares → s.registers ≡ (seat_of m k).registers → ShowsSeats seats registers m
    → ShowsSeats (with_locks seats k l) registers (with_seat k s m)
pair_shown seats registers m k l s session tells number shares kept is = record {
  sixteen = length-set seats (k - 1) l ∙ is.sixteen;
  seated = length-set m.work.sessions (k - 1) s ∙ is.seated;
  tells = tells;
  numbers = λ j from to. elim (eqb_tells j k) [
    | inl here ↦ subst (λ i. number_in (locks_of (with_locks seats k l) i).holding ≡ (seat_of (with_seat k s m) i).txn) (sym here.1) (ap (λ (x : LockSeat). number_in x.holding) mine ∙ number ∙ ap (λ (x : Seat). x.txn) (sym own))
    | inr there ↦ ap (λ (x : LockSeat). number_in x.holding) (other_locks seats k j l session.0 from there.1) ∙ is.numbers j from to ∙ ap (λ (x : Seat). x.txn) (sym (other_seat m k j s session.0 from there.1))
  ];
  shares = λ j rid from to. elim (eqb_tells j k) [
    | inl here ↦ subst (λ i. is_among rid (shared_in (locks_of (with_locks seats k l) i).holding) ≡ is_among rid (seat_of (with_seat k s m) i).shares) (sym here.1) (ap (λ (x : LockSeat). is_among rid (shared_in x.holding)) mine ∙ shares rid ∙ ap (λ (x : Seat). is_among rid x.shares) (sym own))
    | inr there ↦ ap (λ (x : LockSeat). is_among rid (shared_in x.holding)) (other_locks seats k j l session.0 from there.1) ∙ is.shares j rid from to ∙ ap (λ (x : Seat). is_among rid x.shares) (sym (other_seat m k j s session.0 from there.1))
  ];
  registered = λ j from to. elim (eqb_tells j k) [
    | inl here ↦ subst (λ i. registers_of registers i ≡ (seat_of (with_seat k s m) i).registers) (sym here.1) (is.registered k session.0 session.1 ∙ sym kept ∙ ap (λ (x : Seat). x.registers) (sym own))
    | inr there ↦ is.registered j from to ∙ ap (λ (x : Seat). x.registers) (sym (other_seat m k j s session.0 from there.1))
  ];
}
  where
    mine : locks_of (with_locks seats k l) k ≡ l
    mine = seat_read seats k l is.sixteen session

    own : seat_of (with_seat k s m) k ≡ s
    own = get_or-set_same m.work.sessions (k - 1) s no_seat (omega (arith, is.seated, session.0, session.1))

-- ---- the parts show the machine behind it

shared_seats : (seats : List LockSeat) (registers : Registers) (m : Machine) (k : ℕ) (rids : List Rid) → IsSession k → HasTxn seats k → ShowsSeats seats registers m → ShowsSeats (with_locks seats k (shared_all rids (locks_of seats k))) registers (with_seat k (sharing_all (seat_of m k) rids) m)
shared_seats seats registers m k rids session some is =
    pair_shown seats registers m k (shared_all rids (locks_of seats k)) (sharing_all (seat_of m k) rids) session
    (all_told (txns_in m) seats k rids (locks_of seats k) is.sixteen session (subst (λ t. Tells (txns_in m) t) (sym (same_table seats k)) is.tells))
    (all_number rids (locks_of seats k) ∙ is.numbers k session.0 session.1)
    (λ place. all_shared place rids (locks_of seats k) (seat_of m k).shares some (λ rid. is.shares k rid session.0 session.1))
    refl is

pub shared_shown : (opened : ℕ) (v : Installation) (seats : List LockSeat) (registers : Registers) (m : Machine) (k : ℕ) (rids : List Rid) → IsSession k → HasTxn seats k → Shows opened v seats registers m → Shows opened v (with_locks seats k (shared_all rids (locks_of seats k))) registers (with_seat k (sharing_all (seat_of m k) rids) m)
shared_shown opened v seats registers m k rids session some is = record {
  storage = record {
    config = is.storage.config;
    ring = is.storage.ring;
    next = is.storage.next;
    reached = is.storage.reached;
    position = is.storage.position;
    need = is.storage.need;
    touched = is.storage.touched;
    lasting = is.storage.lasting;
  };
  sessions = shared_seats seats registers m k rids session some is.sessions;
  since = is.since;
}

-- ---- room is left for what is owed

some_held : (holding : Option Holding) → IsSome holding → (h : Holding) × (holding ≡ Some h)
some_held None some = absurd (let c : false ≡ true = some in cc)
some_held (Some h) some = (h, refl)

same_number : (a b : Option Holding) (h g : Holding) → number_in a ≡ number_in b → a ≡ Some h → b ≡ Some g → g.number ≡ h.number
same_number a b h g same e f = let c : Some h.number ≡ Some g.number = sym (ap number_in e) ∙ same ∙ ap number_in f in cc

pub shared_turns : (opened : ℕ) (v : Installation) (seats : List LockSeat) (k : ℕ) (rids : List Rid) → length seats ≡ 16 → IsSession k → HasTxn seats k → HasTurns opened v seats → HasTurns opened v (with_locks seats k (shared_all rids (locks_of seats k)))
shared_turns opened v seats k rids sixteen session some is =
    let s = shared_all rids (locks_of seats k) in
    let has = some_held (locks_of seats k).holding some in
    let owed : owed_of (with_locks seats k s) ≡ owed_of seats = omega (arith, owed_set seats k s sixteen session, all_owed rids (locks_of seats k)) in
    record {
      room = is.room;
      log = omega (arith, owed, is.log);
      records = omega (arith, owed, is.records);
      positions = omega (arith, owed, is.positions);
      at_end = is.at_end;
      need = is.need;
      numbers = λ i h e. ⊎_elim
          (λ own. (let both = is.numbers (k - 1) has.0 (held_seat seats k ∙ has.1) in let same = same_number _ _ h has.0 (all_number rids (locks_of seats k)) own has.1 in (omega (arith, both.0, same), omega (arith, both.1, same))))
          (λ old. is.numbers i h old)
          (held_set seats k i s h sixteen session e);
    }
