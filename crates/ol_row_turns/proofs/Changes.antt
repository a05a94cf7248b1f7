-- A row changes: what the lock table holds then, and what room is left.
use Rattle.std.specs.List.{AllByRecursion}
use Rattle.std.specs.Option.{option_map, unwrap_or}
use Rattle.std.specs.Prelude.{Bool, Err, IfErr, IfOk, IsErrOf, List, None, Ok, OnErr, OnOk, Option, Result, Some, [], false, if◌then◌else◌, is_none, is_some, length, nat_lt, slice_index_or, true, ℕ, ◌∷◌, ◌+◌, ◌-◌, ◌<◌, ◌^◌, ◌≡◌, ◌≤◌}
use Rattle.std.proofs.Common.{ap, arith, inl, inr, refl, subst, sym, ⊎_elim, ◌∙◌}
use Rattle.std.proofs.lemmas.Bool.{and_parts, cases_Bool}
use Rattle.std.proofs.lemmas.Bool.Decides.{nat_tests}
use Rattle.std.proofs.lemmas.List.{map-set}
use Rattle.ol_values.specs.declared.event.Reply.{Reply}
use Rattle.ol_values.specs.declared.event.Reply.TheVariants.{Changed, NoRow, RowLocked}
use Rattle.ol_values.specs.declared.record.Record.TheVariants.{Change}
use Rattle.ol_values.specs.declared.record.Rid.{Rid}
use Rattle.ol_values.specs.declared.row.Row.{Row}
use Rattle.ol_values.specs.declared.record.Record.{Record}
use Rattle.ol_values.specs.Config.{has_page, has_place}
use Rattle.ol_rules.specs.Start.{page_behind, start_page, upto}
use Rattle.ol_stand_laws.proofs.PageSlots.{slot_folded}
use Rattle.ol_ports.specs.Disk.{Bytes}
use Rattle.ol_reserve.specs.declared.anchor.Anchor.{Anchor}
use Rattle.ol_storage.proofs.Agreeing.{upto_all}
use Rattle.ol_storage.specs.Behind.{IsBehind, pages_of}
use Rattle.ol_rules.specs.Locks.{Holding, holder_of, low_in, owed_by_holding, owed_in, owns}
use Rattle.ol_model.specs.Answering.{no_room, unless}
use Rattle.ol_model.specs.Machine.{Machine, config_of, holder, last_of, row_in}
use Rattle.ol_model.specs.Turns.{comes_first}
use Rattle.ol_model.specs.Steps.{append, change_row}
use Rattle.ol_turn_laws.proofs.StepLaws.{before_even, unless_all}
use Rattle.ol_turn_laws.specs.Room.{Regular}
use Rattle.ol_storage.specs.Installation.{Installation, checkpointed, with_store}
use Rattle.ol_storage.specs.declared.storage.StorageFault.{StorageFault}
use Rattle.ol_storage.specs.declared.storage.StorageFault.TheVariants.{Bad, Failed, NoMemory, Stopped}
use Rattle.ol_txn.specs.Faults.{held_by}
use Rattle.ol_txn.specs.declared.fault.LockFault.{LockFault}
use Rattle.ol_txn.specs.declared.fault.LockFault.TheVariants.{Held}
use Rattle.ol_txn.specs.declared.fault.LockFault.TheVariants.{NoMemory as LockMemory}
use Rattle.ol_txn.specs.Seats.{IsSession, Seat, changing, noted_seat, owned_more, owning, reserved_seat, table_of}
use Rattle.ol_txn.specs.Seats.{seat_of as locks_of, with_seat as with_locks}
use Rattle.ol_txn.specs.Telling.{held}
use Rattle.ol_txn.proofs.TellingLaws.{unchanged}
use Rattle.ol_txn.proofs.TellingSeats.{seat_again, seat_read}
use Rattle.ol_engine.specs.Parts.{HasTurns, MayFollow, Registers, Shows, ShowsSeats, ShowsStorage, anchor_made, behind_of, free_of, last_in, number_in, owed_of}
use Rattle.ol_engine.specs.Turns.{Answers, HasMore, StandsWithinEither, StandsWithinTurn}
use Rattle.ol_engine.proofs.Seats.{change_sessions_show, holder_is, noted_number, reserve_shows}
use Rattle.ol_engine.proofs.Steps.{loaded_shows}
use Rattle.ol_engine.proofs.Stops.{either_changed, either_more}
use Rattle.ol_engine.proofs.Turns.{turns_beside}
use Rattle.ol_engine.proofs.Tables.{held_seat, held_set, owed_set}
use Rattle.ol_row_turns.specs.Turns.{Leaves, row_turn, written_turn}
use Rattle.ol_row_turns.specs.declared.owner.Owner.{Owner}
use Rattle.ol_session_turns.proofs.Ends.{has_holding}

-- ---- a slot that is owned, and a change that is noted

-- where no other session is in the way, and memory is spare, a slot is owned
pub owned_is : {P : Type 0} (result : Result Unit LockFault) (seat : Seat) → held_by result ≡ None → (result ≡ Err LockMemory → seat.spare ≡ 0) → 1 ≤ seat.spare → OnOk result P → P
owned_is (Ok x) seat none memory spare is = is
owned_is (Err (Held holder)) seat none memory spare is = absurd (let c : Some holder ≡ None = none in cc)
owned_is (Err LockMemory) seat none memory spare is = absurd (omega (arith, memory refl, spare))

-- a lock more leaves one place less
pub owned_spare : (rid : Rid) (s : Seat) → 2 ≤ s.spare → 1 ≤ (owned_more rid s).spare
owned_spare rid s some = elim (owns rid s.holding) as (λ b. 1 ≤ (if b then s else (let t : Seat = record { holding = option_map (owning rid) s.holding; spare = s.spare - 1 } in t)).spare) [ true ↦ omega (arith, some) | false ↦ omega (arith, some) ]

noted_is : {E P : Type 0} (result : Result Unit E) (seat : Seat) → OnErr result (seat.spare ≡ 0) → 1 ≤ seat.spare → OnOk result P → P
noted_is (Ok x) seat memory spare is = is
noted_is (Err e) seat memory spare is = absurd (omega (arith, memory, spare))

-- both, one after the other
pub both_noted : {E : Type 0} (seats one two : List Seat) (k : ℕ) (rid : Rid) (before : Option Row) (result : Result Unit E) → length seats ≡ 16 → IsSession k → 2 ≤ (locks_of seats k).spare → one ≡ with_locks seats k (owned_more rid (locks_of seats k))
    → OnErr result ((locks_of one k).spare ≡ 0) → OnOk result (two ≡ with_locks one k (noted_seat (rid, before) (locks_of one k))) → two ≡ with_locks seats k (noted_seat (rid, before) (owned_more rid (locks_of seats k)))
both_noted seats one two k rid before result sixteen session spare owned memory noted =
    let mine : locks_of one k ≡ owned_more rid (locks_of seats k) = ap (λ (l : List Seat). locks_of l k) owned ∙ seat_read seats k (owned_more rid (locks_of seats k)) sixteen session in
    let some : 1 ≤ (locks_of one k).spare = subst (λ (s : Seat). 1 ≤ s.spare) (sym mine) (owned_spare rid (locks_of seats k) spare) in
    let is : two ≡ with_locks one k (noted_seat (rid, before) (locks_of one k)) = noted_is result (locks_of one k) memory some noted in
    is
    ∙ ap (λ (s : Seat). with_locks one k (noted_seat (rid, before) s)) mine
    ∙ ap (λ (l : List Seat). with_locks l k (noted_seat (rid, before) (owned_more rid (locks_of seats k)))) owned
    ∙ seat_again seats k (owned_more rid (locks_of seats k)) (noted_seat (rid, before) (owned_more rid (locks_of seats k)))

-- ---- what is owed

owning_owed : (rid : Rid) (held : Option Holding) → owed_by_holding (option_map (owning rid) held) ≡ owed_by_holding held
owning_owed rid None = refl
owning_owed rid (Some h) = refl

owned_owed : (rid : Rid) (s : Seat) → owed_by_holding (owned_more rid s).holding ≡ owed_by_holding s.holding
owned_owed rid s = elim (cases_Bool (owns rid s.holding)) [ inl e ↦ rw e refl | inr e ↦ rw e (owning_owed rid s.holding) ]

-- a lock owes nothing
pub lock_owes : (seats : List Seat) (k : ℕ) (rid : Rid) → length seats ≡ 16 → IsSession k → owed_of (with_locks seats k (owned_more rid (locks_of seats k))) ≡ owed_of seats
lock_owes seats k rid sixteen session = omega (arith, owed_set seats k (owned_more rid (locks_of seats k)) sixteen session, owned_owed rid (locks_of seats k))

changing_owed : (p : Rid × Option Row) (held : Option Holding) (h : Holding) → held ≡ Some h → owed_by_holding (option_map (changing p) held) ≡ owed_by_holding held + 1
changing_owed p None h e = absurd (let c : None ≡ Some h = e in cc)
changing_owed p (Some g) h e = omega arith

noted_owed : (p : Rid × Option Row) (rid : Rid) (s : Seat) (h : Holding) → s.holding ≡ Some h → owed_by_holding (noted_seat p (owned_more rid s)).holding ≡ owed_by_holding s.holding + 1
noted_owed p rid s h e =
    elim (cases_Bool (owns rid s.holding)) [
      | inl f ↦ rw f (changing_owed p s.holding h e)
      | inr f ↦ rw f (let more = changing_owed p (option_map (owning rid) s.holding) (owning rid h) (ap (option_map (owning rid)) e) in omega (arith, more, owning_owed rid s.holding))
    ]

-- ---- the table behind a change

numbers_alike : (a b : Option Holding) (h g : Holding) → number_in a ≡ number_in b → a ≡ Some h → b ≡ Some g → g.number ≡ h.number
numbers_alike a b h g same e f = let c : Some h.number ≡ Some g.number = sym (ap number_in e) ∙ same ∙ ap number_in f in cc

-- it may stand behind the record
pub change_follows : (opened : ℕ) (v : Installation) (seats : List Seat) (k txn : ℕ) (rid : Rid) (before : Option Row) → IsSession k → length seats ≡ 16 → number_in (locks_of seats k).holding ≡ Some txn → HasMore opened v seats
    → MayFollow opened v seats (with_locks seats k (noted_seat (rid, before) (owned_more rid (locks_of seats k))))
change_follows opened v seats k txn rid before session sixteen some more =
    let now = with_locks seats k (noted_seat (rid, before) (owned_more rid (locks_of seats k))) in
    let has = has_holding _ txn some in
    let owed : owed_of now ≡ owed_of seats + 1 = omega (arith, owed_set seats k (noted_seat (rid, before) (owned_more rid (locks_of seats k))) sixteen session, noted_owed (rid, before) rid (locks_of seats k) has.holding has.is) in
    record {
      log = omega (arith, owed, more.log);
      records = omega (arith, owed, more.records);
      positions = omega (arith, owed, more.positions);
      numbers = λ i h e. ⊎_elim
          (λ own. (k - 1, has.holding, held_seat seats k ∙ has.is, numbers_alike _ _ h has.holding (noted_number (rid, before) rid (locks_of seats k)) own has.is))
          (λ old. (i, h, old, refl))
          (held_set seats k i (noted_seat (rid, before) (owned_more rid (locks_of seats k))) h sixteen session e);
    }

-- the parts show the machine behind the change
pub change_shown : (opened : ℕ) (v w : Installation) (seats : List Seat) (registers : Registers) (m : Machine) (k txn n : ℕ) (rid : Rid) (before after : Option Row) → IsSession k → number_in (locks_of seats k).holding ≡ Some txn → Regular m → Shows opened v seats registers m
    → ShowsStorage w (change_row n rid (Change txn rid before after) m) → Shows opened w (with_locks seats k (noted_seat (rid, before) (owned_more rid (locks_of seats k)))) registers (change_row n rid (Change txn rid before after) m)
change_shown opened v w seats registers m k txn n rid before after session some regular shows storage =
    let has = has_holding _ txn some in
    record {
      storage = storage;
      sessions = subst (λ t. ShowsSeats (with_locks seats k (noted_seat (rid, before) (owned_more rid (locks_of seats k)))) registers (change_row n rid (Change t rid before after) m)) has.number (change_sessions_show seats registers m k n has.holding rid before after session has.is regular shows.sessions);
      since = (before_even n (rid.space, rid.page) m regular.orderly.need).opened ∙ shows.since;
    }

-- ---- memory that is made for locks

-- it leaves what sessions hold
pub reserved_table : (seats : List Seat) (k n : ℕ) → table_of (with_locks seats k (reserved_seat n (locks_of seats k))) ≡ table_of seats
reserved_table seats k n = map-set (λ (u : Seat). u.holding) seats (k - 1) (reserved_seat n (locks_of seats k)) ∙ unchanged (table_of seats) (k - 1) (locks_of seats k).holding (held_seat seats k)

pub same_turns : (opened : ℕ) (v : Installation) (seats now : List Seat) → table_of now ≡ table_of seats → HasTurns opened v seats → HasTurns opened v now
same_turns opened v seats now same is = record {
  room = is.room;
  log = subst (λ t. owed_in t ≤ free_of v) (sym same) is.log;
  records = subst (λ t. last_in v - opened + owed_in t ≤ 1048576) (sym same) is.records;
  positions = subst (λ t. last_in v + 1 + owed_in t ≤ 2 ^ 62) (sym same) is.positions;
  at_end = is.at_end;
  need = is.need;
  numbers = λ i h e. is.numbers i h (ap (λ t. held t i) (sym same) ∙ e);
}

pub same_more : (opened : ℕ) (v : Installation) (seats now : List Seat) → table_of now ≡ table_of seats → HasMore opened v seats → HasMore opened v now
same_more opened v seats now same is = record {
  log = subst (λ t. owed_in t + 2 ≤ free_of v) (sym same) is.log;
  records = subst (λ t. last_in v - opened + owed_in t + 2 ≤ 1048576) (sym same) is.records;
  positions = subst (λ t. last_in v + 1 + owed_in t + 2 ≤ 2 ^ 62) (sym same) is.positions;
}

pub same_anchor : (v : Installation) (seats now : List Seat) → table_of now ≡ table_of seats → anchor_made v now ≡ anchor_made v seats
same_anchor v seats now same = ap (λ t. (checkpointed v (unwrap_or (low_in t) v.ring.state.next) v.anchor.next_archive []).anchor) same

-- ---- the machine's turn

-- where no other session is in the way and the slot holds a row, room alone may be wanting
pub found_turn : (opened : ℕ) (v : Installation) (seats : List Seat) (registers : Registers) (m : Machine) (o : Owner) (rid : Rid) (before : Row) (after : Option Row) → Regular m → Shows opened v seats registers m → holder_of (table_of seats) o.session rid true ≡ None → row_in m rid ≡ Some before
    → row_turn m o rid after ≡ written_turn m o rid (Some before) after (Changed rid)
found_turn opened v seats registers m o rid before after regular shows alone row =
    let none : holder m o.session true rid ≡ None = sym (holder_is seats registers m o.session true rid regular shows.sessions) ∙ alone in
    ap (λ (h : Option ℕ). unless m ((is_some h, RowLocked (unwrap_or h 0)) ∷ (is_none (row_in m rid), NoRow) ∷ no_room m) (Changed rid, change_row o.entry rid (Change o.txn rid (row_in m rid) after) m)) none
    ∙ ap (λ (b : Option Row). unless m ((false, RowLocked 0) ∷ (is_none b, NoRow) ∷ no_room m) (Changed rid, change_row o.entry rid (Change o.txn rid b after) m)) row

-- ---- results

pub unless_failed : {A : Type 0} {P : Type 0} (r : Result A StorageFault) → IfErr r (λ f. f ≡ Failed) → OnOk r P → (IsErrOf r Failed → ⊥) → P
unless_failed (Ok x) only is ok = is
unless_failed (Err f) only is ok = absurd (ok (ap (λ e. Err e) only))

-- what a change that was made leaves, or a failed call
pub leaves_ok : (m n : Machine) (shown : Machine → Type 0) (r : Result Reply StorageFault) → IfErr r (λ f. f ≡ Failed) → OnOk r (shown n) → Leaves m shown n r
leaves_ok m n shown (Ok reply) only is = is
leaves_ok m n shown (Err f) only is = subst (λ (x : StorageFault). Leaves m shown n (Err x)) (sym only) tt

-- what a fault leaves, where nothing has changed
pub leaves_same : (m n : Machine) (shown : Machine → Type 0) (fault : StorageFault) → ((fault ≡ Failed → ⊥) → shown m) → Leaves m shown n (Err fault)
leaves_same m n shown Failed is = tt
leaves_same m n shown Stopped is = tt
leaves_same m n shown NoMemory is = is (λ e. cc)
leaves_same m n shown (Bad chunk page) is = is (λ e. cc)

-- another session is in the way
pub locked_turn : (seats : List Seat) (registers : Registers) (m : Machine) (o : Owner) (rid : Rid) (after : Option Row) (other : ℕ) → Regular m → ShowsSeats seats registers m → holder_of (table_of seats) o.session rid true ≡ Some other → row_turn m o rid after ≡ (RowLocked other, m)
locked_turn seats registers m o rid after other regular shows some =
    let held_there : holder m o.session true rid ≡ Some other = sym (holder_is seats registers m o.session true rid regular shows) ∙ some in
    ap (λ (h : Option ℕ). unless m ((is_some h, RowLocked (unwrap_or h 0)) ∷ (is_none (row_in m rid), NoRow) ∷ no_room m) (Changed rid, change_row o.entry rid (Change o.txn rid (row_in m rid) after) m)) held_there

-- none is in the way where no holder was found
pub none_found : (o : Option ℕ) → ((x : ℕ) → o ≡ Some x → ⊥) → o ≡ None
none_found None never = refl
none_found (Some x) never = absurd (never x refl)

-- the slot holds no row
pub empty_turn : (seats : List Seat) (registers : Registers) (m : Machine) (o : Owner) (rid : Rid) (after : Option Row) → Regular m → ShowsSeats seats registers m → holder_of (table_of seats) o.session rid true ≡ None → row_in m rid ≡ None → row_turn m o rid after ≡ (NoRow, m)
empty_turn seats registers m o rid after regular shows alone row =
    let none : holder m o.session true rid ≡ None = sym (holder_is seats registers m o.session true rid regular shows) ∙ alone in
    ap (λ (h : Option ℕ). unless m ((is_some h, RowLocked (unwrap_or h 0)) ∷ (is_none (row_in m rid), NoRow) ∷ no_room m) (Changed rid, change_row o.entry rid (Change o.txn rid (row_in m rid) after) m)) none
    ∙ ap (λ (b : Option Row). unless m ((false, RowLocked 0) ∷ (is_none b, NoRow) ∷ no_room m) (Changed rid, change_row o.entry rid (Change o.txn rid b after) m)) row

-- what the page holds is the machine's row
pub row_read : (a : Anchor) (earlier : ℕ → Record) (m : Machine) (rid : Rid) → has_place (config_of m) rid ≡ true → slice_index_or ((pages_of a (behind_of earlier m)).now rid.space rid.page).slots rid.slot None ≡ row_in m rid
row_read a earlier m rid there =
    let slot : rid.slot < 31 = grind (arith, nat_tests, and_parts (has_page (config_of m) rid.space rid.page) (nat_lt rid.slot 31) there) in
    let all : upto m.work.start m.work.records (last_of m) ≡ m.work.records = upto_all m.work.start m.work.records (last_of m) (omega arith) in
    ap (λ (l : List Record). slice_index_or (page_behind m.work.start l rid.space rid.page).slots rid.slot None) all
    ∙ slot_folded (start_page m.work.start rid.space rid.page) (m.work.start.last + 1) m.work.records rid.space rid.page rid.slot slot

-- ---- refusals that yield to a fault

yielding : (m : Machine) (tests : List (Bool × Reply)) (answer : Reply × Machine) → AllByRecursion (λ (t : Bool × Reply). comes_first t.1 ≡ false) tests → comes_first answer.0 ≡ false → comes_first (unless m tests answer).0 ≡ false
yielding m [] answer all last = last
yielding m (t ∷ rest) answer (first, all) last = elim t.0 as (λ b. comes_first (if b then (let p : Reply × Machine = (t.1, m) in p) else unless m rest answer).0 ≡ false) [ true ↦ first | false ↦ yielding m rest answer all last ]

pub row_yields : (m : Machine) (o : Owner) (rid : Rid) (after : Option Row) → comes_first (row_turn m o rid after).0 ≡ false
row_yields m o rid after =
    yielding m ((is_some (holder m o.session true rid), RowLocked (unwrap_or (holder m o.session true rid) 0)) ∷ (is_none (row_in m rid), NoRow) ∷ no_room m) (Changed rid, change_row o.entry rid (Change o.txn rid (row_in m rid) after) m) (refl, (refl, (refl, (refl, tt)))) refl

pub written_yields : (m : Machine) (o : Owner) (rid : Rid) (before after : Option Row) (done : Reply) → comes_first done ≡ false → comes_first (written_turn m o rid before after done).0 ≡ false
written_yields m o rid before after done last =
    yielding m (no_room m) (done, change_row o.entry rid (Change o.txn rid before after) m) (refl, (refl, tt)) last

-- a fault of a read, where the turn's refusals yield
pub fault_answer : (m : Machine) (shown : Machine → Type 0) (r : Reply × Machine) (fault : StorageFault) → (fault ≡ Stopped → ⊥) → comes_first r.0 ≡ false → (fault ≡ NoMemory → shown m) → Answers m shown r (Err fault)
fault_answer m shown r Failed never first memory = first
fault_answer m shown r (Bad chunk page) never first memory = first
fault_answer m shown r NoMemory never first memory = memory refl
fault_answer m shown r Stopped never first memory = absurd (never refl)

-- ---- a page that came into memory

pub loaded_shown : (opened : ℕ) (v w : Installation) (seats : List Seat) (registers : Registers) (m : Machine) → w ≡ with_store v w.store → w.store.log ≡ v.store.log → Shows opened v seats registers m → Shows opened w seats registers m
loaded_shown opened v w seats registers m step log shows = record { storage = loaded_shows v w m step log shows.storage; sessions = shows.sessions; since = shows.since }

-- with memory for locks of a session beside it
pub reserved_shown : (opened : ℕ) (v w : Installation) (seats now : List Seat) (registers : Registers) (m : Machine) (k : ℕ) → IsSession k → w ≡ with_store v w.store → w.store.log ≡ v.store.log → now ≡ with_locks seats k (reserved_seat 2 (locks_of seats k)) → Shows opened v seats registers m → Shows opened w now registers m
reserved_shown opened v w seats now registers m k session step log made shows = record {
  storage = loaded_shows v w m step log shows.storage;
  sessions = subst (λ (l : List Seat). ShowsSeats l registers m) (sym made) (reserve_shows seats registers m k 2 session shows.sessions);
  since = shows.since;
}

pub loaded_turns : (opened : ℕ) (v w : Installation) (seats : List Seat) → w ≡ with_store v w.store → HasTurns opened v seats → HasTurns opened w seats
loaded_turns opened v w seats step is = turns_beside opened v w seats (ap (λ (x : Installation). x.ring) step) (ap (λ (x : Installation). x.anchor) step) (ap (λ (x : Installation). x.reached) step) is

pub loaded_more : (opened : ℕ) (v w : Installation) (seats : List Seat) → w ≡ with_store v w.store → HasMore opened v seats → HasMore opened w seats
loaded_more opened v w seats step is = record {
  log = subst (λ (x : Installation). owed_of seats + 2 ≤ free_of x) (sym step) is.log;
  records = subst (λ (x : Installation). last_in x - opened + owed_of seats + 2 ≤ 1048576) (sym step) is.records;
  positions = subst (λ (x : Installation). last_in x + 1 + owed_of seats + 2 ≤ 2 ^ 62) (sym step) is.positions;
}

-- where nothing was asked of the disk, an image stands for what the turn leaves, whatever it answers
pub row_stands : (v : Installation) (a : Anchor) (earlier : ℕ → Record) (m : Machine) (o : Owner) (rid : Rid) (after : Option Row) (d : Bytes) → IsBehind (behind_of earlier m) → StandsWithinTurn v earlier m d → StandsWithinEither v a earlier (row_turn m o rid after).1 d
row_stands v a earlier m o rid after d is s =
    unless_all (λ (k : Machine). StandsWithinEither v a earlier k d) m ((is_some (holder m o.session true rid), RowLocked (unwrap_or (holder m o.session true rid) 0)) ∷ (is_none (row_in m rid), NoRow) ∷ no_room m) (Changed rid, change_row o.entry rid (Change o.txn rid (row_in m rid) after) m)
    (inl s) (λ all. either_changed v a earlier o.entry rid (Change o.txn rid (row_in m rid) after) m d (either_more v a earlier m (Change o.txn rid (row_in m rid) after) d is (inl s)))

pub written_stands : (v : Installation) (a : Anchor) (earlier : ℕ → Record) (m : Machine) (o : Owner) (rid : Rid) (before after : Option Row) (done : Reply) (d : Bytes) → IsBehind (behind_of earlier m) → StandsWithinTurn v earlier m d → StandsWithinEither v a earlier (written_turn m o rid before after done).1 d
written_stands v a earlier m o rid before after done d is s =
    unless_all (λ (k : Machine). StandsWithinEither v a earlier k d) m (no_room m) (done, change_row o.entry rid (Change o.txn rid before after) m)
    (inl s) (λ all. either_changed v a earlier o.entry rid (Change o.txn rid before after) m d (either_more v a earlier m (Change o.txn rid before after) d is (inl s)))

-- a page that came into memory, and then a store with room beside it
pub restored : (v w u : Installation) → w ≡ with_store v w.store → u ≡ with_store w u.store → u ≡ with_store v u.store
restored v w u first second = second ∙ ap (λ (x : Installation). with_store x u.store) first

-- where nothing was asked of the disk, an image stands for a record more
pub record_stands : (v : Installation) (a : Anchor) (earlier : ℕ → Record) (m : Machine) (r : Record) (d : Bytes) → IsBehind (behind_of earlier m) → StandsWithinTurn v earlier m d → StandsWithinEither v a earlier (append r m) d
record_stands v a earlier m r d is s = either_more v a earlier m r d is (inl s)

-- what an error leaves behind a page that came into memory
pub restored_err : {A : Type 0} (v w u : Installation) (r : Result A StorageFault) → w ≡ with_store v w.store → OnErr r ((IsErrOf r Failed → ⊥) → u ≡ with_store w u.store) → OnErr r ((IsErrOf r Failed → ⊥) → u ≡ with_store v u.store)
restored_err v w u (Ok x) first second = tt
restored_err v w u (Err fault) first second = λ calm. restored v w u first (second calm)

-- a call that failed, where it is the only fault, leaves nothing to say where none failed
pub only_failed : {A : Type 0} (P : Type 0) (r : Result A StorageFault) → IfErr r (λ f. f ≡ Failed) → OnErr r ((IsErrOf r Failed → ⊥) → P)
only_failed P (Ok x) only = tt
only_failed P (Err fault) only = λ calm. absurd (calm (ap (λ f. Err f) only))
