-- A row is read: what the machine's turn is.
use Rattle.std.specs.Prelude.{Err, None, Ok, OnErr, OnOk, IfErr, IfOk, Option, Result, Some, [], false, is_some, length, slice_index_or, true, unwrap_or, List, nat_lt, ℕ, ◌+◌, ◌<◌, ◌∷◌, ◌≡◌}
use Rattle.std.proofs.Common.{ap, arith, refl, subst, sym, ◌∙◌}
use Rattle.std.proofs.lemmas.Bool.{and_parts}
use Rattle.std.proofs.lemmas.Bool.Decides.{nat_tests}
use Rattle.ol_values.specs.declared.event.Reply.{Reply}
use Rattle.ol_values.specs.declared.event.Reply.TheVariants.{RowIs, RowLocked}
use Rattle.ol_values.specs.declared.record.Record.{Record}
use Rattle.ol_values.specs.declared.record.Rid.{Rid}
use Rattle.ol_values.specs.declared.row.Row.{Row}
use Rattle.ol_values.specs.Config.{has_page, has_place}
use Rattle.ol_rules.specs.Locks.{holder_of}
use Rattle.ol_rules.specs.Start.{page_behind, start_page, upto}
use Rattle.ol_stand_laws.proofs.PageSlots.{slot_folded}
use Rattle.ol_model.specs.Answering.{unless}
use Rattle.ol_model.specs.Machine.{Machine, config_of, holder, last_of, row_in, seat_of, with_seat}
use Rattle.ol_model.specs.SessionTurns.{read_at, row_is, sharing}
use Rattle.ol_model.specs.Turns.{comes_first}
use Rattle.ol_turn_laws.specs.Room.{Regular}
use Rattle.ol_reserve.specs.declared.anchor.Anchor.{Anchor}
use Rattle.ol_storage.proofs.Agreeing.{upto_all}
use Rattle.ol_storage.specs.Behind.{pages_of}
use Rattle.ol_storage.specs.Installation.{Installation, with_store}
use Rattle.ol_storage.specs.declared.storage.StorageFault.{StorageFault}
use Rattle.ol_storage.specs.declared.storage.StorageFault.TheVariants.{Bad, Failed, NoMemory, Stopped}
use Rattle.ol_txn.specs.Seats.{HasTxn, IsSession, Seat, shared_more, table_of}
use Rattle.ol_txn.specs.Seats.{seat_of as locks_of, with_seat as with_locks}
use Rattle.ol_engine.specs.Parts.{HasTurns, Registers, Shows, ShowsSeats, behind_of}
use Rattle.ol_engine.specs.Turns.{Answers}
use Rattle.ol_engine.proofs.Seats.{holder_is}
use Rattle.ol_engine.proofs.Steps.{loaded_shows}
use Rattle.ol_engine.proofs.Turns.{turns_beside}
use Rattle.ol_read_turns.proofs.Sharings.{shared_shown, shared_turns}

-- none is in the way where no holder was found
pub no_owner : (o : Option ℕ) → ((x : ℕ) → o ≡ Some x → ⊥) → o ≡ None
no_owner None never = refl
no_owner (Some x) never = absurd (never x refl)

-- what the page holds is the machine's row
pub row_held : (a : Anchor) (earlier : ℕ → Record) (m : Machine) (rid : Rid) → rid.slot < 31 → slice_index_or ((pages_of a (behind_of earlier m)).now rid.space rid.page).slots rid.slot None ≡ row_in m rid
row_held a earlier m rid slot =
    let all : upto m.work.start m.work.records (last_of m) ≡ m.work.records = upto_all m.work.start m.work.records (last_of m) (omega arith) in
    ap (λ (l : List Record). slice_index_or (page_behind m.work.start l rid.space rid.page).slots rid.slot None) all
    ∙ slot_folded (start_page m.work.start rid.space rid.page) (m.work.start.last + 1) m.work.records rid.space rid.page rid.slot slot

pub slot_within : (m : Machine) (rid : Rid) → has_place (config_of m) rid ≡ true → rid.slot < 31
slot_within m rid there = grind (arith, nat_tests, and_parts (has_page (config_of m) rid.space rid.page) (nat_lt rid.slot 31) there)

-- ---- the machine's turn

-- another session is in the way
pub locked_read : (seats : List Seat) (registers : Registers) (m : Machine) (k : ℕ) (rid : Rid) (other : ℕ) → Regular m → ShowsSeats seats registers m → holder_of (table_of seats) k rid false ≡ Some other → read_at m k (seat_of m k) (Ok rid) ≡ (RowLocked other, m)
locked_read seats registers m k rid other regular shows some =
    let there : holder m k false rid ≡ Some other = sym (holder_is seats registers m k false rid regular shows) ∙ some in
    ap (λ (h : Option ℕ). unless m ((is_some h, RowLocked (unwrap_or h 0)) ∷ []) (row_is m k (seat_of m k) rid (row_in m rid))) there

-- none is, and the slot holds this
pub free_read : (seats : List Seat) (registers : Registers) (m : Machine) (k : ℕ) (rid : Rid) (row : Option Row) → Regular m → ShowsSeats seats registers m → holder_of (table_of seats) k rid false ≡ None → row_in m rid ≡ row → read_at m k (seat_of m k) (Ok rid) ≡ row_is m k (seat_of m k) rid row
free_read seats registers m k rid row regular shows alone is =
    let none : holder m k false rid ≡ None = sym (holder_is seats registers m k false rid regular shows) ∙ alone in
    ap (λ (h : Option ℕ). unless m ((is_some h, RowLocked (unwrap_or h 0)) ∷ []) (row_is m k (seat_of m k) rid (row_in m rid))) none ∙ ap (λ (r : Option Row). row_is m k (seat_of m k) rid r) is

row_last : (m : Machine) (k : ℕ) (rid : Rid) (row : Option Row) → comes_first (row_is m k (seat_of m k) rid row).0 ≡ false
row_last m k rid None = refl
row_last m k rid (Some row) = refl

-- its refusals yield to a fault
pub read_yields : (m : Machine) (k : ℕ) (rid : Rid) → comes_first (read_at m k (seat_of m k) (Ok rid)).0 ≡ false
read_yields m k rid =
    let r = row_is m k (seat_of m k) rid (row_in m rid) in
    elim (is_some (holder m k false rid)) as (λ b. comes_first (unless m ((b, RowLocked (unwrap_or (holder m k false rid) 0)) ∷ []) r).0 ≡ false) [ true ↦ refl | false ↦ row_last m k rid (row_in m rid) ]

-- ---- answers

-- a fault of a read, where the turn's refusals yield
pub faulted : (m : Machine) (shown : Machine → Type 0) (r : Reply × Machine) (fault : StorageFault) → (fault ≡ Stopped → ⊥) → comes_first r.0 ≡ false → (fault ≡ NoMemory → shown m) → Answers m shown r (Err fault)
faulted m shown r Failed never first memory = first
faulted m shown r (Bad chunk page) never first memory = first
faulted m shown r NoMemory never first memory = memory refl
faulted m shown r Stopped never first memory = absurd (never refl)

-- a page that came into memory
pub read_shown : (opened : ℕ) (v w : Installation) (seats : List Seat) (registers : Registers) (m : Machine) → w ≡ with_store v w.store → w.store.log ≡ v.store.log → Shows opened v seats registers m → Shows opened w seats registers m
read_shown opened v w seats registers m step log shows = record { storage = loaded_shows v w m step log shows.storage; sessions = shows.sessions; since = shows.since }

pub read_turns : (opened : ℕ) (v w : Installation) (seats : List Seat) → w ≡ with_store v w.store → HasTurns opened v seats → HasTurns opened w seats
read_turns opened v w seats step is = turns_beside opened v w seats (ap (λ (x : Installation). x.ring) step) (ap (λ (x : Installation). x.anchor) step) (ap (λ (x : Installation). x.reached) step) is

-- a row that was read, with its slot shared or no memory for that
pub shared_answer : (opened : ℕ) (w : Installation) (seats now : List Seat) (registers : Registers) (m : Machine) (k : ℕ) (rid : Rid) (row : Row) (r : Result Reply StorageFault) → IsSession k → HasTxn seats k → Shows opened w seats registers m
    → IfOk r (λ reply. reply ≡ RowIs row) → OnOk r (now ≡ with_locks seats k (shared_more rid (locks_of seats k))) → OnErr r (now ≡ seats) → IfErr r (λ fault. fault ≡ NoMemory) → Answers m (Shows opened w now registers) (row_is m k (seat_of m k) rid (Some row)) r
shared_answer opened w seats now registers m k rid row (Ok reply) session some shows is ok kept only =
    (is, subst (λ (l : List Seat). Shows opened w l registers (with_seat k (sharing (seat_of m k) (rid ∷ [])) m)) (sym ok) (shared_shown opened w seats registers m k (rid ∷ []) session some shows))
shared_answer opened w seats now registers m k rid row (Err fault) session some shows is ok kept only =
    faulted m (Shows opened w now registers) (row_is m k (seat_of m k) rid (Some row)) fault (λ e. absurd (let c : Stopped ≡ NoMemory = sym e ∙ only in cc)) refl (λ e. subst (λ (l : List Seat). Shows opened w l registers m) (sym kept) shows)

pub shared_room : (opened : ℕ) (w : Installation) (seats now : List Seat) (k : ℕ) (rid : Rid) (r : Result Reply StorageFault) → length seats ≡ 16 → IsSession k → HasTxn seats k → HasTurns opened w seats → OnOk r (now ≡ with_locks seats k (shared_more rid (locks_of seats k))) → OnErr r (now ≡ seats) → HasTurns opened w now
shared_room opened w seats now k rid (Ok reply) sixteen session some turns ok kept = subst (λ (l : List Seat). HasTurns opened w l) (sym ok) (shared_turns opened w seats k (rid ∷ []) sixteen session some turns)
shared_room opened w seats now k rid (Err fault) sixteen session some turns ok kept = subst (λ (l : List Seat). HasTurns opened w l) (sym kept) turns
