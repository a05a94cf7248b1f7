-- A change is taken back: the hints, the running archives and the places of changes beside it, and what is left where memory was refused.
use Rattle.std.specs.List.{All}
use Rattle.std.specs.Option.{option_map}
use Rattle.std.specs.Prelude.{Bool, Err, IfSome, IsErrOf, List, None, Ok, OnErr, OnOk, Option, Result, Some, [], false, if◌then◌else◌, length, min, nat_lt, slice_get, slice_index_or, true, ℕ, ◌++◌, ◌∷◌, ◌<◌, ◌^◌, ◌≡◌, ◌≤◌}
use Rattle.std.proofs.Common.{ap, arith, refl, subst, sym, ⊎_elim, ◌∙◌}
use Rattle.std.proofs.Math.Nat.{min-le_left}
use Rattle.std.proofs.lemmas.Bool.{and_parts}
use Rattle.std.proofs.lemmas.Bool.Decides.{nat_tests}
use Rattle.ol_values.specs.declared.event.Reply.{Reply}
use Rattle.ol_values.specs.declared.event.Reply.TheVariants.{NoTxn, Undone}
use Rattle.ol_values.specs.declared.record.Record.{Record}
use Rattle.ol_values.specs.declared.record.Record.TheVariants.{Undo}
use Rattle.ol_values.specs.declared.record.Rid.{Rid}
use Rattle.ol_values.specs.declared.row.Row.{Row}
use Rattle.ol_values.specs.Config.{Config, has_page, has_place}
use Rattle.ol_rules.specs.Locks.{Holding}
use Rattle.ol_archive_turns.specs.Ending.{AreNumbered, IsNumbered}
use Rattle.ol_archive_turns.specs.Turns.{AreAllUp, runs_in}
use Rattle.ol_cursor.specs.declared.cursor.Cursor.{Cursor}
use Rattle.ol_cursor.specs.Order.{archives}
use Rattle.ol_engine.specs.Parts.{GoesOn, HasTurns, Registers, Shows, ShowsSeats, behind_of, number_in}
use Rattle.ol_engine.specs.Turns.{Answers}
use Rattle.ol_free_slots.proofs.Filling.{change_config, emptied_filled, raised}
use Rattle.ol_free_slots.specs.declared.hints.Hints.{Hints}
use Rattle.ol_free_slots.specs.Filled.{AreFull, hint_of}
use Rattle.ol_model.specs.History.{is_faulted}
use Rattle.ol_model.specs.Machine.{Machine, config_of as machine_config, pending_at, row_in}
use Rattle.ol_model.specs.SessionTurns.{undo_at, undo_turn}
use Rattle.ol_model.specs.Steps.{change_row, is_page_in, make_checkpoint, needs_checkpoint, touch}
use Rattle.ol_ports.specs.Disk.{Past}
use Rattle.ol_reserve.specs.declared.anchor.Anchor.{Anchor}
use Rattle.ol_row_turns.proofs.TakenBack.{back_turn, idle_turn, spent_turn}
use Rattle.ol_row_turns.specs.Turns.{IsUndoable, Leaves, SameCursors, cursor_in, undone_turn}
use Rattle.ol_running.specs.declared.running.Running.{Running}
use Rattle.ol_running.specs.Running.{ShowsArchives, running_of}
use Rattle.ol_session_turns.specs.Pending.{ArePending}
use Rattle.ol_storage.specs.Behind.{is_up}
use Rattle.ol_storage.specs.Installation.{Installation, config_of, with_store}
use Rattle.ol_storage.specs.Storing.{IsStored}
use Rattle.ol_storage.specs.declared.storage.StorageFault.{StorageFault}
use Rattle.ol_storage.specs.declared.storage.StorageFault.TheVariants.{Bad, Failed, NoMemory, Stopped}
use Rattle.ol_turn_laws.proofs.StepLaws.{changed_row}
use Rattle.ol_turn_laws.specs.Room.{Regular}
use Rattle.ol_txn.specs.Seats.{IsSession, Seat, last_of, pending_of}
use Rattle.ol_txn.specs.Seats.{seat_of as locks_of}
use Rattle.ol_turns.proofs.Wholes.{places_same, up_same}
use Rattle.ol_turns.specs.Cores.{IsGoing, IsLow, IsShown, is_there}
use Rattle.ol_turns.specs.RowTurns.{hints_opened}
use Rattle.ol_turns.specs.declared.state.State.{State}

-- ---- the place of the newest change

head_there : (v : Installation) (l : List (Rid × Option Row)) → All (λ (p : Rid × Option Row). is_there v p.0 ≡ true) l → IsUndoable v (slice_get l 0)
head_there v [] all = tt
head_there v (p ∷ l) all = and_parts (has_place (config_of v) p.0) (is_up v.anchor p.0.space) (all 0 p (omega arith))

held_there : (v : Installation) (o : Option Holding) → ((h : Holding) → o ≡ Some h → All (λ (p : Rid × Option Row). is_there v p.0 ≡ true) h.pending) → IsUndoable v (slice_get (pending_of o) 0)
held_there v None are = tt
held_there v (Some h) are = head_there v h.pending (are h refl)

-- it is there, in a space that is up
pub last_there : (v : Installation) (seats : List Seat) (k : ℕ) → ArePending (is_there v) seats → IsUndoable v (last_of (locks_of seats k))
last_there v seats k are = held_there v (locks_of seats k).holding (are k)

-- so its space is one of the sixteen
pub last_space : (v : Installation) (last : Option (Rid × Option Row)) → length (config_of v).spaces ≤ 16 → IsUndoable v last → IfSome last (λ p. p.0.space < 16)
last_space v None few there = tt
last_space v (Some p) few there =
    let page = (and_parts (has_page (config_of v) p.0.space p.0.page) (nat_lt p.0.slot 31) there.0).0 in
    let space : p.0.space < length (config_of v).spaces = grind (arith, nat_tests, (and_parts (nat_lt p.0.space (length (config_of v).spaces)) _ page).0) in
    omega (arith, space, few)

-- ---- hints

-- a hint that is lowered stays true
pub opened_full : (last : Option (Rid × Option Row)) (h : Hints) (m : Machine) → AreFull h m → AreFull (hints_opened last h) m
opened_full None h m is = is
opened_full (Some p) h m is = record {
  filled = λ space page slot there below.
      let least : min (hint_of h p.0.space) p.0.page ≤ hint_of h p.0.space = min-le_left (hint_of h p.0.space) p.0.page in
      is.filled space page slot there
      (⊎_elim (λ own. subst (λ (s : ℕ). page < hint_of h s) (sym own.0) (omega (arith, own.1, least))) (λ old. old)
      (raised h.first p.0.space space (min (hint_of h p.0.space) p.0.page) page below));
}

-- ---- the turn

ready_stopped : (p : ℕ × ℕ) (m : Machine) → (let t : Machine = (if needs_checkpoint m p then make_checkpoint m else m) in t).stopped ≡ m.stopped
ready_stopped p m = elim (needs_checkpoint m p) as (λ b. (let t : Machine = (if b then make_checkpoint m else m) in t).stopped ≡ m.stopped) [ true ↦ refl | false ↦ refl ]

touch_stopped : (p : ℕ × ℕ) (m : Machine) → (touch p m).stopped ≡ m.stopped
touch_stopped p m = elim (is_page_in p m.checkpoint.touched) as (λ b. (let t : Machine = (if b then m else record m { checkpoint = record m.checkpoint { touched = m.checkpoint.touched ++ p ∷ [] } }) in t).stopped ≡ m.stopped) [ true ↦ refl | false ↦ refl ]

-- a change of a row stops no engine
pub change_stopped : (n : ℕ) (rid : Rid) (r : Record) (m : Machine) → (change_row n rid r m).stopped ≡ m.stopped
change_stopped n rid r m =
    let p : ℕ × ℕ = (rid.space, rid.page) in
    touch_stopped p (if needs_checkpoint m p then make_checkpoint m else m) ∙ ready_stopped p m

-- what holds of both answers
undone_either : (P : Reply × Machine → Type 0) (seats : List Seat) (registers : Registers) (m : Machine) (k n : ℕ) → IsSession k → Regular m → ShowsSeats seats registers m → P (NoTxn, m)
    → ((txn : ℕ) (p : Rid × Option Row) → last_of (locks_of seats k) ≡ Some p → P (Undone p.0, change_row n p.0 (Undo txn p.0 p.1) m)) → P (undone_turn m n k)
undone_either P seats registers m k n session regular shows none some = by_txn (number_in (locks_of seats k).holding) refl
  where
    by_last : (txn : ℕ) → number_in (locks_of seats k).holding ≡ Some txn → (last : Option (Rid × Option Row)) → last_of (locks_of seats k) ≡ last → P (undone_turn m n k)
    by_last txn open_is None e = subst P (sym (spent_turn seats registers m k n txn session regular shows open_is e)) none
    by_last txn open_is (Some p) e = subst P (sym (back_turn seats registers m k n txn p session regular shows open_is e)) (some txn p e)

    by_txn : (txn : Option ℕ) → number_in (locks_of seats k).holding ≡ txn → P (undone_turn m n k)
    by_txn None e = subst P (sym (idle_turn seats registers m k n session shows e)) none
    by_txn (Some txn) e = by_last txn e (last_of (locks_of seats k)) refl

-- its hints are true, where they were told of the slot
pub undone_full : (h : Hints) (seats : List Seat) (registers : Registers) (m : Machine) (k n : ℕ) → IsSession k → Regular m → ShowsSeats seats registers m → AreFull h m → AreFull (hints_opened (last_of (locks_of seats k)) h) (undone_turn m n k).1
undone_full h seats registers m k n session regular shows full =
    undone_either (λ (r : Reply × Machine). AreFull (hints_opened (last_of (locks_of seats k)) h) r.1) seats registers m k n session regular shows (opened_full (last_of (locks_of seats k)) h m full)
    (λ txn p e. let r : Record = Undo txn p.0 p.1 in
    subst (λ (last : Option (Rid × Option Row)). AreFull (hints_opened last h) (change_row n p.0 r m)) (sym e)
    (emptied_filled h (machine_config m) (machine_config (change_row n p.0 r m)) (row_in m) (row_in (change_row n p.0 r m)) p.0 p.1 (change_config n p.0 r m) (λ at. changed_row n p.0 r m at) full))

undo_at_stopped : (m : Machine) (n txn : ℕ) (l : List (Rid × Option Row)) → (undo_at m n txn l).1.stopped ≡ m.stopped
undo_at_stopped m n txn [] = refl
undo_at_stopped m n txn (p ∷ rest) = change_stopped n p.0 (Undo txn p.0 p.1) m

pub undo_stopped : (m : Machine) (n k : ℕ) (txn : Option ℕ) → (undo_turn m n k txn).1.stopped ≡ m.stopped
undo_stopped m n k None = refl
undo_stopped m n k (Some txn) = undo_at_stopped m n txn (pending_at m k)

undo_at_calm : (m : Machine) (n txn : ℕ) (l : List (Rid × Option Row)) → is_faulted (undo_at m n txn l).0 ≡ false
undo_at_calm m n txn [] = refl
undo_at_calm m n txn (p ∷ rest) = refl

pub undo_calm : (m : Machine) (n k : ℕ) (txn : Option ℕ) → is_faulted (undo_turn m n k txn).0 ≡ false
undo_calm m n k None = refl
undo_calm m n k (Some txn) = undo_at_calm m n txn (pending_at m k)

-- ---- the running archives

same_runs : (space : ℕ) (a b : Option Running) → cursor_in a ≡ cursor_in b → runs_in space a ≡ runs_in space b
same_runs space None None e = refl
same_runs space None (Some b) e = absurd (let c : None ≡ Some b.cursor = e in cc)
same_runs space (Some a) None e = absurd (let c : Some a.cursor ≡ None = e in cc)
same_runs space (Some a) (Some b) e = let same : a.cursor ≡ b.cursor = (let c : Some a.cursor ≡ Some b.cursor = e in cc) in ap (λ (x : Cursor). archives x space) same

pub cursors_up : (a : Anchor) (l n : List (Option Running)) → SameCursors l n → AreAllUp a l → AreAllUp a n
cursors_up a l n same up k space runs = up k space (sym (same_runs space (running_of n k) (running_of l k) (same k)) ∙ runs)

same_numbers : (a b : Option Running) → cursor_in a ≡ cursor_in b → IsNumbered b → IsNumbered a
same_numbers None b e is = tt
same_numbers (Some a) None e is = absurd (let c : Some a.cursor ≡ None = e in cc)
same_numbers (Some a) (Some b) e is = let same : a.cursor ≡ b.cursor = (let c : Some a.cursor ≡ Some b.cursor = e in cc) in subst (λ (x : Cursor). (x.number ≤ 2 ^ 62) × (x.cut ≤ 2 ^ 62)) (sym same) is

pub cursors_numbered : (l n : List (Option Running)) → SameCursors l n → AreNumbered l → AreNumbered n
cursors_numbered l n same are k = same_numbers (running_of n k) (running_of l k) (same k) (are k)

-- ---- what is shown

pub row_answers : (earlier : ℕ → Record) (past : Past) (w : Installation) (s : State) (m : Machine) (r : Reply × Machine) (answered : Result Reply StorageFault)
    → Answers m (Shows s.opened w s.locks s.registers) r answered → Leaves m (λ n. ShowsArchives s.archives w.store.before n) r.1 answered → OnOk answered (IsStored past w (behind_of earlier r.1)) → (IsErrOf answered NoMemory → IsStored past w (behind_of earlier m))
    → AreFull s.hints r.1 → AreFull s.hints m → r.1.stopped ≡ None → m.stopped ≡ None
    → Answers m (λ k. IsShown earlier past w s k) r answered
row_answers earlier past w s m r (Ok q) (is, shows) archives stored memory full before going calm = (is, record { shows = shows; archives = archives; stored = stored; full = full; going = going })
row_answers earlier past w s m r (Err Failed) last archives stored memory full before going calm = last
row_answers earlier past w s m r (Err (Bad chunk page)) last archives stored memory full before going calm = last
row_answers earlier past w s m r (Err NoMemory) shows archives stored memory full before going calm = record { shows = shows; archives = archives; stored = memory refl; full = before; going = calm }
row_answers earlier past w s m r (Err Stopped) last archives stored memory full before going calm = last

-- ---- what is in order

-- where memory was refused the parts are in order, with other pages in memory
pub starved_row : (n : ℕ) (faults now : ℕ → ℕ) (v w : Installation) (old s : State) → IsGoing n faults v old → s.table ≡ old.table → s.counts ≡ old.counts → GoesOn v w → HasTurns s.opened w s.locks → ArePending (is_there v) s.locks → SameCursors old.archives s.archives → w ≡ with_store v w.store → now ≡ faults → IsGoing n now w s
starved_row n faults now v w old s is table counts goes turns places cursors step same = record {
  going = goes.going;
  turns = turns;
  places = places_same v w s.locks goes places;
  up = up_same v w s.archives goes (cursors_up v.anchor old.archives s.archives cursors is.up);
  numbers = cursors_numbered old.archives s.archives cursors is.numbers;
  low = subst (λ (x : Installation). IsLow n x) (sym step) (record { uniq = is.low.uniq; serial = is.low.serial; generation = is.low.generation; archive = is.low.archive });
  table = table ∙ is.table ∙ sym goes.config;
  counts = λ chunk within. ap (λ (l : List ℕ). slice_index_or l chunk 0) counts ∙ is.counts chunk within ∙ ap (λ (f : ℕ → ℕ). f chunk) (sym same);
}

-- where memory was refused, what an error leaves is so, and no call failed
pub starved_error : {A : Type 0} (P : Type 0) (answered : Result A StorageFault) → IsErrOf answered NoMemory → OnErr answered ((IsErrOf answered Failed → ⊥) → P) → P
starved_error P (Ok x) starved is = absurd cc
starved_error P (Err fault) starved is = is (λ failed. let one : fault ≡ NoMemory = cc in let other : fault ≡ Failed = cc in let clash : NoMemory ≡ Failed = sym one ∙ other in absurd cc)
