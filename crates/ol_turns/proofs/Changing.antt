-- A row changes: the machine's turn by what its target names, the hints beside it, and how a turn over the parts and the state is entered.
use Rattle.std.specs.Prelude.{Bool, Err, IfErr, IfOk, IsErrOf, List, None, OnErr, OnOk, Ok, Option, Result, Some, [], false, if◌then◌else◌, is_none, is_some, length, slice_index_or, true, unwrap_or, ℕ, ◌&&◌, ◌+◌, ◌∷◌, ◌≡◌, ◌≤◌}
use Rattle.std.proofs.Common.{ap, arith, refl, subst, sym, ◌∙◌}
use Rattle.std.proofs.lemmas.Bool.Decides.{nat_tests}
use Rattle.ol_values.specs.declared.event.Event.{Event}
use Rattle.ol_values.specs.declared.event.Reply.{Reply}
use Rattle.ol_values.specs.declared.event.Reply.TheVariants.{BadRid, Changed, NoRow, RowLocked, SpaceDown}
use Rattle.ol_values.specs.declared.event.Target.{Target}
use Rattle.ol_values.specs.declared.event.Target.TheVariants.{At, Reg}
use Rattle.ol_values.specs.declared.history.By.{By}
use Rattle.ol_values.specs.declared.history.Entry.{Entry}
use Rattle.ol_values.specs.declared.record.Record.{Record}
use Rattle.ol_values.specs.declared.record.Record.TheVariants.{Change}
use Rattle.ol_values.specs.declared.record.Rid.{Rid}
use Rattle.ol_values.specs.declared.row.Row.{Row}
use Rattle.ol_values.specs.Config.{has_place, space_named}
use Rattle.ol_engine.specs.Parts.{Registers, ShowsSeats, number_in}
use Rattle.ol_engine.specs.Turns.{Answers}
use Rattle.ol_free_slots.proofs.Filling.{change_config, emptied_filled, record_filled}
use Rattle.ol_free_slots.specs.declared.hints.Hints.{Hints}
use Rattle.ol_free_slots.specs.Filled.{AreFull}
use Rattle.ol_model.specs.Answering.{no_room}
use Rattle.ol_model.specs.History.{Steps, is_faulted, state_at}
use Rattle.ol_model.specs.Machine.{Machine, Seat, config_of as machine_config, holder, row_in, seat_of}
use Rattle.ol_model.specs.SessionTurns.{change_at, change_turn, place_held, place_in, place_of, target_of}
use Rattle.ol_model.specs.Steps.{change_row}
use Rattle.ol_model.specs.Turns.{Given, number_of, turn_of}
use Rattle.ol_ports.specs.Disk.{Past}
use Rattle.ol_row_turns.specs.Turns.{row_turn}
use Rattle.ol_row_turns.specs.declared.owner.Owner.{Owner}
use Rattle.ol_rules.specs.Lasting.{is_up}
use Rattle.ol_rules.specs.Sound.{is_value}
use Rattle.ol_storage.specs.Behind.{is_up as anchor_is_up}
use Rattle.ol_storage.specs.Installation.{Installation, config_of}
use Rattle.ol_storage.specs.declared.storage.StorageFault.{StorageFault}
use Rattle.ol_storage.specs.declared.storage.StorageFault.TheVariants.{NoMemory}
use Rattle.ol_turn_laws.proofs.KeptLaws.{unless_keeps}
use Rattle.ol_turn_laws.proofs.StepLaws.{changed_row}
use Rattle.ol_turn_laws.specs.Room.{HasShortRow}
use Rattle.ol_txn.specs.Seats.{IsSession, Seat as LockSeat}
use Rattle.ol_txn.specs.Seats.{seat_of as locks_of}
use Rattle.ol_turns.proofs.Goes.{calm_unless, goes_on, ready_of}
use Rattle.ol_turns.proofs.Undoing.{opened_full}
use Rattle.ol_turns.proofs.Wholes.{whole_on}
use Rattle.ol_turns.specs.Cores.{IsGoing, IsShown, IsToldAs, IsWhole, Runs, entry_of, history_of, is_there, machine_of, with_entry}
use Rattle.ol_turns.specs.Entries.{Noted}
use Rattle.ol_turns.specs.RowTurns.{hints_behind}
use Rattle.ol_turns.specs.declared.state.State.{State}

-- ---- refusals of targets

abbrev IsCalm : Result Rid Reply → Type 0
IsCalm found = IfErr found (λ q. is_faulted q ≡ false)

place_calm : (m : Machine) (rid : Rid) → IsCalm (place_of m rid)
place_calm m rid = elim (has_place (machine_config m) rid) as (λ b. IsCalm (if b then (if is_up m.lasting rid.space then Ok rid else Err (SpaceDown rid.space)) else Err BadRid)) [
  | true ↦ elim (is_up m.lasting rid.space) as (λ b. IsCalm (if b then Ok rid else Err (SpaceDown rid.space))) [ true ↦ tt | false ↦ refl ]
  | false ↦ refl
]

held_calm : (m : Machine) (held : Option Rid) → IsCalm (place_held m held)
held_calm m None = refl
held_calm m (Some rid) = place_calm m rid

named_calm : (m : Machine) (page slot : ℕ) (space : Option ℕ) → IsCalm (place_in m page slot space)
named_calm m page slot None = refl
named_calm m page slot (Some space) = place_calm m _

target_calm : (m : Machine) (s : Seat) (target : Target) → IsCalm (target_of m s target)
target_calm m s (Reg reg) = held_calm m (slice_index_or s.registers reg None)
target_calm m s (At name page slot) = named_calm m page slot (space_named (machine_config m) name)

-- ---- replies

change_at_calm : (m : Machine) (n k txn : ℕ) (after : Option Row) (found : Result Rid Reply) → IsCalm found → is_faulted (change_at m n k txn after found).0 ≡ false
change_at_calm m n k txn after (Err refusal) calm = calm
change_at_calm m n k txn after (Ok rid) calm =
    calm_unless m ((is_some (holder m k true rid), RowLocked (unwrap_or (holder m k true rid) 0)) ∷ (is_none (row_in m rid), NoRow) ∷ no_room m) (Changed rid, change_row n rid (Change txn rid (row_in m rid) after) m) (refl, (refl, (refl, (refl, tt)))) refl

pub change_calm : (m : Machine) (n k : ℕ) (s : Seat) (txn : Option ℕ) (target : Target) (after : Option Row) → is_faulted (change_turn m n k s txn target after).0 ≡ false
change_calm m n k s None target after = refl
change_calm m n k s (Some txn) target after = change_at_calm m n k txn after (target_of m s target) (target_calm m s target)

-- ---- the row

-- what holds of the state and behind the change holds of what the turn leaves
pub row_kept : (P : Machine → Type 0) (m : Machine) (o : Owner) (rid : Rid) (after : Option Row) → P m → P (change_row o.entry rid (Change o.txn rid (row_in m rid) after) m) → P (row_turn m o rid after).1
row_kept P m o rid after before behind =
    unless_keeps P m ((is_some (holder m o.session true rid), RowLocked (unwrap_or (holder m o.session true rid) 0)) ∷ (is_none (row_in m rid), NoRow) ∷ no_room m) (Changed rid, change_row o.entry rid (Change o.txn rid (row_in m rid) after) m) before behind

-- the turn of an open transaction whose target was found
pub found_row : (seats : List LockSeat) (registers : Registers) (m : Machine) (n : ℕ) (o : Owner) (target : Target) (rid : Rid) (after : Option Row) → IsSession o.session → ShowsSeats seats registers m → number_in (locks_of seats o.session).holding ≡ Some o.txn → target_of m (seat_of m o.session) target ≡ Ok rid → o.entry ≡ n
    → change_turn m n o.session (seat_of m o.session) (seat_of m o.session).txn target after ≡ row_turn m o rid after
found_row seats registers m n o target rid after session shows open_is found entry =
    ap (λ (t : Option ℕ). change_turn m n o.session (seat_of m o.session) t target after) (sym (shows.numbers o.session session.0 session.1) ∙ open_is)
    ∙ ap (λ (f : Result Rid Reply). change_at m n o.session o.txn after f) found
    ∙ ap (λ (i : ℕ). change_at m i o.session o.txn after (Ok rid)) (sym entry)

pub place_there : (v : Installation) (rid : Rid) → has_place (config_of v) rid ≡ true → anchor_is_up v.anchor rid.space ≡ true → is_there v rid ≡ true
place_there v rid place up = ap (λ (b : Bool). b && anchor_is_up v.anchor rid.space) place ∙ up

-- ---- hints

pub behind_full : (after : Option Row) (rid : Rid) (h : Hints) (m : Machine) → AreFull h m → AreFull (hints_behind after rid h) m
behind_full None rid h m is = opened_full (Some (rid, None)) h m is
behind_full (Some row) rid h m is = is

pub changed_full : (h : Hints) (m : Machine) (n txn : ℕ) (rid : Rid) (before after : Option Row) → AreFull h m → AreFull (hints_behind after rid h) (change_row n rid (Change txn rid before after) m)
changed_full h m n txn rid before None is =
    let r : Record = Change txn rid before None in
    emptied_filled h (machine_config m) (machine_config (change_row n rid r m)) (row_in m) (row_in (change_row n rid r m)) rid None (change_config n rid r m) (λ at. changed_row n rid r m at) is
changed_full h m n txn rid before (Some row) is =
    let r : Record = Change txn rid before (Some row) in
    record_filled h (machine_config m) (machine_config (change_row n rid r m)) (row_in m) (row_in (change_row n rid r m)) r (change_config n rid r m) refl (λ at. changed_row n rid r m at) is

-- ---- rows

pub short_row : (row : Row) → length row ≤ 63 → is_value (Some row) ≡ true
short_row row limit = grind (arith, nat_tests, limit)

-- ---- a turn over the parts and the state

-- with room for entries made the parts are in order
pub reserved_going : (faults : ℕ → ℕ) (v : Installation) (s : State) (n : Noted) → n.entries ≡ history_of s → IsGoing (length (history_of s)) faults v s → IsGoing (length n.entries) faults v (record s { entries = n })
reserved_going faults v s n same is = subst (λ (h : List Entry). IsGoing (length h) faults v (record s { entries = n })) (sym same)
    (record { going = is.going; turns = is.turns; places = is.places; up = is.up; numbers = is.numbers; low = is.low; table = is.table; counts = is.counts })

-- one that leaves the history to its entry
pub taken_whole : {E : Type 0} (faults now : ℕ → ℕ) (w : Installation) (s t : State) (by : By) (event : Event) (start calls : ℕ) (answered : Result Reply StorageFault) (result : Result Reply E) (new : State) → t.entries ≡ s.entries
    → OnOk answered (IsGoing (length (history_of s) + 1) now w t) → (IsErrOf answered NoMemory → IsGoing (length (history_of s)) now w t)
    → IsToldAs answered result → IfOk result (λ reply. new ≡ with_entry t (entry_of t by event start calls reply)) → OnErr result (new ≡ t)
    → IsWhole now w new
taken_whole faults now w s t by event start calls answered result new same good starved told ok err =
    whole_on faults now w t by event start calls answered result new
    (subst (λ (n : Noted). OnOk answered (IsGoing (length n.entries + 1) now w t)) (sym same) good) (λ memory. subst (λ (n : Noted). IsGoing (length n.entries) now w t) (sym same) (starved memory)) told ok err

pub taken_runs : {E : Type 0} (earlier : ℕ → Record) (begun : Machine) (past now : Past) (v w : Installation) (s t : State) (by : By) (event : Event) (start calls : ℕ) (r : Reply × Machine) (answered : Result Reply StorageFault) (result : Result Reply E) (new : State)
    → Runs earlier begun past v s → s.stopped ≡ None → t.entries ≡ s.entries → t.stopped ≡ s.stopped
    → ((g : Given) → turn_of [] g (machine_of begun s) (length (history_of s) + 1) (number_of by.actor) event ≡ r) → is_faulted r.0 ≡ false → HasShortRow event
    → Answers (machine_of begun s) (λ k. IsShown earlier now w t k) r answered → IsToldAs answered result
    → IfOk result (λ reply. new ≡ with_entry t (entry_of t by event start calls reply)) → OnErr result (new ≡ t)
    → Runs earlier begun now w new
taken_runs earlier begun past now v w s t by event start calls r answered result new runs going same stops turns calm short answers told ok err =
    let m = machine_of begun s in
    goes_on earlier begun now w t by event start calls m r answered result new
    (subst (λ (n : Noted). Steps [] begun 1 n.entries) (sym same) runs.steps) (ap (λ (n : Noted). state_at [] begun n.entries) same) (stops ∙ going) (ready_of earlier past v s m (runs.told going))
    (λ g. ap (λ (n : Noted). turn_of [] g m (length n.entries + 1) (number_of by.actor) event) same ∙ turns g) calm short answers told ok err
