-- A row is inserted: the machine's turn by the space that a name gave and the slot that was found, and the parts behind the search.
use Rattle.std.specs.List.{AllByRecursion}
use Rattle.std.specs.Prelude.{Bool, List, None, Ok, Option, Result, Some, [], false, if◌then◌else◌, not, slice_set, true, ℕ, ◌∷◌, ◌≡◌}
use Rattle.std.proofs.Common.{ap, refl, subst, sym, ◌∙◌}
use Rattle.ol_values.specs.declared.event.Reply.{Reply}
use Rattle.ol_values.specs.declared.event.Reply.TheVariants.{At, SpaceDown}
use Rattle.ol_values.specs.declared.record.Record.{Record}
use Rattle.ol_values.specs.declared.record.Record.TheVariants.{Change}
use Rattle.ol_values.specs.declared.record.Rid.{Rid}
use Rattle.ol_values.specs.declared.row.Row.{Row}
use Rattle.ol_values.specs.Config.{space_named}
use Rattle.ol_before.specs.Images.{Captures}
use Rattle.ol_engine.specs.Parts.{Registers, Shows, ShowsSeats, behind_of, number_in}
use Rattle.ol_free_slots.specs.declared.hints.Hints.{Hints}
use Rattle.ol_free_slots.specs.Filled.{AreFull}
use Rattle.ol_model.specs.Answering.{no_room, unless}
use Rattle.ol_model.specs.History.{is_faulted}
use Rattle.ol_model.specs.Machine.{Machine, Seat, config_of as machine_config, first_free, seat_of, with_seat}
use Rattle.ol_model.specs.SessionTurns.{insert_at, insert_into, insert_turn}
use Rattle.ol_model.specs.Steps.{change_row}
use Rattle.ol_model.specs.Turns.{comes_first}
use Rattle.ol_ports.specs.Disk.{Past}
use Rattle.ol_row_turns.specs.Turns.{inserted_turn}
use Rattle.ol_row_turns.specs.declared.owner.Owner.{Owner}
use Rattle.ol_rules.specs.Lasting.{is_up}
use Rattle.ol_running.specs.Running.{ShowsArchives}
use Rattle.ol_storage.specs.Installation.{Installation}
use Rattle.ol_storage.specs.Storing.{IsStored}
use Rattle.ol_targets.proofs.TurnLaws.{insert_led}
use Rattle.ol_targets.specs.Naming.{insert_found, space_of}
use Rattle.ol_turn_laws.proofs.KeptLaws.{unless_keeps}
use Rattle.ol_txn.specs.Seats.{IsSession, Seat as LockSeat}
use Rattle.ol_txn.specs.Seats.{seat_of as locks_of}
use Rattle.ol_turns.proofs.Goes.{calm_unless}
use Rattle.ol_turns.specs.Cores.{IsShown, IsTold}
use Rattle.ol_turns.specs.declared.state.State.{State}

-- ---- the machine's turn

-- the machine behind it
abbrev pub inserted : Machine → Owner → ℕ → Rid → Row → Machine
inserted m o register rid row = with_seat o.session (record (seat_of m o.session) { registers = slice_set (seat_of m o.session).registers register (Some rid) }) (change_row o.entry rid (Change o.txn rid None (Some row)) m)

-- what holds of the state and behind the insert holds of what the turn leaves
pub insert_kept : (P : Machine → Type 0) (m : Machine) (o : Owner) (register : ℕ) (rid : Rid) (row : Row) → P m → P (inserted m o register rid row) → P (inserted_turn m o register rid row).1
insert_kept P m o register rid row before behind = unless_keeps P m (no_room m) (At rid, inserted m o register rid row) before behind

-- the turn of an open transaction, by the space that the name gave
pub named_insert : (seats : List LockSeat) (registers : Registers) (m : Machine) (n k txn register : ℕ) (name : List ℕ) (row : Row) (found : Result ℕ Reply) → IsSession k → ShowsSeats seats registers m → number_in (locks_of seats k).holding ≡ Some txn → found ≡ space_of m (space_named (machine_config m) name)
    → insert_turn m n k (seat_of m k) (seat_of m k).txn register name row ≡ insert_found m n k (seat_of m k) txn register row found
named_insert seats registers m n k txn register name row found session shows open_is is =
    ap (λ (t : Option ℕ). insert_turn m n k (seat_of m k) t register name row) (sym (shows.numbers k session.0 session.1) ∙ open_is)
    ∙ insert_led m n k (seat_of m k) txn register row (space_named (machine_config m) name)
    ∙ ap (λ (f : Result ℕ Reply). insert_found m n k (seat_of m k) txn register row f) (sym is)

-- ---- replies

insert_at_calm : (m : Machine) (n k : ℕ) (s : Seat) (txn register : ℕ) (row : Row) (space : ℕ) (free : Option Rid) → is_faulted (insert_at m n k s txn register row space free).0 ≡ false
insert_at_calm m n k s txn register row space None = refl
insert_at_calm m n k s txn register row space (Some rid) = calm_unless m (no_room m) (At rid, with_seat k (record s { registers = slice_set s.registers register (Some rid) }) (change_row n rid (Change txn rid None (Some row)) m)) (refl, (refl, tt)) refl

insert_into_calm : (m : Machine) (n k : ℕ) (s : Seat) (txn register : ℕ) (row : Row) (space : Option ℕ) → is_faulted (insert_into m n k s txn register row space).0 ≡ false
insert_into_calm m n k s txn register row None = refl
insert_into_calm m n k s txn register row (Some space) =
    calm_unless m ((not (is_up m.lasting space), SpaceDown space) ∷ []) (insert_at m n k s txn register row space (first_free m space)) (refl, tt) (insert_at_calm m n k s txn register row space (first_free m space))

pub insert_calm : (m : Machine) (n k : ℕ) (s : Seat) (txn : Option ℕ) (register : ℕ) (name : List ℕ) (row : Row) → is_faulted (insert_turn m n k s txn register name row).0 ≡ false
insert_calm m n k s None register name row = refl
insert_calm m n k s (Some txn) register name row = insert_into_calm m n k s txn register row (space_named (machine_config m) name)

-- each refusal but those of names yields to a fault
unless_yields : (m : Machine) (tests : List (Bool × Reply)) (answer : Reply × Machine) → AllByRecursion (λ (t : Bool × Reply). comes_first t.1 ≡ false) tests → comes_first answer.0 ≡ false → comes_first (unless m tests answer).0 ≡ false
unless_yields m [] answer all last = last
unless_yields m (t ∷ rest) answer (first, all) last = elim t.0 as (λ b. comes_first (if b then (let p : Reply × Machine = (t.1, m) in p) else unless m rest answer).0 ≡ false) [ true ↦ first | false ↦ unless_yields m rest answer all last ]

pub insert_yields : (m : Machine) (n k : ℕ) (s : Seat) (txn register : ℕ) (row : Row) (space : ℕ) (free : Option Rid) → comes_first (insert_at m n k s txn register row space free).0 ≡ false
insert_yields m n k s txn register row space None = refl
insert_yields m n k s txn register row space (Some rid) = unless_yields m (no_room m) (At rid, with_seat k (record s { registers = slice_set s.registers register (Some rid) }) (change_row n rid (Change txn rid None (Some row)) m)) (refl, (refl, tt)) refl

-- ---- behind the search

-- other pages are in memory, and the hints are others
pub sought_told : (earlier : ℕ → Record) (past now : Past) (v w : Installation) (s : State) (h : Hints) (m : Machine) → IsTold earlier past v s m → Shows s.opened w s.locks s.registers m → w.store.before ≡ v.store.before → IsStored now w (behind_of earlier m) → AreFull h m → IsTold earlier now w (record s { hints = h }) m
sought_told earlier past now v w s h m told shows images stored full = record {
  shown = record { shows = shows; archives = subst (λ (b : Captures). ShowsArchives s.archives b m) (sym images) told.shown.archives; stored = stored; full = full; going = told.shown.going };
  regular = told.regular;
  roomy = told.roomy;
}
