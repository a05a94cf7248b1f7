-- What a line names, as the machine's turns take it.
use Rattle.std.specs.Prelude.{Bool, List, None, Option, Result, Some, false, is_some, true, ℕ, ◌≡◌}
use Rattle.std.proofs.Common.{ap, refl, sym, ◌∙◌}
use Rattle.ol_values.specs.declared.event.Reply.{Reply}
use Rattle.ol_values.specs.declared.event.Reply.TheVariants.{NoTxn}
use Rattle.ol_values.specs.declared.event.Target.{Target}
use Rattle.ol_values.specs.declared.record.Rid.{Rid}
use Rattle.ol_rules.specs.Locks.{Holding}
use Rattle.ol_engine.specs.Parts.{Registers, ShowsSeats, number_in}
use Rattle.ol_model.specs.Machine.{Machine, config_of, seat_of}
use Rattle.ol_model.specs.Machine.{Seat as SessionSeat}
use Rattle.ol_model.specs.SessionTurns.{list_turn, read_at, read_turn, target_of}
use Rattle.ol_targets.proofs.TurnLaws.{list_led}
use Rattle.ol_targets.specs.Naming.{list_found, page_of}
use Rattle.ol_values.specs.Config.{space_named}
use Rattle.ol_txn.specs.Seats.{IsSession, Seat}
use Rattle.ol_txn.specs.Seats.{seat_of as locks_of}

-- ---- the session's transaction

no_number : (o : Option Holding) → is_some o ≡ false → number_in o ≡ None
no_number None e = refl
no_number (Some h) e = absurd (let c : true ≡ false = e in cc)

a_number : (o : Option Holding) → is_some o ≡ true → (n : ℕ) × (number_in o ≡ Some n)
a_number None e = absurd (let c : false ≡ true = e in cc)
a_number (Some h) e = (h.number, refl)

-- none is open
pub none_open : (seats : List Seat) (registers : Registers) (m : Machine) (k : ℕ) (open_ : Bool) → IsSession k → ShowsSeats seats registers m → open_ ≡ is_some (locks_of seats k).holding → open_ ≡ false → (seat_of m k).txn ≡ None
none_open seats registers m k open_ session shows is closed = sym (shows.numbers k session.0 session.1) ∙ no_number _ (sym is ∙ closed)

-- one is open
pub one_open : (seats : List Seat) (registers : Registers) (m : Machine) (k : ℕ) (open_ : Bool) → IsSession k → ShowsSeats seats registers m → open_ ≡ is_some (locks_of seats k).holding → open_ ≡ true → (n : ℕ) × ((seat_of m k).txn ≡ Some n)
one_open seats registers m k open_ session shows is closed = let n = a_number (locks_of seats k).holding (sym is ∙ closed) in (n.0, sym (shows.numbers k session.0 session.1) ∙ n.1)

-- ---- reads

pub read_none : (m : Machine) (k : ℕ) (s : SessionSeat) (txn : Option ℕ) (target : Target) → txn ≡ None → read_turn m k s txn target ≡ (NoTxn, m)
read_none m k s txn target none = ap (λ (o : Option ℕ). read_turn m k s o target) none

pub read_named : (m : Machine) (k : ℕ) (s : SessionSeat) (txn : Option ℕ) (n : ℕ) (target : Target) (place : Result Rid Reply) → txn ≡ Some n → place ≡ target_of m s target → read_turn m k s txn target ≡ read_at m k s place
read_named m k s txn n target place some named = ap (λ (o : Option ℕ). read_turn m k s o target) some ∙ ap (λ (p : Result Rid Reply). read_at m k s p) (sym named)

-- ---- lists

pub list_none : (m : Machine) (k : ℕ) (s : SessionSeat) (txn : Option ℕ) (name : List ℕ) (page : ℕ) → txn ≡ None → list_turn m k s txn name page ≡ (NoTxn, m)
list_none m k s txn name page none = ap (λ (o : Option ℕ). list_turn m k s o name page) none

pub list_named : (m : Machine) (k : ℕ) (s : SessionSeat) (txn : Option ℕ) (n : ℕ) (name : List ℕ) (page : ℕ) (found : Result (ℕ × ℕ) Reply) → txn ≡ Some n → found ≡ page_of m page (space_named (config_of m) name) → list_turn m k s txn name page ≡ list_found m k s found
list_named m k s txn n name page found some named =
    ap (λ (o : Option ℕ). list_turn m k s o name page) some ∙ list_led m k s page (space_named (config_of m) name) ∙ ap (λ (p : Result (ℕ × ℕ) Reply). list_found m k s p) (sym named)
