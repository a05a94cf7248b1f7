-- Slots that a session shares leave its changes as they are.
use Rattle.std.specs.List.{All}
use Rattle.std.specs.Option.{option_map}
use Rattle.std.specs.Prelude.{Bool, Err, List, None, Ok, OnErr, OnOk, Option, Result, Some, [], length, true, ℕ, ◌∷◌, ◌≡◌}
use Rattle.std.proofs.Common.{inl, inr, refl, subst, sym}
use Rattle.std.proofs.lemmas.Bool.{cases_Bool}
use Rattle.ol_values.specs.declared.record.Rid.{Rid}
use Rattle.ol_values.specs.declared.row.Row.{Row}
use Rattle.ol_rules.specs.Locks.{Holding, shares}
use Rattle.ol_session_turns.proofs.Places.{set_pending}
use Rattle.ol_session_turns.specs.Pending.{ArePending}
use Rattle.ol_txn.specs.Seats.{IsSession, Seat, reserved_seat, shared_more, sharing}
use Rattle.ol_txn.specs.Seats.{seat_of as locks_of, with_seat as with_locks}
use Rattle.ol_read_turns.specs.Sharing.{shared_all}

-- the changes of what is held pass a test
abbrev AreHere : (Rid → Bool) → Option Holding → Type 0
AreHere test o = (h : Holding) → o ≡ Some h → All (λ (p : Rid × Option Row). test p.0 ≡ true) h.pending

sharing_here : (test : Rid → Bool) (rid : Rid) (o : Option Holding) → AreHere test o → AreHere test (option_map (sharing rid) o)
sharing_here test rid None here h e = absurd (let c : None ≡ Some h = e in cc)
sharing_here test rid (Some g) here h e = (let same : sharing rid g ≡ h = (let c : Some (sharing rid g) ≡ Some h = e in cc) in subst (λ (x : Holding). All (λ (p : Rid × Option Row). test p.0 ≡ true) x.pending) same (here g refl))

more_here : (test : Rid → Bool) (rid : Rid) (s : Seat) → AreHere test s.holding → AreHere test (shared_more rid s).holding
more_here test rid s here = elim (cases_Bool (shares rid s.holding)) [ inl e ↦ rw e here | inr e ↦ rw e (sharing_here test rid s.holding here) ]

all_here : (test : Rid → Bool) (rids : List Rid) (s : Seat) → AreHere test s.holding → AreHere test (shared_all rids s).holding
all_here test [] s here = here
all_here test (rid ∷ rids) s here = all_here test rids (shared_more rid s) (more_here test rid s here)

shared_pending : (test : Rid → Bool) (seats : List Seat) (k : ℕ) (rids : List Rid) (s : Seat) → IsSession k → length seats ≡ 16 → s.holding ≡ (locks_of seats k).holding → ArePending test seats → ArePending test (with_locks seats k (shared_all rids s))
shared_pending test seats k rids s session sixteen same are =
    set_pending test seats k session sixteen are (shared_all rids s) (all_here test rids s (subst (λ (o : Option Holding). AreHere test o) (sym same) (are k)))

pub read_pending : (test : Rid → Bool) (seats : List Seat) (k : ℕ) (rid : Rid) → IsSession k → length seats ≡ 16 → ArePending test seats → ArePending test (with_locks seats k (shared_more rid (locks_of seats k)))
read_pending test seats k rid session sixteen are = set_pending test seats k session sixteen are (shared_more rid (locks_of seats k)) (more_here test rid (locks_of seats k) (are k))

-- whichever of two tables stands behind a call
either_pending : {A E : Type 0} (test : Rid → Bool) (old new more : List Seat) (r : Result A E) → OnOk r (new ≡ more) → OnErr r (new ≡ old) → ArePending test old → ArePending test more → ArePending test new
either_pending test old new more (Ok x) is same are after = subst (λ (l : List Seat). ArePending test l) (sym is) after
either_pending test old new more (Err e) is same are after = subst (λ (l : List Seat). ArePending test l) (sym same) are

-- behind a call that shares these slots, with memory for more, or leaves the table
pub slots_pending : {A E : Type 0} (test : Rid → Bool) (old new : List Seat) (k n : ℕ) (rids : List Rid) (r : Result A E) → OnOk r (new ≡ with_locks old k (shared_all rids (reserved_seat n (locks_of old k)))) → OnErr r (new ≡ old) → IsSession k → length old ≡ 16 → ArePending test old → ArePending test new
slots_pending test old new k n rids r is same session sixteen are =
    either_pending test old new (with_locks old k (shared_all rids (reserved_seat n (locks_of old k)))) r is same are (shared_pending test old k rids (reserved_seat n (locks_of old k)) session sixteen refl are)
