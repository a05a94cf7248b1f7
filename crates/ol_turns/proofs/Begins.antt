-- The core as it begins.
use Rattle.std.specs.Prelude.{Bool, None, Option, Some, false, replicate, slice_index_or, suc, true, zero, ℕ, ◌≡◌, ◌-◌}
use Rattle.std.proofs.Common.{ap, arith, refl, subst, sym, ◌∙◌}
use Rattle.ol_values.specs.declared.record.Rid.{Rid}
use Rattle.ol_free_slots.specs.Filled.{AreFull, no_hints}
use Rattle.ol_model.specs.Machine.{Machine}
use Rattle.ol_archive_turns.specs.Ending.{AreNumbered, IsNumbered}
use Rattle.ol_archive_turns.specs.Turns.{AreAllUp, runs_in}
use Rattle.ol_reserve.specs.declared.anchor.Anchor.{Anchor}
use Rattle.ol_running.specs.declared.running.Running.{Running}
use Rattle.ol_running.specs.Running.{none_running, running_of}
use Rattle.ol_session_turns.specs.Pending.{ArePending}
use Rattle.ol_txn.specs.Seats.{Seat, empty_seat, no_locks}

-- an element of a list of equal ones, or the default that is equal to them
same_again : {A : Type 0} (n i : ℕ) (a : A) → slice_index_or (replicate n a) i a ≡ a
same_again zero i a = refl
same_again (suc n) zero a = refl
same_again (suc n) (suc i) a = same_again n i a

-- no change is pending
pub no_pending : (test : Rid → Bool) → ArePending test no_locks
no_pending test k h e = absurd (let clash : None ≡ Some h = sym (ap (λ (s : Seat). s.holding) (same_again 16 (k - 1) empty_seat)) ∙ e in cc)

-- no archive runs
none_of : (k : ℕ) → running_of none_running k ≡ None
none_of k = same_again 4 (k - 1) None

pub none_up : (a : Anchor) → AreAllUp a none_running
none_up a k space runs = absurd (let clash : false ≡ true = sym (ap (λ (o : Option Running). runs_in space o) (none_of k)) ∙ runs in cc)

pub none_numbered : AreNumbered none_running
none_numbered k = subst (λ (o : Option Running). IsNumbered o) (sym (none_of k)) tt

-- no page is known to be full
pub none_full : (m : Machine) → AreFull no_hints m
none_full m = record { filled = λ space page slot there below. absurd (omega (arith, below, same_again {A = ℕ} 16 space 0)) }
