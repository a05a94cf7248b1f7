-- Images that are dropped one by one from a list.
use Rattle.std.specs.Prelude.{Bool, List, [], cond, false, filter, get_or, length, remove, suc, take, zero, ℕ, ◌<◌, ◌∷◌, ◌≡◌, refl}
use Rattle.std.proofs.Common.{ap, arith, sym}

module _ {X : Type 0} (test : X → Bool) where
  -- what fails the test is dropped from what passes it with no trace
  pub filtered_without : (xs : List X) (k : ℕ) (d : X) → k < length xs → test (get_or xs k d) ≡ false → filter test (remove xs k) ≡ filter test xs
  filtered_without [] k d within fails = absurd (omega (arith, within))
  filtered_without (x ∷ xs) zero d within fails = sym (ap (λ (b : Bool). cond b (x ∷ filter test xs) (filter test xs)) fails)
  filtered_without (x ∷ xs) (suc k) d within fails = ap (λ (l : List X). cond (test x) (x ∷ l) l) (filtered_without xs k d (omega (arith, within)) fails)

-- the front stays where one behind it is dropped
pub front_stays : {X : Type 0} (xs : List X) (k : ℕ) → take k (remove xs k) ≡ take k xs
front_stays [] zero = refl
front_stays [] (suc k) = refl
front_stays (x ∷ xs) zero = refl
front_stays {X} (x ∷ xs) (suc k) = ap (λ (l : List X). x ∷ l) (front_stays xs k)
