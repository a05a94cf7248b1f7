-- Sums over lists of options: as much as there is of one thing in each, together.
use Rattle.std.specs.List.{AllByRecursion}
use Rattle.std.specs.Prelude.{Bool, List, None, Option, [], cond, false, filter, length, refl, slice_index_or, sum_by, suc, true, zero, ℕ, ◌+◌, ◌∷◌, ◌≡◌, ◌⊎◌}
use Rattle.std.proofs.Common.{ap, arith, inl, inr}
use Rattle.std.proofs.lemmas.List.Sums.{sum_by-cons}

-- 1 for what passes
abbrev pub one_of : Bool → ℕ
one_of true = 1
one_of false = 0

-- one of the list passes a test, or none does
pub one_or_none : {A : Type 0} (test : Option A → Bool) → test None ≡ false → (l : List (Option A)) → ((k : ℕ) × (test (slice_index_or l k None) ≡ true)) ⊎ ((k : ℕ) → test (slice_index_or l k None) ≡ false)
one_or_none test none [] = inr (λ k. none)
one_or_none {A} test none (o ∷ l) = go (test o) refl (one_or_none test none l)
  where
    never : test o ≡ false → ((k : ℕ) → test (slice_index_or l k None) ≡ false) → (k : ℕ) → test (slice_index_or (o ∷ l) k None) ≡ false
    never is more zero = is
    never is more (suc k) = more k

    go : (b : Bool) → test o ≡ b → ((k : ℕ) × (test (slice_index_or l k None) ≡ true)) ⊎ ((k : ℕ) → test (slice_index_or l k None) ≡ false)
        → ((k : ℕ) × (test (slice_index_or (o ∷ l) k None) ≡ true)) ⊎ ((k : ℕ) → test (slice_index_or (o ∷ l) k None) ≡ false)
    go true is more = inl (0, is)
    go false is (inl e) = inl (suc e.0, e.1)
    go false is (inr more) = inr (never is more)

-- sums of what is the same at each
pub sum_same : {A : Type 0} (f g : Option A → ℕ) (l : List (Option A)) → ((k : ℕ) → f (slice_index_or l k None) ≡ g (slice_index_or l k None)) → sum_by f l ≡ sum_by g l
sum_same f g [] same = refl
sum_same f g (o ∷ l) same =
    let more = sum_same f g l (λ k. same (suc k)) in
    let here : f o ≡ g o = same 0 in
    omega (arith, sum_by-cons f o l, sum_by-cons g o l, more, here)

sum_zero : {A : Type 0} (f : Option A → ℕ) (l : List (Option A)) → ((k : ℕ) → f (slice_index_or l k None) ≡ 0) → sum_by f l ≡ 0
sum_zero f [] none = refl
sum_zero f (o ∷ l) none =
    let more = sum_zero f l (λ k. none (suc k)) in
    let here : f o ≡ 0 = none 0 in
    omega (arith, sum_by-cons f o l, more, here)

sum_plus : {A : Type 0} (f g : Option A → ℕ) (l : List (Option A)) → sum_by (λ o. f o + g o) l ≡ sum_by f l + sum_by g l
sum_plus f g [] = refl
sum_plus f g (o ∷ l) = omega (arith, sum_by-cons (λ o. f o + g o) o l, sum_by-cons f o l, sum_by-cons g o l, sum_plus f g l)

-- where one alone passes, the sum is 1
pub one_alone : {A : Type 0} (test : Option A → Bool) → test None ≡ false → (l : List (Option A)) (k : ℕ) → test (slice_index_or l k None) ≡ true
    → ((j : ℕ) → test (slice_index_or l j None) ≡ true → j ≡ k) → sum_by (λ o. one_of (test o)) l ≡ 1
one_alone test none [] k there alone = absurd (cc (none, there))
one_alone test none (o ∷ l) zero there alone =
    let here : one_of (test o) ≡ 1 = ap one_of there in
    let rest : sum_by (λ o. one_of (test o)) l ≡ 0 = sum_zero (λ o. one_of (test o)) l (λ j. low j (test (slice_index_or l j None)) refl) in
    omega (arith, sum_by-cons (λ o. one_of (test o)) o l, here, rest)
  where
    low : (j : ℕ) (b : Bool) → test (slice_index_or l j None) ≡ b → one_of (test (slice_index_or l j None)) ≡ 0
    low j false is = ap one_of is
    low j true is = let e : suc j ≡ 0 = alone (suc j) is in absurd (omega (arith, e))
one_alone test none (o ∷ l) (suc k) there alone =
    let rest : sum_by (λ o. one_of (test o)) l ≡ 1 = one_alone test none l k there (λ j is. let e : suc j ≡ suc k = alone (suc j) is in omega (arith, e)) in
    omega (arith, sum_by-cons (λ o. one_of (test o)) o l, low (test o) refl, rest)
  where
    low : (b : Bool) → test o ≡ b → one_of (test o) ≡ 0
    low false is = ap one_of is
    low true is = let e : 0 ≡ suc k = alone 0 is in absurd (omega (arith, e))

-- where each element belongs to one alone, those of each are all together
pub all_together : {A X : Type 0} (belongs : Option A → X → Bool) (l : List (Option A)) (xs : List X) → AllByRecursion (λ x. sum_by (λ o. one_of (belongs o x)) l ≡ 1) xs
    → sum_by (λ o. length (filter (belongs o) xs)) l ≡ length xs
all_together belongs l [] ones = sum_zero (λ o. length (filter (belongs o) [])) l (λ k. refl)
all_together {A} {X} belongs l (x ∷ xs) ones =
    let more = all_together belongs l xs ones.1 in
    let first : sum_by (λ o. length (filter (belongs o) (x ∷ xs))) l ≡ sum_by (λ o. one_of (belongs o x) + length (filter (belongs o) xs)) l =
    sum_same (λ o. length (filter (belongs o) (x ∷ xs))) (λ o. one_of (belongs o x) + length (filter (belongs o) xs)) l (λ k. one (belongs (slice_index_or l k None) x) (filter (belongs (slice_index_or l k None)) xs)) in
    omega (arith, first, sum_plus (λ o. one_of (belongs o x)) (λ o. length (filter (belongs o) xs)) l, more, ones.0)
  where
    one : (b : Bool) (kept : List X) → length (cond b (x ∷ kept) kept) ≡ one_of b + length kept
    one true kept = omega arith
    one false kept = omega arith
