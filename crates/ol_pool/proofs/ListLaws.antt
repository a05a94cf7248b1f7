-- Lists of any kind: an item replaced, and what passes a test.
use Rattle.std.specs.List.{count_by, list_any}
use Rattle.std.specs.Prelude.{Bool, List, None, Option, Some, [], cond, drop, false, filter, get_or, is_some, length, not, replicate, slice_get, slice_set, suc, true, zero, ℕ, ◌+◌, ◌<◌, ◌∷◌, ◌≡◌, ◌≤◌, ◌⊎◌, ◌||◌, refl}
use Rattle.std.proofs.Common.{ap, arith, inl, inr, sym, ◌∙◌}
use Rattle.std.proofs.lemmas.List.Sums.{sum_by-cons}
use Rattle.ol_pool.specs.Stored.{begins_so, bit}

-- an item is the new one, at its index, or what it was
pub set_either : {X : Type 0} (xs : List X) (i : ℕ) (x : X) (j : ℕ) (d : X) → ((get_or (slice_set xs i x) j d ≡ x) × (j ≡ i)) ⊎ (get_or (slice_set xs i x) j d ≡ get_or xs j d)
set_either [] zero x j d = inr refl
set_either [] (suc i) x j d = inr refl
set_either (y ∷ xs) zero x zero d = inl (refl, refl)
set_either (y ∷ xs) zero x (suc j) d = inr refl
set_either (y ∷ xs) (suc i) x zero d = inr refl
set_either (y ∷ xs) (suc i) x (suc j) d = elim (set_either xs i x j d) [ inl e ↦ inl (e.0, ap (λ (n : ℕ). suc n) e.1) | inr e ↦ inr e ]

-- where there is something, there is an item
pub some_within : {X : Type 0} (xs : List (Option X)) (i : ℕ) → is_some (get_or xs i None) ≡ true → i < length xs
some_within [] i some = absurd (cc)
some_within (x ∷ xs) zero some = omega arith
some_within (x ∷ xs) (suc i) some = let within = some_within xs i some in omega (arith, within)

pub replicated : {X : Type 0} (n i : ℕ) (x : X) → get_or (replicate n x) i x ≡ x
replicated zero i x = refl
replicated (suc n) zero x = refl
replicated (suc n) (suc i) x = replicated n i x

pub bit_few : (mark : Bool) → bit mark ≤ 1
bit_few mark = elim mark as (λ b. bit b ≤ 1) [ true ↦ omega arith | false ↦ omega arith ]

module _ {X : Type 0} (test : X → Bool) where
  counted : (x : X) (xs : List X) → count_by test (x ∷ xs) ≡ bit (test x) + count_by test xs
  counted x xs = sum_by-cons (λ (y : X). bit (test y)) x xs

  any_none : (xs : List X) → count_by test xs ≡ 0 → list_any test xs ≡ false
  any_none [] none = refl
  any_none (x ∷ xs) none =
      let step : (b : Bool) → bit b + count_by test xs ≡ 0 → (b || list_any test xs) ≡ false = λ b. elim b as (λ b. bit b + count_by test xs ≡ 0 → (b || list_any test xs) ≡ false) [
        | true ↦ λ e. absurd (omega (arith, e))
        | false ↦ λ e. any_none xs (omega (arith, e))
      ] in
      step (test x) (sym (counted x xs) ∙ none)

  any_some : (xs : List X) → 1 ≤ count_by test xs → list_any test xs ≡ true
  any_some [] some = absurd (omega (arith, some))
  any_some (x ∷ xs) some =
      let step : (b : Bool) → 1 ≤ bit b + count_by test xs → (b || list_any test xs) ≡ true = λ b. elim b as (λ b. 1 ≤ bit b + count_by test xs → (b || list_any test xs) ≡ true) [
        | true ↦ λ e. refl
        | false ↦ λ e. any_some xs (omega (arith, e))
      ] in
      step (test x) (omega (arith, some, counted x xs))

  -- an element passes where one does
  pub any_is : (xs : List X) (mark : Bool) → count_by test xs ≡ bit mark → list_any test xs ≡ mark
  any_is xs mark = elim mark as (λ b. count_by test xs ≡ bit b → list_any test xs ≡ b) [ true ↦ λ e. any_some xs (omega (arith, e)) | false ↦ λ e. any_none xs e ]

  -- what fails a test, where none passes it
  pub unchanged : (xs : List X) → count_by test xs ≡ 0 → filter (λ x. not (test x)) xs ≡ xs
  unchanged [] none = refl
  unchanged (x ∷ xs) none =
      let stay = filter (λ x. not (test x)) xs in
      let step : (b : Bool) → bit b + count_by test xs ≡ 0 → cond (not b) (x ∷ stay) stay ≡ x ∷ xs = λ b. elim b as (λ b. bit b + count_by test xs ≡ 0 → cond (not b) (x ∷ stay) stay ≡ x ∷ xs) [
        | true ↦ λ e. absurd (omega (arith, e))
        | false ↦ λ e. ap (λ (l : List X). x ∷ l) (unchanged xs (omega (arith, e)))
      ] in
      step (test x) (sym (counted x xs) ∙ none)

  -- the test of the first item, if there is one
  pub begins : (xs : List X) (x : X) → slice_get xs 0 ≡ Some x → begins_so test xs ≡ test x
  begins [] x first = absurd (cc)
  begins (y ∷ xs) x first = let same : y ≡ x = cc in ap test same

  pub begins_none : (xs : List X) → slice_get xs 0 ≡ None → begins_so test xs ≡ false
  begins_none [] none = refl
  begins_none (y ∷ xs) none = absurd (cc)

  -- the first item is the one that passes
  pub first_dropped : (xs : List X) → begins_so test xs ≡ true → count_by test xs ≤ 1 → drop 1 xs ≡ filter (λ x. not (test x)) xs
  first_dropped [] so few = absurd (cc)
  first_dropped (x ∷ xs) so few =
      let stay = filter (λ x. not (test x)) xs in
      let none : count_by test xs ≡ 0 = omega (arith, few, counted x xs, ap bit so) in
      sym (ap (λ (b : Bool). cond (not b) (x ∷ stay) stay) so ∙ unchanged xs none)

  -- none passes a test among those that fail it
  pub gone : (xs : List X) → count_by test (filter (λ x. not (test x)) xs) ≡ 0
  gone [] = refl
  gone (x ∷ xs) =
      let stay = filter (λ x. not (test x)) xs in
      let step : (b : Bool) → test x ≡ b → count_by test (cond (not b) (x ∷ stay) stay) ≡ 0 = λ b. elim b as (λ b. test x ≡ b → count_by test (cond (not b) (x ∷ stay) stay) ≡ 0) [
        | true ↦ λ e. gone xs
        | false ↦ λ e. let none = gone xs in omega (arith, none, counted x stay, ap bit e)
      ] in
      step (test x) refl

-- as many pass a test that none passes of those that go
pub stayed : {X : Type 0} (test other : X → Bool) → ((x : X) → other x ≡ true → test x ≡ false) → (xs : List X) → count_by other (filter (λ x. not (test x)) xs) ≡ count_by other xs
stayed test other apart [] = refl
stayed {X} test other apart (x ∷ xs) =
    let stay = filter (λ (y : X). not (test y)) xs in
    let more = stayed test other apart xs in
    let goes : (b : Bool) → other x ≡ b → test x ≡ true → bit b ≡ 0 = λ b. elim b as (λ b. other x ≡ b → test x ≡ true → bit b ≡ 0) [
      | true ↦ λ e is. let not_so = apart x e in absurd (cc)
      | false ↦ λ e is. refl
    ] in
    let step : (b : Bool) → test x ≡ b → count_by other (cond (not b) (x ∷ stay) stay) ≡ count_by other (x ∷ xs) = λ b. elim b as (λ b. test x ≡ b → count_by other (cond (not b) (x ∷ stay) stay) ≡ count_by other (x ∷ xs)) [
      | true ↦ λ e. let none = goes (other x) refl e in omega (arith, more, none, sum_by-cons (λ (y : X). bit (other y)) x xs)
      | false ↦ λ e. omega (arith, more, sum_by-cons (λ (y : X). bit (other y)) x xs, sum_by-cons (λ (y : X). bit (other y)) x stay)
    ] in
    step (test x) refl
