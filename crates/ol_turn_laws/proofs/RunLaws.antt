-- How many numbers of a range pass a test from the front on, and the remainders that ring order takes.
use Rattle.std.specs.List.{prefix_len, range_with_len}
use Rattle.std.specs.Prelude.{Bool, List, cond, false, map, nat_lt, suc, true, zero, ℕ, ◌%◌, ◌+◌, ◌-◌, ◌<◌, ◌==◌, ◌∷◌, ◌≡◌, ◌≤◌, ◌⊎◌}
use Rattle.std.proofs.Common.{ap, arith, inl, inr, subst, sym, ◌∙◌}
use Rattle.std.proofs.Math.Nat.{add-mod_right, mod-add-mod, mod-eq_of_lt}
use Rattle.std.proofs.lemmas.Bool.{cases_Bool, ltb-false, ltb-true}
use Rattle.std.proofs.lemmas.Bool.Decides.{eqb_tells}
use Rattle.std.proofs.lemmas.Nat.{mod_below}

-- ---- a test, from the front on

-- where each number that passes the first test passes the second, as many pass it at least
pub run_le : (p q : ℕ → Bool) (f h : ℕ → ℕ) (a b n : ℕ) → ((i : ℕ) → i < n → p (f (a + i)) ≡ true → q (h (b + i)) ≡ true)
    → prefix_len p (map f (range_with_len a n)) ≤ prefix_len q (map h (range_with_len b n))
run_le p q f h a b zero gives = omega arith
run_le p q f h a b (suc n) gives =
    let rest : prefix_len p (map f (range_with_len (a + 1) n)) ≤ prefix_len q (map h (range_with_len (b + 1) n)) =
    run_le p q f h (a + 1) (b + 1) n (λ i lt passes. next i lt passes) in
    elim (cases_Bool (p (f a))) [
      | inl e ↦
          (let first : q (h b) ≡ true = zeroth e in rw (e, first) (omega (arith, rest)))
      | inr e ↦ rw (e) (omega arith)
    ]
  where
    zeroth : p (f a) ≡ true → q (h b) ≡ true
    zeroth e = subst (λ (k : ℕ). q (h k) ≡ true) (let s : b + 0 ≡ b = omega arith in s) (gives 0 (omega arith) (subst (λ (k : ℕ). p (f k) ≡ true) (let s : a ≡ a + 0 = omega arith in s) e))

    next : (i : ℕ) → i < n → p (f ((a + 1) + i)) ≡ true → q (h ((b + 1) + i)) ≡ true
    next i lt passes =
        subst (λ (k : ℕ). q (h k) ≡ true) (let s : b + (i + 1) ≡ (b + 1) + i = omega arith in s)
        (gives (i + 1) (omega (arith, lt)) (subst (λ (k : ℕ). p (f k) ≡ true) (let s : (a + 1) + i ≡ a + (i + 1) = omega arith in s) passes))

-- of one number more no fewer pass
pub run_more : (q : ℕ → Bool) (h : ℕ → ℕ) (b n : ℕ) → prefix_len q (map h (range_with_len b n)) ≤ prefix_len q (map h (range_with_len b (suc n)))
run_more q h b zero = omega arith
run_more q h b (suc n) =
    let rest : prefix_len q (map h (range_with_len (b + 1) n)) ≤ prefix_len q (map h (range_with_len (b + 1) (suc n))) = run_more q h (b + 1) n in
    elim (q (h b)) as (λ t. cond t (1 + prefix_len q (map h (range_with_len (b + 1) n))) 0 ≤ cond t (1 + prefix_len q (map h (range_with_len (b + 1) (suc n)))) 0) [
      | true ↦ omega (arith, rest)
      | false ↦ omega arith
    ]

-- without the first number at most one fewer passes
pub run_tail : (p : ℕ → Bool) (x : ℕ) (xs : List ℕ) → prefix_len p (x ∷ xs) ≤ 1 + prefix_len p xs
run_tail p x xs = elim (p x) as (λ t. cond t (1 + prefix_len p xs) 0 ≤ 1 + prefix_len p xs) [ true ↦ omega arith | false ↦ omega arith ]

-- ---- remainders

order_of : (x y : ℕ) → (x < y) ⊎ (y ≤ x)
order_of x y = elim (cases_Bool (nat_lt x y)) [ inl h ↦ inl (ltb-true x y h) | inr h ↦ inr (ltb-false x y h) ]

-- two numbers that differ by less than the divisor have different remainders
pub other_remainder : (a k n : ℕ) → 0 < k → k < n → ((a % n + k) % n == a % n) ≡ false
other_remainder a k n some less =
    let below : a % n < n = mod_below a n (omega (arith, less)) in
    elim (eqb_tells ((a % n + k) % n) (a % n)) [ inl e ↦ absurd (same (a % n) below e.1) | inr e ↦ e.0 ]
  where
    wrapped : (f : ℕ) → f < n → n ≤ f + k → (f + k) % n ≡ f + k - n
    wrapped f lt ge = ap (λ (x : ℕ). x % n) (let s : f + k ≡ (f + k - n) + n = omega (arith, ge) in s) ∙ add-mod_right (f + k - n) n ∙ mod-eq_of_lt (omega (arith, lt, ge, less))

    by_order : (f : ℕ) → f < n → (f + k) % n ≡ f → (f + k < n) ⊎ (n ≤ f + k) → ⊥
    by_order f lt e (inl in_) = let s : (f + k) % n ≡ f + k = mod-eq_of_lt in_ in omega (arith, e, some)
    by_order f lt e (inr over) = omega (arith, e, wrapped f lt over, over, less, lt)

    same : (f : ℕ) → f < n → (f + k) % n ≡ f → ⊥
    same f lt e = by_order f lt e (order_of (f + k) n)

-- the remainder of the sum may be taken from the remainder
pub next_remainder : (a k n : ℕ) → (((a + 1) % n) + k) % n ≡ (a % n + (k + 1)) % n
next_remainder a k n = mod-add-mod (a + 1) n k ∙ ap (λ (x : ℕ). x % n) (omega arith) ∙ sym (mod-add-mod a n (k + 1))
