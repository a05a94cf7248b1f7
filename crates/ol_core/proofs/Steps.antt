-- Small steps: a test of two numbers, a bound, and one space among all.
use Rattle.std.specs.Prelude.{Bool, List, false, length, nat_lt, slice_set, sum, true, ℕ, ◌<◌, ◌==◌, ◌≡◌, ◌≢◌, ◌≤◌, refl}
use Rattle.std.proofs.Common.{ap, arith, eq-eqb, subst, sym, ◌∙◌}
use Rattle.std.proofs.lemmas.Bool.{eqb-true}
use Rattle.std.proofs.lemmas.Bool.Decides.{nat_tests}
use Rattle.std.proofs.lemmas.List.{get_or-set_other, get_or-set_same, get_or_past}
use Rattle.ol_values.specs.Config.{Config, SpaceConfig, data_pages, space_at, unnamed}
use Rattle.ol_chunks.specs.Limits.{IsConfig}
use Rattle.ol_chunks.proofs.Chunks.{few_pages}
use Rattle.ol_core.specs.Filled.{Filled, filled_at, no_rows}

pub differs : (a b : ℕ) → a ≢ b → (a == b) ≡ false
differs a b ne = cases (a == b) refl
  where
    cases : (t : Bool) → (a == b) ≡ t → t ≡ false
    cases true e = absurd (ne (eqb-true a b e))
    cases false e = refl

pub unequal : (a b : ℕ) → (a == b) ≡ false → a ≢ b
unequal a b e is = let f : true ≡ false = sym (eq-eqb a b is) ∙ e in cc

-- no space has more than 65,535 data pages, and one that is not there has none
pub most_pages : (c : Config) → IsConfig c → (space : ℕ) → data_pages c space ≤ 65535
most_pages c limits space = cases (nat_lt space (length c.spaces)) refl
  where
    cases : (b : Bool) → nat_lt space (length c.spaces) ≡ b → data_pages c space ≤ 65535
    cases true e = few_pages c limits space (grind (arith, nat_tests))
    cases false e =
        let past : length c.spaces ≤ space = grind (arith, nat_tests) in
        let none : sum (space_at c space).chunks ≡ 0 = ap (λ (s : SpaceConfig). sum s.chunks) (get_or_past c.spaces space unnamed past) in
        omega (arith, none)

-- what holds of each space, where one is replaced
pub each_set : (P Q : ℕ → Filled → Type 0) (spaces : List Filled) (s : ℕ) (g : Filled) → s < length spaces → ((t : ℕ) → t ≢ s → P t (filled_at spaces t) → Q t (filled_at spaces t)) → Q s g
    → ((t : ℕ) → P t (filled_at spaces t)) → (t : ℕ) → Q t (filled_at (slice_set spaces s g) t)
each_set P Q spaces s g there others here was t = cases (t == s) refl
  where
    cases : (b : Bool) → (t == s) ≡ b → Q t (filled_at (slice_set spaces s g) t)
    cases true e =
        subst (λ (x : ℕ). Q x (filled_at (slice_set spaces s g) x)) (sym (eqb-true t s e))
        (subst (Q s) (sym (get_or-set_same spaces s g no_rows there)) here)
    cases false e =
        let ne = unequal t s e in
        subst (Q t) (sym (get_or-set_other spaces s t g no_rows ne)) (others t ne (was t))
