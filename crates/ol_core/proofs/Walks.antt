-- A walk over the spaces: how many pages the marked ones have from a space on, and which page stands where.
use Rattle.std.specs.List.{flat_map, range_with_len}
use Rattle.std.specs.Prelude.{Bool, List, None, Option, Some, [], drop, false, filter, length, map, suc, true, zero, ℕ, ◌++◌, ◌+◌, ◌-◌, ◌<◌, ◌∷◌, ◌≡◌, ◌≤◌, refl}
use Rattle.std.proofs.Common.{ap, arith, length-append, ◌∙◌}
use Rattle.std.proofs.Math.Seq.{drop-append-add}
use Rattle.std.proofs.lemmas.List.{get_or_past}
use Rattle.std.proofs.lemmas.List.FromFn.{length-map-range_with_len}
use Rattle.ol_core.specs.Filled.{Filled, filled_at, first_place, is_marked, no_rows, pages_used, used_from, used_in}

-- one space more is passed
abbrev pub used_here : List Filled → ℕ → Bool → List (ℕ × ℕ)
used_here spaces s true = used_in spaces s
used_here spaces s false = []

pub used_step : (spaces : List Filled) (marks : List Bool) (s : ℕ) → s < 16 → used_from spaces marks s ≡ used_here spaces s (is_marked marks s) ++ used_from spaces marks (s + 1)
used_step spaces marks s lt =
    ap (λ (n : ℕ). flat_map (used_in spaces) (filter (is_marked marks) (range_with_len s n))) (let e : 16 - s ≡ suc (16 - (s + 1)) = omega arith in e)
    ∙ cases (is_marked marks s) refl
  where
    cases : (b : Bool) → is_marked marks s ≡ b → flat_map (used_in spaces) (filter (is_marked marks) (s ∷ range_with_len (s + 1) (16 - (s + 1)))) ≡ used_here spaces s (is_marked marks s) ++ used_from spaces marks (s + 1)
    cases true e = rw e refl
    cases false e = rw e refl

-- behind the last space no pages are used
used_past : (spaces : List Filled) (marks : List Bool) (a n : ℕ) → length spaces ≤ a → flat_map (used_in spaces) (filter (is_marked marks) (range_with_len a n)) ≡ []
used_past spaces marks a zero le = refl
used_past spaces marks a (suc n) le = cases (is_marked marks a) refl (used_past spaces marks (a + 1) n (omega arith))
  where
    none : used_in spaces a ≡ []
    none = ap (λ (f : Filled). map (λ p. let r : ℕ × ℕ = (a, p) in r) (range_with_len 0 (pages_used f.rows))) (get_or_past spaces a no_rows le)

    cases : (b : Bool) → is_marked marks a ≡ b → flat_map (used_in spaces) (filter (is_marked marks) (range_with_len (a + 1) n)) ≡ [] → flat_map (used_in spaces) (filter (is_marked marks) (a ∷ range_with_len (a + 1) n)) ≡ []
    cases true e rest = rw e (ap (λ (l : List (ℕ × ℕ)). l ++ flat_map (used_in spaces) (filter (is_marked marks) (range_with_len (a + 1) n))) none ∙ rest)
    cases false e rest = rw e rest

pub none_behind : (spaces : List Filled) (marks : List Bool) (s : ℕ) → length spaces ≤ s → used_from spaces marks s ≡ []
none_behind spaces marks s le = used_past spaces marks s (16 - s) le

pub length-used : (spaces : List Filled) (s : ℕ) → length (used_in spaces s) ≡ pages_used (filled_at spaces s).rows
length-used spaces s = length-map-range_with_len (λ p. let r : ℕ × ℕ = (s, p) in r) 0 (pages_used (filled_at spaces s).rows)

-- ---- counts

pub count_marked : (spaces : List Filled) (marks : List Bool) (s : ℕ) → s < 16 → is_marked marks s ≡ true → length (used_from spaces marks s) ≡ pages_used (filled_at spaces s).rows + length (used_from spaces marks (s + 1))
count_marked spaces marks s lt is =
    ap length (used_step spaces marks s lt ∙ ap (λ (b : Bool). used_here spaces s b ++ used_from spaces marks (s + 1)) is)
    ∙ length-append (used_in spaces s) (used_from spaces marks (s + 1)) ∙ ap (λ (n : ℕ). n + length (used_from spaces marks (s + 1))) (length-used spaces s)

pub used_unmarked : (spaces : List Filled) (marks : List Bool) (s : ℕ) → s < 16 → is_marked marks s ≡ false → used_from spaces marks s ≡ used_from spaces marks (s + 1)
used_unmarked spaces marks s lt is = used_step spaces marks s lt ∙ ap (λ (b : Bool). used_here spaces s b ++ used_from spaces marks (s + 1)) is

-- ---- places

first_of : (s a n left : ℕ) (rest : List (ℕ × ℕ)) → left < n → first_place (drop left (map (λ p. let r : ℕ × ℕ = (s, p) in r) (range_with_len a n) ++ rest)) ≡ Some (s, a + left)
first_of s a zero left rest lt = absurd (omega arith)
first_of s a (suc n) zero rest lt = ap (λ (x : ℕ). let r : ℕ × ℕ = (s, x) in Some r) (let e : a ≡ a + 0 = omega arith in e)
first_of s a (suc n) (suc left) rest lt = first_of s (a + 1) n left rest (omega arith) ∙ ap (λ (x : ℕ). let r : ℕ × ℕ = (s, x) in Some r) (let e : a + 1 + left ≡ a + suc left = omega arith in e)

-- the page is one of this space
pub place_here : (spaces : List Filled) (marks : List Bool) (s left : ℕ) → s < 16 → is_marked marks s ≡ true → left < pages_used (filled_at spaces s).rows → first_place (drop left (used_from spaces marks s)) ≡ Some (s, left)
place_here spaces marks s left lt is more =
    ap (λ (l : List (ℕ × ℕ)). first_place (drop left l)) (used_step spaces marks s lt ∙ ap (λ (b : Bool). used_here spaces s b ++ used_from spaces marks (s + 1)) is)
    ∙ first_of s 0 (pages_used (filled_at spaces s).rows) left (used_from spaces marks (s + 1)) more
    ∙ ap (λ (x : ℕ). let r : ℕ × ℕ = (s, x) in Some r) (let e : 0 + left ≡ left = omega arith in e)

-- it is one of a later space
pub place_later : (spaces : List Filled) (marks : List Bool) (s left : ℕ) → s < 16 → is_marked marks s ≡ true → pages_used (filled_at spaces s).rows ≤ left
    → drop left (used_from spaces marks s) ≡ drop (left - pages_used (filled_at spaces s).rows) (used_from spaces marks (s + 1))
place_later spaces marks s left lt is past =
    let n = pages_used (filled_at spaces s).rows in
    let rest = used_from spaces marks (s + 1) in
    ap (λ (l : List (ℕ × ℕ)). drop left l) (used_step spaces marks s lt ∙ ap (λ (b : Bool). used_here spaces s b ++ used_from spaces marks (s + 1)) is)
    ∙ ap (λ (k : ℕ). drop k (used_in spaces s ++ rest)) (let e : left ≡ length (used_in spaces s) + (left - n) = omega (arith, length-used spaces s) in e)
    ∙ drop-append-add (used_in spaces s) rest (left - n)

pub none_left : (left : ℕ) (places : List (ℕ × ℕ)) → places ≡ [] → first_place (drop left places) ≡ None
none_left zero places is = ap first_place is
none_left (suc left) places is = ap (λ (l : List (ℕ × ℕ)). first_place (drop (suc left) l)) is

-- a page that is left is one more than have passed
pub more_left : (l : List (ℕ × ℕ)) (n : ℕ) (p : ℕ × ℕ) → first_place (drop n l) ≡ Some p → n + 1 ≤ length l
more_left [] zero p e = absurd (let f : ◌≡◌ {A = Option (ℕ × ℕ)} None (Some p) = e in cc)
more_left [] (suc n) p e = absurd (let f : ◌≡◌ {A = Option (ℕ × ℕ)} None (Some p) = e in cc)
more_left (q ∷ l) zero p e = omega arith
more_left (q ∷ l) (suc n) p e = omega (arith, more_left l n p e)
