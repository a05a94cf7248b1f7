-- The least session that owns a slot of a page, found slot by slot.
use Rattle.std.specs.List.{list_any, range_with_len}
use Rattle.std.specs.Prelude.{Bool, List, None, Option, Some, [], cond, false, find, map, min, not, suc, true, zero, ℕ, ◌&&◌, ◌+◌, ◌<◌, ◌==◌, ◌||◌, ◌∷◌, ◌≡◌, ◌≤◌}
use Rattle.std.proofs.Common.{ap, arith, inl, inr, refl, sym, ◌∙◌}
use Rattle.std.proofs.lemmas.Bool.{cases_Bool}
use Rattle.std.proofs.lemmas.Bool.Decides.{eqb_tells}
use Rattle.std.proofs.lemmas.List.Folds.{list_any-append}
use Rattle.std.proofs.lemmas.List.FromFn.{map-range_with_len_more}
use Rattle.ol_values.specs.declared.record.Rid.{Rid}
use Rattle.ol_values.specs.Pages.{rid_of}
use Rattle.ol_rules.specs.Locks.{Holding, holder_of, holding_of, in_way, least_other, owns}
use Rattle.ol_read_turns.specs.PageSlots.{lesser, page_owner}

-- ---- the first of a range that passes one of two tests

-- what was found is from this on
abbrev Above : ℕ → Option ℕ → Type 0
Above a o = (x : ℕ) → o ≡ Some x → a ≤ x

found_above : (p : ℕ → Bool) (a n : ℕ) → Above a (find p (range_with_len a n))
found_above p a zero x e = absurd (let c : None ≡ Some x = e in cc)
found_above p a (suc n) x e =
    let rest = find p (range_with_len (a + 1) n) in
    elim (cases_Bool (p a)) [
      | inl here ↦ (let same : Some a ≡ Some x = sym (ap (λ b. cond b (Some a) rest) here) ∙ e in let c : a ≡ x = cc in omega (arith, c))
      | inr other ↦ omega (arith, found_above p (a + 1) n x (sym (ap (λ b. cond b (Some a) rest) other) ∙ e))
    ]

-- one number more in front
lesser_step : (a : ℕ) (b c : Bool) (x y : Option ℕ) → Above (a + 1) x → Above (a + 1) y → cond (b || c) (Some a) (lesser x y) ≡ lesser (cond b (Some a) x) (cond c (Some a) y)
lesser_step a false false x y from_x from_y = refl
lesser_step a true true x y from_x from_y = ap Some (let e : a ≡ min a a = omega arith in e)
lesser_step a true false x None from_x from_y = refl
lesser_step a true false x (Some k) from_x from_y = ap Some (let e : a ≡ min a k = omega (arith, from_y k refl) in e)
lesser_step a false true None y from_x from_y = refl
lesser_step a false true (Some k) y from_x from_y = ap Some (let e : a ≡ min k a = omega (arith, from_x k refl) in e)

find_or : (p q : ℕ → Bool) (a n : ℕ) → find (λ j. p j || q j) (range_with_len a n) ≡ lesser (find p (range_with_len a n)) (find q (range_with_len a n))
find_or p q a zero = refl
find_or p q a (suc n) =
    ap (λ r. cond (p a || q a) (Some a) r) (find_or p q (a + 1) n)
    ∙ lesser_step a (p a) (q a) (find p (range_with_len (a + 1) n)) (find q (range_with_len (a + 1) n)) (found_above p (a + 1) n) (found_above q (a + 1) n)

and_or : (a b c : Bool) → (a && (b || c)) ≡ ((a && b) || (a && c))
and_or true b c = refl
and_or false b c = refl

least_or : (p q : ℕ → Bool) (k : ℕ) → least_other (λ j. p j || q j) k ≡ lesser (least_other p k) (least_other q k)
unfolding least_other
least_or p q k =
    ap (λ test. find test (range_with_len 1 16)) (λ i j. and_or (not (j == k)) (p j) (q j) i)
    ∙ find_or (λ j. not (j == k) && p j) (λ j. not (j == k) && q j) 1 16

never_found : (a n k : ℕ) → find (λ j. not (j == k) && false) (range_with_len a n) ≡ None
never_found a zero k = refl
never_found a (suc n) k = ap (λ b. cond b (Some a) (find (λ j. not (j == k) && false) (range_with_len (a + 1) n))) (and_false (not (a == k))) ∙ never_found (a + 1) n k
  where
    and_false : (b : Bool) → (b && false) ≡ false
    and_false true = refl
    and_false false = refl

-- ---- the slots of a page

pub owner_none : (table : List (Option Holding)) (k space page : ℕ) → page_owner table k space page 0 ≡ None
unfolding page_owner least_other
owner_none table k space page = never_found 1 16 k

-- one slot more
pub owner_more : (table : List (Option Holding)) (k space page count : ℕ) → page_owner table k space page (count + 1) ≡ lesser (page_owner table k space page count) (holder_of table k (rid_of space page count) false)
unfolding page_owner
owner_more table k space page count =
    ap (λ test. least_other test k) (λ i j. more j i)
    ∙ least_or (λ j. list_any (λ rid. owns rid (holding_of table j)) (map (rid_of space page) (range_with_len 0 count))) (λ j. in_way false (rid_of space page count) (holding_of table j)) k
  where
    more : (j : ℕ) → list_any (λ rid. owns rid (holding_of table j)) (map (rid_of space page) (range_with_len 0 (count + 1))) ≡ (list_any (λ rid. owns rid (holding_of table j)) (map (rid_of space page) (range_with_len 0 count)) || in_way false (rid_of space page count) (holding_of table j))
    more j =
        ap (λ (l : List Rid). list_any (λ rid. owns rid (holding_of table j)) l) (map-range_with_len_more (rid_of space page) 0 count count (omega arith))
        ∙ list_any-append (λ rid. owns rid (holding_of table j)) (map (rid_of space page) (range_with_len 0 count)) (rid_of space page count ∷ [])

none_both : (x y : Option ℕ) → lesser x y ≡ None → (x ≡ None) × (y ≡ None)
none_both None y e = (refl, e)
none_both (Some a) None e = absurd (let c : Some a ≡ None = e in cc)
none_both (Some a) (Some b) e = absurd (let c : Some (min a b) ≡ None = e in cc)

-- where none owns a slot of the page, none owns any of these
pub owner_apart : (table : List (Option Holding)) (k space page count slot : ℕ) → page_owner table k space page count ≡ None → slot < count → holder_of table k (rid_of space page slot) false ≡ None
owner_apart table k space page zero slot none there = absurd (omega (arith, there))
owner_apart table k space page (suc n) slot none there =
    let last : page_owner table k space page (suc n) ≡ page_owner table k space page (n + 1) = ap (λ c. page_owner table k space page c) (let e : suc n ≡ n + 1 = omega arith in e) in
    let both = none_both (page_owner table k space page n) (holder_of table k (rid_of space page n) false) (sym (owner_more table k space page n) ∙ sym last ∙ none) in
    elim (eqb_tells slot n) [
      | inl here ↦ ap (λ s. holder_of table k (rid_of space page s) false) here.1 ∙ both.1
      | inr other ↦ owner_apart table k space page n slot both.0 (omega (arith, there, other.1))
    ]
