-- A stream of blocks with one more.
use Rattle.std.proofs.Common.{◌≡◌, ℕ, ◌+◌, ◌-◌, ◌<◌, ◌≤◌, ◌++◌, ◌∙◌, ◌⊎◌, Bool, Some, None, Option, List, [], ◌∷◌, ap, arith, cond, drop, fold, inl, inr, length, length-drop, refl, subst, sym, true, false}
use Rattle.std.specs.List.{All, enumerate_from}
use Rattle.std.specs.Prelude.{find, is_some}
use Rattle.std.proofs.lemmas.Bool.{cases_lt, false≢true}
use Rattle.std.proofs.lemmas.List.{drop-append-le, get_or_append_left, get_or_past, get_or_push, length_push}
use Rattle.std.proofs.lemmas.List.Elements.{All-head, All-tail}
use Rattle.std.proofs.lemmas.List.Sums.{fold-append}
use Rattle.ol_values.specs.Blocks.{Block}
use Rattle.ol_rules.specs.Shelf.{Placed, Reached, reach_on}
use Rattle.ol_object_spans.specs.Scans.{block_at, course, item_at, no_block, unread}

-- ---- items

pub block_left : (l m : List Placed) (i : ℕ) → i < length l → block_at (l ++ m) i ≡ block_at l i
block_left l m i h = get_or_append_left l m no_block i h

pub block_last : (l : List Placed) (p : Placed) → block_at (l ++ p ∷ []) (length l) ≡ p
block_last l p = get_or_push l p no_block (length l) refl

pub no_item : (o : Option Block) (b : Block) → o ≡ None → o ≡ Some b → ⊥
no_item o b none some = cc

pub item_inside : (l : List Placed) (i : ℕ) (b : Block) → item_at l i ≡ Some b → i < length l
item_inside l i b e = elim (cases_lt i (length l)) as (λ _. i < length l) [
  | inl in_ ↦ in_
  | inr past ↦ absurd (no_item (item_at l i) b (ap (λ (p : Placed). p.item) (get_or_past l i no_block past)) e)
]

pub item_kept : (l : List Placed) (p : Placed) (i : ℕ) (b : Block) → item_at l i ≡ Some b → item_at (l ++ p ∷ []) i ≡ Some b
item_kept l p i b e = ap (λ (q : Placed). q.item) (block_left l (p ∷ []) i (item_inside l i b e)) ∙ e

pub item_last : (l : List Placed) (p : Placed) → item_at (l ++ p ∷ []) (length l) ≡ p.item
item_last l p = ap (λ (q : Placed). q.item) (block_last l p)

pub item_cases : (l : List Placed) (p : Placed) (i : ℕ) (b : Block) → item_at (l ++ p ∷ []) i ≡ Some b → (item_at l i ≡ Some b) ⊎ ((i ≡ length l) × (p.item ≡ Some b))
item_cases l p i b e =
    let in_ : i < length (l ++ p ∷ []) = item_inside (l ++ p ∷ []) i b e in
    elim (cases_lt i (length l)) as (λ _. (item_at l i ≡ Some b) ⊎ ((i ≡ length l) × (p.item ≡ Some b))) [
      | inl below ↦ inl (sym (ap (λ (q : Placed). q.item) (block_left l (p ∷ []) i below)) ∙ e)
      | inr above ↦
          let is : i ≡ length l = omega (arith, length_push l p) in
          inr (is, sym (item_last l p) ∙ ap (item_at (l ++ p ∷ [])) (sym is) ∙ e)
    ]

-- ---- courses

pub enumerate_push : (n : ℕ) (l : List Placed) (p : Placed) → enumerate_from n (l ++ p ∷ []) ≡ enumerate_from n l ++ (n + length l, p) ∷ []
enumerate_push n [] p = let e : n ≡ n + 0 = omega arith in λ k. (e k, p) ∷ []
enumerate_push n (x ∷ l) p =
    let e : n + 1 + length l ≡ n + length (x ∷ l) = omega arith in
    ap (λ t. (n, x) ∷ t) (enumerate_push (n + 1) l p) ∙ ap (λ k. (n, x) ∷ (enumerate_from (n + 1) l ++ (k, p) ∷ [])) e

pub course_push : (h : Block) (span : List Placed) (p : Placed) → course h (span ++ p ∷ []) ≡ reach_on h (course h span) p (length span) p.item
course_push h span p =
    let e : 0 + length span ≡ length span = omega arith in
    ap (fold (λ (r : Reached) (q : ℕ × Placed). reach_on h r q.1 q.0 q.1.item) (unread h)) (enumerate_push 0 span p)
    ∙ fold-append (λ (r : Reached) (q : ℕ × Placed). reach_on h r q.1 q.0 q.1.item) (unread h) (enumerate_from 0 span) ((0 + length span, p) ∷ [])
    ∙ ap (λ k. reach_on h (course h span) p k p.item) e

pub drop_push : (l : List Placed) (p : Placed) (s : ℕ) → s ≤ length l → drop s (l ++ p ∷ []) ≡ drop s l ++ p ∷ []
drop_push l p s h = drop-append-le s l (p ∷ []) h

-- the course of a span that began at s, with one more block
pub course_on : (h : Block) (l : List Placed) (p : Placed) (s : ℕ) → s ≤ length l
    → course h (drop s (l ++ p ∷ [])) ≡ reach_on h (course h (drop s l)) p (length l - s) p.item
course_on h l p s in_ =
    ap (course h) (drop_push l p s in_)
    ∙ course_push h (drop s l) p
    ∙ ap (λ k. reach_on h (course h (drop s l)) p k p.item) (length-drop s l)

-- ---- what is found

pub found_left : {X : Type 0} (test : X → Bool) (xs ys : List X) → is_some (find test xs) ≡ true → is_some (find test (xs ++ ys)) ≡ true
found_left test [] ys e = absurd (false≢true e)
found_left test (x ∷ xs) ys e =
    elim (test x) as (λ t. is_some (cond t (Some x) (find test xs)) ≡ true → is_some (cond t (Some x) (find test (xs ++ ys))) ≡ true) [
      | true ↦ λ f. refl
      | false ↦ λ f. found_left test xs ys f
    ] e

pub found_last : {X : Type 0} (test : X → Bool) (xs : List X) (y : X) → test y ≡ true → is_some (find test (xs ++ y ∷ [])) ≡ true
found_last test [] y e = ap (λ t. is_some (cond t (Some y) None)) e
found_last test (x ∷ xs) y e = elim (test x) as (λ t. is_some (cond t (Some x) (find test (xs ++ y ∷ []))) ≡ true) [
  | true ↦ refl
  | false ↦ found_last test xs y e
]

-- what is found passes the test, and has what all have
pub found_is : {X : Type 0} (P : X → Type 0) (test : X → Bool) (xs : List X) (x : X) → All P xs → find test xs ≡ Some x → P x × (test x ≡ true)
found_is P test [] x all e = absurd (cc)
found_is P test (y ∷ xs) x all e =
    elim (test y) as (λ t. test y ≡ t → cond t (Some y) (find test xs) ≡ Some x → P x × (test x ≡ true)) [
      | true ↦ λ t f. let same : y ≡ x = cc in (subst P same (All-head P y xs all), subst (λ z. test z ≡ true) same t)
      | false ↦ λ t f. found_is P test xs x (All-tail P y xs all) f
    ] refl e
