-- Lists of places in strict order: two that have the same members are one. So are those of images in order.
use Rattle.std.specs.List.{AllByRecursion}
use Rattle.std.specs.Prelude.{Bool, List, Some, [], cond, false, filter, find, if◌then◌else◌, is_some, map, option_map, refl, true, ℕ, ◌&&◌, ◌∷◌, ◌||◌, ◌≡◌}
use Rattle.std.proofs.Common.{ap, arith, sym, ◌∙◌}
use Rattle.std.proofs.lemmas.Bool.Decides.{nat_tests}
use Rattle.std.proofs.lemmas.Map.Views.{any-filter_same}
use Rattle.ol_model.specs.Steps.{is_page_in, same_page}
use Rattle.ol_before.specs.Images.{Ascend, Image, image_of, is_before, is_of}
use Rattle.ol_cursor.specs.Order.{AscendFrom, place_behind, precedes}
use Rattle.ol_cursor.proofs.OrderLaws.{behind_more, not_before}

-- ---- places

-- each place stands before all later ones
abbrev pub Sorted : List (ℕ × ℕ) → Type 0
Sorted [] = Unit {0}
Sorted (p ∷ pages) = AllByRecursion (λ (q : ℕ × ℕ). precedes p q ≡ true) pages × Sorted pages

self_same : (p : ℕ × ℕ) → same_page p p ≡ true
self_same p = grind (arith, nat_tests)

not_itself : (p : ℕ × ℕ) → precedes p p ≡ false
not_itself p = grind (arith, nat_tests)

other_way : (p q : ℕ × ℕ) → same_page p q ≡ false → same_page q p ≡ false
other_way p q other = grind (arith, nat_tests)

later : (p q : ℕ × ℕ) → precedes q (place_behind p) ≡ false → precedes p q ≡ true
later p q behind = grind (arith, nat_tests)

never_both : (p q : ℕ × ℕ) → precedes p q ≡ true → precedes q p ≡ false
never_both p q before = grind (arith, nat_tests)

differs : (p q r : ℕ × ℕ) → precedes p r ≡ true → same_page q r ≡ true → precedes p q ≡ true
differs p q r before same = grind (arith, nat_tests)

pub is_same : (p q : ℕ × ℕ) → same_page p q ≡ true → p ≡ q
is_same p q same =
    let space : p.0 ≡ q.0 = grind (arith, nat_tests) in
    let page : p.1 ≡ q.1 = grind (arith, nat_tests) in
    λ i. let r : ℕ × ℕ = (space i, page i) in r

all_later : (pages : List (ℕ × ℕ)) (p next : ℕ × ℕ) → precedes next (place_behind p) ≡ false → AscendFrom next pages → AllByRecursion (λ (q : ℕ × ℕ). precedes p q ≡ true) pages
all_later [] p next behind ascend = tt
all_later (q ∷ pages) p next behind ascend = (
  later p q (not_before q next (place_behind p) behind ascend.0),
  all_later pages p (place_behind q) (not_before (place_behind q) next (place_behind p) behind (behind_more q next ascend.0)) ascend.1,
)

pub from_place : (pages : List (ℕ × ℕ)) (place : ℕ × ℕ) → AscendFrom place pages → Sorted pages
from_place [] place ascend = tt
from_place (p ∷ pages) place ascend = (all_later pages p (place_behind p) (not_itself (place_behind p)) ascend.1, from_place pages (place_behind p) ascend.1)

all_kept : (P : ℕ × ℕ → Type 0) (test : ℕ × ℕ → Bool) (pages : List (ℕ × ℕ)) → AllByRecursion P pages → AllByRecursion P (filter test pages)
all_kept P test [] all = tt
all_kept P test (p ∷ pages) all =
    let more = all_kept P test pages all.1 in
    elim (test p) as (λ b. AllByRecursion P (cond b (p ∷ filter test pages) (filter test pages))) [ true ↦ (all.0, more) | false ↦ more ]

pub sorted_kept : (test : ℕ × ℕ → Bool) (pages : List (ℕ × ℕ)) → Sorted pages → Sorted (filter test pages)
sorted_kept test [] sorted = tt
sorted_kept test (p ∷ pages) sorted =
    let more = sorted_kept test pages sorted.1 in
    elim (test p) as (λ b. Sorted (cond b (p ∷ filter test pages) (filter test pages))) [
      | true ↦ (all_kept (λ (q : ℕ × ℕ). precedes p q ≡ true) test pages sorted.0, more)
      | false ↦ more
    ]

-- ---- members

pub kept_in : (test : ℕ × ℕ → Bool) (q : ℕ × ℕ) (pages : List (ℕ × ℕ)) → is_page_in q (filter test pages) ≡ (test q && is_page_in q pages)
kept_in test q pages = any-filter_same (same_page q) test (test q) (λ p same. ap test (sym (is_same q p same))) pages

-- a member stands behind what stands before all
pub in_later : (p q : ℕ × ℕ) (pages : List (ℕ × ℕ)) → AllByRecursion (λ (r : ℕ × ℕ). precedes p r ≡ true) pages → is_page_in q pages ≡ true → precedes p q ≡ true
in_later p q [] all there = absurd (cc)
in_later p q (r ∷ pages) all there = go (same_page q r) refl (λ more. in_later p q pages all.1 more)
  where
    go : (b : Bool) → same_page q r ≡ b → (is_page_in q pages ≡ true → precedes p q ≡ true) → precedes p q ≡ true
    go true same more = differs p q r all.0 same
    go false other more = more (ap (λ (b : Bool). b || is_page_in q pages) (sym other) ∙ there)

-- what is not the first is among the rest
pub in_rest : (q p : ℕ × ℕ) (pages : List (ℕ × ℕ)) → same_page q p ≡ false → (same_page q p || is_page_in q pages) ≡ true → is_page_in q pages ≡ true
in_rest q p pages other there = ap (λ (b : Bool). b || is_page_in q pages) (sym other) ∙ there

-- the first of a list in order is not among the rest
pub first_alone : (p q : ℕ × ℕ) (pages : List (ℕ × ℕ)) → Sorted (p ∷ pages) → same_page q p ≡ true → is_page_in q pages ≡ false
first_alone p q pages sorted same = go (is_page_in q pages) refl
  where
    go : (b : Bool) → is_page_in q pages ≡ b → is_page_in q pages ≡ false
    go false none = none
    go true there = absurd (let before : precedes p q ≡ true = in_later p q pages sorted.0 there in let not_ : precedes p q ≡ false = ap (λ (r : ℕ × ℕ). precedes p r) (is_same q p same) ∙ not_itself p in cc)

pub in_first : (p : ℕ × ℕ) (pages : List (ℕ × ℕ)) → is_page_in p (p ∷ pages) ≡ true
in_first p pages = ap (λ (b : Bool). b || is_page_in p pages) (self_same p)

first_same : (p q : ℕ × ℕ) (xs ys : List (ℕ × ℕ)) → Sorted (p ∷ xs) → Sorted (q ∷ ys) → ((r : ℕ × ℕ) → is_page_in r (p ∷ xs) ≡ is_page_in r (q ∷ ys)) → p ≡ q
first_same p q xs ys left right same = go (same_page p q) refl
  where
    go : (b : Bool) → same_page p q ≡ b → p ≡ q
    go true is = is_same p q is
    go false other =
        let there : is_page_in p ys ≡ true = in_rest p q ys other (sym (same p) ∙ in_first p xs) in
        let here : is_page_in q xs ≡ true = in_rest q p xs (other_way p q other) (same q ∙ in_first q ys) in
        let one : precedes q p ≡ true = in_later q p ys right.0 there in
        let two : precedes p q ≡ true = in_later p q xs left.0 here in
        absurd (cc (never_both p q two, one))

rest_same : (p q : ℕ × ℕ) (xs ys : List (ℕ × ℕ)) → p ≡ q → Sorted (p ∷ xs) → Sorted (q ∷ ys) → ((r : ℕ × ℕ) → is_page_in r (p ∷ xs) ≡ is_page_in r (q ∷ ys)) → (r : ℕ × ℕ) → is_page_in r xs ≡ is_page_in r ys
rest_same p q xs ys is left right same r = go (same_page r p) refl
  where
    at_q : same_page r p ≡ same_page r q
    at_q = ap (λ (t : ℕ × ℕ). same_page r t) is

    go : (b : Bool) → same_page r p ≡ b → is_page_in r xs ≡ is_page_in r ys
    go true here = first_alone p r xs left here ∙ sym (first_alone q r ys right (sym at_q ∙ here))
    go false other = ap (λ (b : Bool). b || is_page_in r xs) (sym other) ∙ same r ∙ ap (λ (b : Bool). b || is_page_in r ys) (sym at_q ∙ other)

-- two lists in order that have the same members are one
pub same_members : (xs ys : List (ℕ × ℕ)) → Sorted xs → Sorted ys → ((q : ℕ × ℕ) → is_page_in q xs ≡ is_page_in q ys) → xs ≡ ys
same_members [] [] left right same = refl
same_members [] (q ∷ ys) left right same = absurd (let never : false ≡ true = same q ∙ in_first q ys in cc)
same_members (p ∷ xs) [] left right same = absurd (let never : false ≡ true = sym (same p) ∙ in_first p xs in cc)
same_members (p ∷ xs) (q ∷ ys) left right same =
    let first : p ≡ q = first_same p q xs ys left right same in
    let rest : xs ≡ ys = same_members xs ys left.1 right.1 (rest_same p q xs ys first left right same) in
    λ i. first i ∷ rest i

-- ---- images

abbrev pub place_of : Image → ℕ × ℕ
place_of i = (i.space, i.page)

abbrev pub places : List Image → List (ℕ × ℕ)
places held = map place_of held

places_later : (i : Image) (held : List Image) → AllByRecursion (λ (j : Image). is_before j.space j.page i ≡ true) held → AllByRecursion (λ (q : ℕ × ℕ). precedes (place_of i) q ≡ true) (places held)
places_later i [] all = tt
places_later i (j ∷ held) all = (all.0, places_later i held all.1)

pub places_sorted : (held : List Image) → Ascend held → Sorted (places held)
places_sorted [] ascend = tt
places_sorted (i ∷ held) ascend = (places_later i held ascend.0, places_sorted held ascend.1)

place_is : (q : ℕ × ℕ) (i : Image) → same_page q (place_of i) ≡ is_of q.0 q.1 i
place_is q i = grind (arith, nat_tests)

-- a place is among those of the images where it has one
pub in_places : (q : ℕ × ℕ) (held : List Image) → is_page_in q (places held) ≡ is_some (image_of held q.0 q.1)
in_places q [] = refl
in_places q (i ∷ held) =
    ap (λ (b : Bool). b || is_page_in q (places held)) (place_is q i)
    ∙ ap (λ (b : Bool). is_of q.0 q.1 i || b) (in_places q held)
    ∙ elim (is_of q.0 q.1 i) as (λ b. (b || is_some (image_of held q.0 q.1)) ≡ is_some (option_map (λ (j : Image). j.bytes) (if b then Some i else find (is_of q.0 q.1) held))) [
      | true ↦ refl
      | false ↦ refl
    ]

-- the places of images of some spaces are those places that are in them
pub places_kept : (test : ℕ → Bool) (held : List Image) → places (filter (λ (i : Image). test i.space) held) ≡ filter (λ (p : ℕ × ℕ). test p.0) (places held)
places_kept test [] = refl
places_kept test (i ∷ held) =
    let more = places_kept test held in
    let kept = filter (λ (j : Image). test j.space) held in
    elim (test i.space) as (λ b. places (cond b (i ∷ kept) kept) ≡ cond b (place_of i ∷ filter (λ (p : ℕ × ℕ). test p.0) (places held)) (filter (λ (p : ℕ × ℕ). test p.0) (places held))) [
      | true ↦ ap (λ (l : List (ℕ × ℕ)). place_of i ∷ l) more
      | false ↦ more
    ]
