-- Images in order: where a place stands among them, and what a call leaves of them.
use Rattle.std.specs.List.{AllByRecursion}
use Rattle.std.specs.Prelude.{Bool, List, None, Some, [], cond, false, filter, find, get_or, if◌then◌else◌, insert, length, nat_lt, not, remove, slice_get, suc, true, zero, ℕ, ◌&&◌, ◌+◌, ◌<◌, ◌==◌, ◌∷◌, ◌||◌, ◌≡◌, ◌≤◌, refl}
use Rattle.std.proofs.Common.{ap, arith, subst, sym, ◌∙◌}
use Rattle.std.proofs.lemmas.Bool.Decides.{nat_tests}
use Rattle.ol_before.specs.Images.{Ascend, Image, is_before, is_of, rank_of, with_image}

-- ---- the order

before_both : (space page : ℕ) (i j : Image) → is_before space page j ≡ true → is_before j.space j.page i ≡ true → is_before space page i ≡ true
before_both space page i j there here = grind (arith, nat_tests)

before_differs : (space page : ℕ) (i : Image) → is_before space page i ≡ true → is_of space page i ≡ false
before_differs space page i here = grind (arith, nat_tests)

-- what neither stands before a place nor is of it comes before no image of it
later_differs : (space page : ℕ) (i j : Image) → is_before space page i ≡ false → is_before j.space j.page i ≡ true → is_of space page j ≡ false
later_differs space page i j behind later = grind (arith, nat_tests)

-- an image of another place, that does not stand before it, has it before itself
other_before : (space page : ℕ) (i : Image) → is_before space page i ≡ false → is_of space page i ≡ false → (nat_lt space i.space || ((space == i.space) && nat_lt page i.page)) ≡ true
other_before space page i behind other = grind (arith, nat_tests)

all_at : (P : Image → Type 0) (held : List Image) (k : ℕ) (d : Image) → AllByRecursion P held → k < length held → P (get_or held k d)
all_at P [] k d all within = absurd (omega (arith, within))
all_at P (i ∷ held) zero d all within = all.0
all_at P (i ∷ held) (suc k) d all within = all_at P held k d all.1 (omega (arith, within))

-- ---- the rank of a place

pub rank_within : (space page : ℕ) (held : List Image) → rank_of space page held ≤ length held
rank_within space page [] = omega arith
rank_within space page (i ∷ held) =
    let more = rank_within space page held in
    elim (is_before space page i) as (λ b. (if b then suc (rank_of space page held) else 0) ≤ length (i ∷ held)) [ true ↦ omega (arith, more) | false ↦ omega arith ]

pub below_rank : (space page : ℕ) (held : List Image) (k : ℕ) (d : Image) → Ascend held → k < length held → is_before space page (get_or held k d) ≡ true → k + 1 ≤ rank_of space page held
below_rank space page [] k d ascend within here = absurd (omega (arith, within))
below_rank space page (i ∷ held) zero d ascend within here = subst (λ (b : Bool). 0 + 1 ≤ (if b then suc (rank_of space page held) else 0)) (sym here) (omega arith)
below_rank space page (i ∷ held) (suc k) d ascend within here =
    let more : k + 1 ≤ rank_of space page held = below_rank space page held k d ascend.1 (omega (arith, within)) here in
    let first : is_before space page i ≡ true = before_both space page i (get_or held k d) here (all_at (λ (j : Image). is_before j.space j.page i ≡ true) held k d ascend.0 (omega (arith, within))) in
    subst (λ (b : Bool). suc k + 1 ≤ (if b then suc (rank_of space page held) else 0)) (sym first) (omega (arith, more))

pub from_rank : (space page : ℕ) (held : List Image) (k : ℕ) (d : Image) → k < length held → is_before space page (get_or held k d) ≡ false → rank_of space page held ≤ k
from_rank space page [] k d within behind = omega arith
from_rank space page (i ∷ held) zero d within behind = subst (λ (b : Bool). (if b then suc (rank_of space page held) else 0) ≤ 0) (sym behind) (omega arith)
from_rank space page (i ∷ held) (suc k) d within behind =
    let more : rank_of space page held ≤ k = from_rank space page held k d (omega (arith, within)) behind in
    elim (is_before space page i) as (λ b. (if b then suc (rank_of space page held) else 0) ≤ suc k) [ true ↦ omega (arith, more) | false ↦ omega arith ]

-- ---- an image more

pub with_image_is : (i : Image) (held : List Image) → with_image i held ≡ insert held (rank_of i.space i.page held) i
with_image_is i [] = refl
with_image_is i (j ∷ held) =
    let more = with_image_is i held in
    elim (is_before i.space i.page j) as (λ b. (if b then j ∷ with_image i held else i ∷ j ∷ held) ≡ insert (j ∷ held) (if b then suc (rank_of i.space i.page held) else 0) i) [
      | true ↦ ap (λ (l : List Image). j ∷ l) more
      | false ↦ refl
    ]

pub with_image_length : (i : Image) (held : List Image) → length (with_image i held) ≡ length held + 1
with_image_length i [] = refl
with_image_length i (j ∷ held) =
    let more = with_image_length i held in
    elim (is_before i.space i.page j) as (λ b. length (if b then j ∷ with_image i held else i ∷ j ∷ held) ≡ length (j ∷ held) + 1) [ true ↦ omega (arith, more) | false ↦ omega arith ]

-- ---- what is found

-- no image of a place behind one that does not stand before it
none_later : (space page : ℕ) (i : Image) (held : List Image) → is_before space page i ≡ false → AllByRecursion (λ (j : Image). is_before j.space j.page i ≡ true) held → find (is_of space page) held ≡ None
none_later space page i [] behind later = refl
none_later space page i (j ∷ held) behind later =
    let other : is_of space page j ≡ false = later_differs space page i j behind later.0 in
    ap (λ (b : Bool). if b then Some j else find (is_of space page) held) other ∙ none_later space page i held behind later.1

-- the image at the rank, if it is of the place, is what is found
pub found_at : (space page : ℕ) (held : List Image) (d : Image) → rank_of space page held < length held → is_of space page (get_or held (rank_of space page held) d) ≡ true
    → find (is_of space page) held ≡ slice_get held (rank_of space page held)
found_at space page [] d within here = absurd (omega (arith, within))
found_at space page (i ∷ held) d within here = go (is_before space page i) refl (λ w h. found_at space page held d w h)
  where
    go : (b : Bool) → is_before space page i ≡ b
        → (rank_of space page held < length held → is_of space page (get_or held (rank_of space page held) d) ≡ true → find (is_of space page) held ≡ slice_get held (rank_of space page held))
        → find (is_of space page) (i ∷ held) ≡ slice_get (i ∷ held) (rank_of space page (i ∷ held))
    go true is more =
        let at : rank_of space page (i ∷ held) ≡ suc (rank_of space page held) = ap (λ (b : Bool). if b then suc (rank_of space page held) else 0) is in
        ap (λ (b : Bool). if b then Some i else find (is_of space page) held) (before_differs space page i is)
        ∙ more (omega (arith, within, at)) (subst (λ (n : ℕ). is_of space page (get_or (i ∷ held) n d) ≡ true) at here)
        ∙ sym (ap (λ (n : ℕ). slice_get (i ∷ held) n) at)
    go false is more =
        let at : rank_of space page (i ∷ held) ≡ 0 = ap (λ (b : Bool). if b then suc (rank_of space page held) else 0) is in
        ap (λ (b : Bool). if b then Some i else find (is_of space page) held) (subst (λ (n : ℕ). is_of space page (get_or (i ∷ held) n d) ≡ true) at here)
        ∙ sym (ap (λ (n : ℕ). slice_get (i ∷ held) n) at)

-- otherwise nothing is found
pub none_at : (space page : ℕ) (held : List Image) (d : Image) → Ascend held → (rank_of space page held < length held → is_of space page (get_or held (rank_of space page held) d) ≡ false)
    → find (is_of space page) held ≡ None
none_at space page [] d ascend other = refl
none_at space page (i ∷ held) d ascend other = go (is_before space page i) refl (λ o. none_at space page held d ascend.1 o)
  where
    go : (b : Bool) → is_before space page i ≡ b
        → ((rank_of space page held < length held → is_of space page (get_or held (rank_of space page held) d) ≡ false) → find (is_of space page) held ≡ None)
        → find (is_of space page) (i ∷ held) ≡ None
    go true is more =
        let at : rank_of space page (i ∷ held) ≡ suc (rank_of space page held) = ap (λ (b : Bool). if b then suc (rank_of space page held) else 0) is in
        ap (λ (b : Bool). if b then Some i else find (is_of space page) held) (before_differs space page i is)
        ∙ more (λ w. subst (λ (n : ℕ). is_of space page (get_or (i ∷ held) n d) ≡ false) at (other (omega (arith, w, at))))
    go false is more =
        let at : rank_of space page (i ∷ held) ≡ 0 = ap (λ (b : Bool). if b then suc (rank_of space page held) else 0) is in
        ap (λ (b : Bool). if b then Some i else find (is_of space page) held) (subst (λ (n : ℕ). is_of space page (get_or (i ∷ held) n d) ≡ false) at (other (omega (arith, at))))
        ∙ none_later space page i held is ascend.0

-- ---- an image less

-- where nothing is found, nothing is dropped
pub keeps_all : (test : Image → Bool) (held : List Image) → find test held ≡ None → filter (λ i. not (test i)) held ≡ held
keeps_all test [] none = refl
keeps_all test (i ∷ held) none = go (test i) refl (λ n. keeps_all test held n)
  where
    go : (b : Bool) → test i ≡ b → (find test held ≡ None → filter (λ j. not (test j)) held ≡ held) → filter (λ j. not (test j)) (i ∷ held) ≡ i ∷ held
    go true is more = absurd (cc (sym (ap (λ (b : Bool). if b then Some i else find test held) is) ∙ none))
    go false is more =
        ap (λ (b : Bool). cond (not b) (i ∷ filter (λ j. not (test j)) held) (filter (λ j. not (test j)) held)) is
        ∙ ap (λ (l : List Image). i ∷ l) (more (sym (ap (λ (b : Bool). if b then Some i else find test held) is) ∙ none))

-- the image at the rank, if it is of the place, is all that is dropped
pub drops_at : (space page : ℕ) (held : List Image) (d : Image) → Ascend held → rank_of space page held < length held → is_of space page (get_or held (rank_of space page held) d) ≡ true
    → filter (λ i. not (is_of space page i)) held ≡ remove held (rank_of space page held)
drops_at space page [] d ascend within here = absurd (omega (arith, within))
drops_at space page (i ∷ held) d ascend within here = go (is_before space page i) refl (λ w h. drops_at space page held d ascend.1 w h)
  where
    kept : List Image
    kept = filter (λ j. not (is_of space page j)) held

    go : (b : Bool) → is_before space page i ≡ b
        → (rank_of space page held < length held → is_of space page (get_or held (rank_of space page held) d) ≡ true → kept ≡ remove held (rank_of space page held))
        → filter (λ j. not (is_of space page j)) (i ∷ held) ≡ remove (i ∷ held) (rank_of space page (i ∷ held))
    go true is more =
        let at : rank_of space page (i ∷ held) ≡ suc (rank_of space page held) = ap (λ (b : Bool). if b then suc (rank_of space page held) else 0) is in
        ap (λ (b : Bool). cond (not b) (i ∷ kept) kept) (before_differs space page i is)
        ∙ ap (λ (l : List Image). i ∷ l) (more (omega (arith, within, at)) (subst (λ (n : ℕ). is_of space page (get_or (i ∷ held) n d) ≡ true) at here))
        ∙ sym (ap (λ (n : ℕ). remove (i ∷ held) n) at)
    go false is more =
        let at : rank_of space page (i ∷ held) ≡ 0 = ap (λ (b : Bool). if b then suc (rank_of space page held) else 0) is in
        ap (λ (b : Bool). cond (not b) (i ∷ kept) kept) (subst (λ (n : ℕ). is_of space page (get_or (i ∷ held) n d) ≡ true) at here)
        ∙ keeps_all (is_of space page) held (none_later space page i held is ascend.0)
        ∙ sym (ap (λ (n : ℕ). remove (i ∷ held) n) at)

-- ---- the order stays

all_kept : (P : Image → Type 0) (test : Image → Bool) (held : List Image) → AllByRecursion P held → AllByRecursion P (filter test held)
all_kept P test [] all = tt
all_kept P test (i ∷ held) all =
    let more = all_kept P test held all.1 in
    elim (test i) as (λ b. AllByRecursion P (cond b (i ∷ filter test held) (filter test held))) [ true ↦ (all.0, more) | false ↦ more ]

pub ascend_kept : (test : Image → Bool) (held : List Image) → Ascend held → Ascend (filter test held)
ascend_kept test [] ascend = tt
ascend_kept test (i ∷ held) ascend =
    let more = ascend_kept test held ascend.1 in
    elim (test i) as (λ b. Ascend (cond b (i ∷ filter test held) (filter test held))) [
      | true ↦ (all_kept (λ (j : Image). is_before j.space j.page i ≡ true) test held ascend.0, more)
      | false ↦ more
    ]

all_with : (P : Image → Type 0) (i : Image) (held : List Image) → P i → AllByRecursion P held → AllByRecursion P (with_image i held)
all_with P i [] here all = (here, tt)
all_with P i (j ∷ held) here all =
    let more = all_with P i held here all.1 in
    elim (is_before i.space i.page j) as (λ b. AllByRecursion P (if b then j ∷ with_image i held else i ∷ j ∷ held)) [ true ↦ (all.0, more) | false ↦ (here, all) ]

all_later : (i j : Image) (held : List Image) → is_before j.space j.page i ≡ true → AllByRecursion (λ (k : Image). is_before k.space k.page j ≡ true) held → AllByRecursion (λ (k : Image). is_before k.space k.page i ≡ true) held
all_later i j [] here all = tt
all_later i j (k ∷ held) here all = (before_both k.space k.page i j all.0 here, all_later i j held here all.1)

pub ascend_with : (i : Image) (held : List Image) → Ascend held → find (is_of i.space i.page) held ≡ None → Ascend (with_image i held)
ascend_with i [] ascend none = (tt, tt)
ascend_with i (j ∷ held) ascend none = go (is_before i.space i.page j) refl (is_of i.space i.page j) refl (λ n. ascend_with i held ascend.1 n)
  where
    go : (b : Bool) → is_before i.space i.page j ≡ b → (o : Bool) → is_of i.space i.page j ≡ o → (find (is_of i.space i.page) held ≡ None → Ascend (with_image i held)) → Ascend (with_image i (j ∷ held))
    go b is true same more = absurd (cc (sym (ap (λ (o : Bool). if o then Some j else find (is_of i.space i.page) held) same) ∙ none))
    go true is false other more =
        subst (λ (b : Bool). Ascend (if b then j ∷ with_image i held else i ∷ j ∷ held)) (sym is)
        (all_with (λ (k : Image). is_before k.space k.page j ≡ true) i held is ascend.0, more (sym (ap (λ (o : Bool). if o then Some j else find (is_of i.space i.page) held) other) ∙ none))
    go false is false other more =
        let first : is_before j.space j.page i ≡ true = other_before i.space i.page j is other in
        subst (λ (b : Bool). Ascend (if b then j ∷ with_image i held else i ∷ j ∷ held)) (sym is)
        ((first, all_later i j held first ascend.0), ascend)
