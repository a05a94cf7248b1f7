-- Tests of lists, and a list with one more item.
use Rattle.std.proofs.Common.{◌≡◌, ◌⊎◌, ℕ, zero, suc, ◌+◌, ◌-◌, ◌<◌, Bool, true, false, ◌==◌, ◌||◌, List, [], ◌∷◌, ◌++◌, get_or, length, refl, ◌∙◌, ap, arith}
use Rattle.std.specs.List.{list_any}
use Rattle.std.specs.Prelude.{slice_index_or}
use Rattle.std.proofs.lemmas.Bool.{and_parts}
use Rattle.std.proofs.lemmas.Bool.Decides.{nat_tests}
use Rattle.std.proofs.lemmas.List.{get_or-append_right, get_or_append_left, length-append}
use Rattle.ol_physlog.specs.States.{same_page}
use Rattle.ol_physlog.specs.declared.place.Place.{Place}

-- ---- tests of lists

or_false : (a b : Bool) → (a || b) ≡ false → (a ≡ false) × (b ≡ false)
or_false true b e = absurd (cc)
or_false false b e = (refl, e)

pub none_at : {A : Type 0} (p : A → Bool) (l : List A) (i : ℕ) (d : A) → list_any p l ≡ false → i < length l → p (get_or l i d) ≡ false
none_at p [] i d none lt = absurd (omega (arith, lt))
none_at p (x ∷ l) zero d none lt = (or_false (p x) (list_any p l) none).0
none_at p (x ∷ l) (suc i) d none lt = none_at p l i d (or_false (p x) (list_any p l) none).1 (omega (arith, lt))

pub some_at : {A : Type 0} (p : A → Bool) (l : List A) (d : A) → list_any p l ≡ true → (i : ℕ) × (i < length l) × (p (get_or l i d) ≡ true)
some_at p [] d some = absurd (cc)
some_at {A} p (x ∷ l) d some = by (p x) refl some (λ e. some_at p l d e)
  where
    by : (b : Bool) → p x ≡ b → (b || list_any p l) ≡ true → (list_any p l ≡ true → (i : ℕ) × (i < length l) × (p (get_or l i d) ≡ true)) → (i : ℕ) × (i < length (x ∷ l)) × (p (get_or (x ∷ l) i d) ≡ true)
    by true is e later = (0, omega arith, is)
    by false is e later = let h = later e in (suc h.0, omega (arith, h.1), h.2)

pub all_false : {A : Type 0} (p : A → Bool) (l : List A) (d : A) → ((i : ℕ) → i < length l → p (get_or l i d) ≡ false) → list_any p l ≡ false
all_false p [] d each = refl
all_false p (x ∷ l) d each = ap (λ (b : Bool). b || list_any p l) (each 0 (omega arith)) ∙ all_false p l d (λ i lt. each (suc i) (omega (arith, lt)))

pub one_page : (a b : Place) → same_page a b ≡ true → a ≡ b
one_page a b same =
    let both = and_parts (a.space == b.space) (a.page == b.page) same in
    let first = both.0 in
    let second = both.1 in
    let space : a.space ≡ b.space = grind (arith, nat_tests) in
    let page : a.page ≡ b.page = grind (arith, nat_tests) in
    λ i. record { space = space i; page = page i }

-- ---- a list with one more

pub grown : {A : Type 0} (l : List A) (x : A) → length (l ++ x ∷ []) ≡ length l + 1
grown l x = omega (arith, length-append l (x ∷ []))

pub at_old : {A : Type 0} (l : List A) (x d : A) (i : ℕ) → i < length l → get_or (l ++ x ∷ []) i d ≡ get_or l i d
at_old l x d i lt = get_or_append_left l (x ∷ []) d i lt

pub place_of_index : {A : Type 0} (l : List A) (x : A) (i : ℕ) → i < length (l ++ x ∷ []) → (i < length l) ⊎ (i ≡ length l)
place_of_index l x i lt = let size = grown l x in grind (arith, lt, size)

pub last_item : {A : Type 0} (l : List A) (x d : A) → slice_index_or (l ++ x ∷ []) (length l) d ≡ x
last_item l x d = get_or-append_right l (x ∷ []) (length l) (length l) d refl (omega arith) ∙ ap (λ (n : ℕ). slice_index_or (x ∷ []) n d) (let none : length l - length l ≡ 0 = omega arith in none)
