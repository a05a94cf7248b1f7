-- Lists of which all items have a property, and where an item stands.
use Rattle.std.specs.List.{AllByRecursion, find, position_from, remove}
use Rattle.std.specs.Prelude.{Bool, List, None, Some, [], false, filter, length, map, not, slice_index_or, slice_set, suc, true, zero, ℕ, ◌++◌, ◌+◌, ◌<◌, ◌∷◌, ◌≡◌}
use Rattle.std.proofs.Common.{ap, arith, cond, refl, subst, sym, ◌∙◌}

-- ---- all items

pub all_at : {X : Type 0} (P : X → Type 0) (items : List X) (i : ℕ) (d : X) → i < length items → AllByRecursion P items → P (slice_index_or items i d)
all_at P [] i d there all = absurd (omega arith)
all_at P (x ∷ items) zero d there all = all.0
all_at P (x ∷ items) (suc i) d there all = all_at P items i d (omega arith) all.1

pub all_pushed : {X : Type 0} (P : X → Type 0) (items : List X) (x : X) → AllByRecursion P items → P x → AllByRecursion P (items ++ x ∷ [])
all_pushed P [] x all has = (has, tt)
all_pushed P (y ∷ items) x all has = (all.0, all_pushed P items x all.1 has)

pub all_removed : {X : Type 0} (P : X → Type 0) (items : List X) (i : ℕ) → AllByRecursion P items → AllByRecursion P (remove items i)
all_removed P [] zero all = tt
all_removed P [] (suc i) all = tt
all_removed P (x ∷ items) zero all = all.1
all_removed P (x ∷ items) (suc i) all = (all.0, all_removed P items i all.1)

pub all_set : {X : Type 0} (P : X → Type 0) (items : List X) (i : ℕ) (x : X) → AllByRecursion P items → P x → AllByRecursion P (slice_set items i x)
all_set P [] i x all has = tt
all_set P (y ∷ items) zero x all has = (has, all.1)
all_set P (y ∷ items) (suc i) x all has = (all.0, all_set P items i x all.1 has)

pub all_filtered : {X : Type 0} (P : X → Type 0) (test : X → Bool) (items : List X) → AllByRecursion P items → AllByRecursion P (filter test items)
all_filtered P test [] all = tt
all_filtered P test (x ∷ items) all =
    elim (test x) as (λ b. AllByRecursion P (cond b (x ∷ filter test items) (filter test items))) [
      | true ↦ (all.0, all_filtered P test items all.1)
      | false ↦ all_filtered P test items all.1
    ]

pub all_wider : {X : Type 0} (P Q : X → Type 0) (items : List X) → ((x : X) → P x → Q x) → AllByRecursion P items → AllByRecursion Q items
all_wider P Q [] wider all = tt
all_wider P Q (x ∷ items) wider all = (wider x all.0, all_wider P Q items wider all.1)

pub all_mapped : {X Y : Type 0} (P : Y → Type 0) (f : X → Y) (items : List X) → AllByRecursion (λ x. P (f x)) items → AllByRecursion P (map f items)
all_mapped P f [] all = tt
all_mapped P f (x ∷ items) all = (all.0, all_mapped P f items all.1)

pub all_unmapped : {X Y : Type 0} (P : Y → Type 0) (f : X → Y) (items : List X) → AllByRecursion P (map f items) → AllByRecursion (λ x. P (f x)) items
all_unmapped P f [] all = tt
all_unmapped P f (x ∷ items) all = (all.0, all_unmapped P f items all.1)

pub all_found : {X : Type 0} (P : X → Type 0) (test : X → Bool) (items : List X) (x : X) → AllByRecursion P items → find test items ≡ Some x → P x
all_found P test [] x all e = absurd (let g : None ≡ Some x = e in cc)
all_found P test (y ∷ items) x all e =
    elim (test y) as (λ b. cond b (Some y) (find test items) ≡ Some x → P x) [
      | true ↦ λ is. subst P (let same : y ≡ x = cc in same) all.0
      | false ↦ λ is. all_found P test items x all.1 is
    ] e

-- ---- where an item stands

pub record Located {X : Type 0} (test : X → Bool) (items : List X) (i : ℕ) : Type 0 where
  pub within : i < length items
  pub passes : (d : X) → test (slice_index_or items i d) ≡ true

located_from : {X : Type 0} (test : X → Bool) (n i : ℕ) (items : List X) → position_from test n items ≡ Some i → (k : ℕ) × (i ≡ n + k) × Located test items k
located_from test n i [] e = absurd (let g : None ≡ Some i = e in cc)
located_from test n i (x ∷ items) e =
    elim (test x) as (λ b. test x ≡ b → cond b (Some n) (position_from test (n + 1) items) ≡ Some i → (k : ℕ) × (i ≡ n + k) × Located test (x ∷ items) k) [
      | true ↦ λ t is. (let same : n ≡ i = cc in (zero, omega (arith, same), record { within = omega arith; passes = λ d. t }))
      | false ↦ λ t is. (let (k, same, at) = located_from test (n + 1) i items is in (suc k, omega (arith, same), record { within = omega (arith, at.within); passes = λ d. at.passes d }))
    ] refl e

pub located : {X : Type 0} (test : X → Bool) (i : ℕ) (items : List X) → position_from test 0 items ≡ Some i → Located test items i
located test i items e = let (k, same, at) = located_from test 0 i items e in subst (λ j. Located test items j) (let s : k ≡ i = omega (arith, same) in s) at

pub missed : {X : Type 0} (test : X → Bool) (n : ℕ) (items : List X) → position_from test n items ≡ None → AllByRecursion (λ x. test x ≡ false) items
missed test n [] e = tt
missed test n (x ∷ items) e =
    elim (test x) as (λ b. test x ≡ b → cond b (Some n) (position_from test (n + 1) items) ≡ None → (test x ≡ false) × AllByRecursion (λ x. test x ≡ false) items) [
      | true ↦ λ t is. absurd (let g : Some n ≡ None = is in cc)
      | false ↦ λ t is. (t, missed test (n + 1) items is)
    ] refl e

-- ---- a filter

pub filter_removed : {X : Type 0} (test : X → Bool) (items : List X) (i : ℕ) (d : X) → i < length items → test (slice_index_or items i d) ≡ false → filter test (remove items i) ≡ filter test items
filter_removed test [] i d there fails = absurd (omega arith)
filter_removed test (x ∷ items) zero d there fails = sym (ap (λ b. cond b (x ∷ filter test items) (filter test items)) fails)
filter_removed test (x ∷ items) (suc i) d there fails = ap (λ l. cond (test x) (x ∷ l) l) (filter_removed test items i d (omega arith) fails)

pub filter_none : {X : Type 0} (test : X → Bool) (items : List X) → AllByRecursion (λ x. test x ≡ false) items → filter (λ x. not (test x)) items ≡ items
filter_none test [] all = refl
filter_none test (x ∷ items) all =
    ap (λ b. cond (not b) (x ∷ filter (λ y. not (test y)) items) (filter (λ y. not (test y)) items)) all.0 ∙ ap (λ l. x ∷ l) (filter_none test items all.1)
