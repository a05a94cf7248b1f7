-- Steps of the loops.
use Rattle.std.proofs.Common.{◌≡◌, ℕ, ◌+◌, ◌-◌, ◌<◌, ◌≤◌, ◌++◌, ◌∙◌, Bool, Some, None, Option, List, [], ◌∷◌, ap, arith, cond, drop, eqb, get_or, inl, inr, leb, length, length-append, ltb, map, option_map, refl, suc, sym, zero, true, false}
use Rattle.std.specs.Prelude.{find, ◌&&◌}
use Rattle.std.specs.List.{All}
use Rattle.std.specs.Cmp.Lexicographic.{pointwise}
use Rattle.std.specs.List.Sorted.{IsNonDecreasingBy, IsPartitionPoint, IsPartitionedBy}
use Rattle.std.proofs.lemmas.Bool.{eq-eqb, ne_eqb, leb-true, leb-false, le-leb, ltb-false, ltb-true, cases_order, cases_lt}
use Rattle.std.proofs.lemmas.List.{at_drop_more, at_drop_all, get_or_append_left, get_or-append_right, get_or_default}
use Rattle.ol_values.specs.Blocks.{Saved}
use Rattle.ol_rules.specs.Shelf.{saved_in, same_saved}
use Rattle.ol_object.specs.Spaces.{saved_of}
use Rattle.ol_object_spans.specs.declared.header.Stopped.{Stopped}
use Rattle.ol_object_spans.specs.Passing.{start_of, starts_at}

-- ---- spaces

abbrev pub base_in : ℕ → List (ℕ × ℕ × ℕ) → Option ℕ
base_in space items = option_map (λ (s : Saved). s.base) (saved_in space (map saved_of items))

pub base_first : (space : ℕ) (items : List (ℕ × ℕ × ℕ)) (i : ℕ) → i < length items → (get_or items i (0, 0, 0)).0 ≡ space
    → base_in space (drop i items) ≡ Some (get_or items i (0, 0, 0)).2
base_first space items i h e =
    let x : ℕ × ℕ × ℕ = get_or items i (0, 0, 0) in
    at_drop_more (base_in space) items i (0, 0, 0) h
    ∙ ap (λ b. option_map (λ (s : Saved). s.base) (cond b (Some (saved_of x)) (saved_in space (map saved_of (drop (i + 1) items))))) (eq-eqb x.0 space e)

pub base_passed : (space : ℕ) (items : List (ℕ × ℕ × ℕ)) (i : ℕ) → i < length items → ((get_or items i (0, 0, 0)).0 ≡ space → ⊥)
    → base_in space (drop i items) ≡ base_in space (drop (i + 1) items)
base_passed space items i h e =
    let x : ℕ × ℕ × ℕ = get_or items i (0, 0, 0) in
    at_drop_more (base_in space) items i (0, 0, 0) h
    ∙ ap (λ b. option_map (λ (s : Saved). s.base) (cond b (Some (saved_of x)) (saved_in space (map saved_of (drop (i + 1) items))))) (ne_eqb x.0 space e)

pub base_none : (space : ℕ) (items : List (ℕ × ℕ × ℕ)) (i : ℕ) → length items ≤ i → base_in space (drop i items) ≡ None
base_none space items i h = at_drop_all (base_in space) items i h

-- ---- stopped headers

find_none : (test : Stopped → Bool) (xs : List Stopped) → ((k : ℕ) (d : Stopped) → k < length xs → test (get_or xs k d) ≡ false) → find test xs ≡ None
find_none test [] none = refl
find_none test (x ∷ xs) none =
    ap (λ t. cond t (Some x) (find test xs)) (none 0 x (omega arith)) ∙ find_none test xs (λ k d below. none (suc k) d (omega (arith, below)))

find_first : (test : Stopped → Bool) (xs : List Stopped) (i : ℕ) (x : Stopped) → i < length xs → x ≡ get_or xs i x
    → ((k : ℕ) (d : Stopped) → k < i → test (get_or xs k d) ≡ false) → test x ≡ true → find test xs ≡ Some x
find_first test [] i x in_ is none here = absurd (omega (arith, in_))
find_first test (y ∷ xs) zero x in_ is none here = ap (λ (z : Stopped). cond (test z) (Some z) (find test xs)) (sym is) ∙ ap (λ t. cond t (Some x) (find test xs)) here
find_first test (y ∷ xs) (suc i) x in_ is none here =
    ap (λ t. cond t (Some y) (find test xs)) (none 0 y (omega arith))
    ∙ find_first test xs i x (omega (arith, in_)) is (λ k d below. none (suc k) d (omega (arith, below))) here

-- where headers in order begin before a start, and where not
abbrev pub IsPoint : ℕ → List Stopped → ℕ → Type 0
IsPoint start xs i = IsPartitionPoint (λ s. ltb (start_of s) start ≡ true) (λ s. ltb (start_of s) start ≡ false) xs i

pub found_at : (start : ℕ) (xs : List Stopped) (i : ℕ) (x : Stopped) → IsPoint start xs i → i < length xs → x ≡ get_or xs i x → x.header.start ≡ start
    → find (starts_at start) xs ≡ Some x
found_at start xs i x point in_ is e =
    find_first (starts_at start) xs i x in_ is
    (λ k d below. ne_eqb (start_of (get_or xs k d)) start (λ same. omega (arith, same, ltb-true (start_of (get_or xs k d)) start (point.0 k d (omega arith) below))))
    (eq-eqb x.header.start start e)

pub found_nowhere : (start : ℕ) (xs : List Stopped) (i : ℕ) → IsPoint start xs i → length xs ≤ i → find (starts_at start) xs ≡ None
found_nowhere start xs i point all =
    find_none (starts_at start) xs (λ k d below. ne_eqb (start_of (get_or xs k d)) start
    (λ same. omega (arith, same, ltb-true (start_of (get_or xs k d)) start (point.0 k d (omega arith) (omega (arith, below, all))))))

pub found_elsewhere : (start : ℕ) (xs : List Stopped) (i : ℕ) (x : Stopped) → IsNonDecreasingBy start_of xs → IsPoint start xs i → i < length xs → x ≡ get_or xs i x
    → (x.header.start ≡ start → ⊥) → find (starts_at start) xs ≡ None
found_elsewhere start xs i x rising point in_ is not_ =
    let above : start ≤ start_of (get_or xs i x) = ltb-false (start_of (get_or xs i x)) start (point.1 i x (omega arith) in_) in
    let own : start_of x ≡ start_of (get_or xs i x) = ap start_of is in
    find_none (starts_at start) xs (λ k d below. ne_eqb (start_of (get_or xs k d)) start (λ same. elim (cases_lt k i) as (λ _. ⊥) [
      | inl before ↦ absurd (omega (arith, same, ltb-true (start_of (get_or xs k d)) start (point.0 k d (omega arith) before)))
      | inr behind ↦
          let one : get_or xs k d ≡ get_or xs k x = get_or_default xs k d x below in
          absurd (not_ (omega (arith, same, ap start_of one, rising i k x behind below, above, own)))
    ]))

-- ---- the place of a number in order

split_at : (start : ℕ) (xs front back : List ℕ) (i : ℕ) → xs ≡ front ++ back → All (λ s. s ≤ start) front → All (λ s. start < s) back
    → IsPartitionPoint (λ s. leb s start ≡ true) (λ s. leb s start ≡ false) xs i → i ≤ length xs → (i ≡ length front) × Unit {0}
split_at start xs front back i e low high point most =
    let long : length xs ≡ length front + length back = ap length e ∙ length-append front back in
    let is : i ≡ length front = elim (cases_order i (length front)) as (λ _. i ≡ length front) [
      | inl same ↦ same
      | inr (inl below) ↦
          let here : get_or xs i 0 ≡ get_or front i 0 = ap (λ l. get_or l i 0) e ∙ get_or_append_left front back 0 i below in
          absurd (omega (arith, here, low i 0 below, leb-false (get_or xs i 0) start (point.1 i 0 (omega arith) (omega arith))))
      | inr (inr above) ↦
          let n : ℕ = length front in
          let here : get_or xs n 0 ≡ get_or back (n - n) 0 = ap (λ l. get_or l n 0) e ∙ get_or-append_right front back n n 0 refl (omega arith) in
          let zero_ : n - n ≡ 0 = omega arith in
          absurd (omega (arith, here, ap (λ k. get_or back k 0) zero_, high 0 0 (omega arith), leb-true (get_or xs n 0) start (point.0 n 0 (omega arith) above)))
    ] in (is, tt)

partitioned : (start : ℕ) (xs front back : List ℕ) → xs ≡ front ++ back → All (λ s. s ≤ start) front → All (λ s. start < s) back
    → IsPartitionedBy (λ s. leb s start) xs
partitioned start xs front back e low high i j d before inside passes =
    let long : length xs ≡ length front + length back = ap length e ∙ length-append front back in
    elim (cases_lt j (length front)) as (λ _. leb (get_or xs i d) start ≡ true) [
      | inl below ↦
          let here : get_or xs i d ≡ get_or front i d = ap (λ l. get_or l i d) e ∙ get_or_append_left front back d i (omega arith) in
          le-leb (get_or xs i d) start (omega (arith, here, low i d (omega arith)))
      | inr above ↦
          let here : get_or xs j d ≡ get_or back (j - length front) d = ap (λ l. get_or l j d) e ∙ get_or-append_right front back (length front) j d refl above in
          absurd (omega (arith, here, high (j - length front) d (omega arith), leb-true (get_or xs j d) start passes))
    ]

pub place_is : (start : ℕ) (xs front back : List ℕ) (i : ℕ) → i ≤ length xs
    → (IsPartitionedBy (λ s. leb s start) xs → IsPartitionPoint (λ s. leb s start ≡ true) (λ s. leb s start ≡ false) xs i)
    → xs ≡ front ++ back → All (λ s. s ≤ start) front → All (λ s. start < s) back → i ≡ length front
place_is start xs front back i most clause e low high =
    (split_at start xs front back i e low high (clause (partitioned start xs front back e low high)) most).0

-- ---- lists of spaces

regrouped : (a b c d : Bool) → (((a && b) && c) && d) ≡ (a && (b && (c && d)))
regrouped true true true d = refl
regrouped true true false d = refl
regrouped true false c d = refl
regrouped false b c d = refl

pub same_spaces : (a b : List (ℕ × ℕ × ℕ)) → pointwise (λ (x : ℕ × ℕ × ℕ) (y : ℕ × ℕ × ℕ). (eqb x.0 y.0 && eqb x.1 y.1) && eqb x.2 y.2) a b ≡ same_saved (map saved_of a) (map saved_of b)
same_spaces [] [] = refl
same_spaces [] (y ∷ ys) = refl
same_spaces (x ∷ xs) [] = refl
same_spaces (x ∷ xs) (y ∷ ys) =
    ap (λ t. ((eqb x.0 y.0 && eqb x.1 y.1) && eqb x.2 y.2) && t) (same_spaces xs ys)
    ∙ regrouped (eqb x.0 y.0) (eqb x.1 y.1) (eqb x.2 y.2) (same_saved (map saved_of xs) (map saved_of ys))
