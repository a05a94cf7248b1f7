-- The first block outside of all objects, of a stream with one more block, and of a whole stream.
use Rattle.std.proofs.Common.{◌≡◌, ℕ, ◌+◌, ◌-◌, ◌<◌, ◌≤◌, ◌++◌, ◌∙◌, Bool, Some, None, Option, List, [], ◌∷◌, ap, arith, cond, drop, eqb, flat_map, get_or, inl, inr, length, length-drop, length-take, ltb, option_map, refl, suc, sym, take, zero, true, false}
use Rattle.std.specs.List.{cons_option, enumerate_from, list_any, range_with_len}
use Rattle.std.specs.Prelude.{filter_map, find, if◌then◌else◌, is_none, not, ◌&&◌, ◌||◌}
use Rattle.std.proofs.lemmas.Bool.{and_from, and_left, and_right, cases_lt, cases_order, eq-eqb, eqb-true, false_from_ne_true, false≢true, le-ltb, ltb-false, ltb-true, or_from, or_left, or_right, true≢false}
use Rattle.std.proofs.lemmas.List.{get_or-drop, get_or-take, length_push}
use Rattle.std.proofs.lemmas.List.Folds.{list_any-append, list_any_at}
use Rattle.std.proofs.lemmas.List.FromFn.{get_or-enumerate_from, get_or-range_with_len, length-enumerate_from, length-range_with_len}
use Rattle.ol_values.specs.Blocks.{Block}
use Rattle.ol_rules.specs.Plan.{covers, is_before}
use Rattle.ol_rules.specs.Shelf.{Object, Placed, object_with, objects_from, objects_of}
use Rattle.ol_object_spans.specs.Objects.{place_told}
use Rattle.ol_object_spans.specs.Scans.{AreRising, IsCovered, IsFirstOutside, IsOutside, block_at, first_outside, is_span, item_at, no_block}
use Rattle.ol_object_spans.specs.Spans.{left_before, outside_with}
use Rattle.ol_object_spans.proofs.Streams.{block_left, item_cases, item_inside, item_kept, item_last, no_item}

-- ---- with one more block

covered_kept : (l : List Placed) (p : Placed) (i : ℕ) → IsCovered l i → IsCovered (l ++ p ∷ []) i
covered_kept l p i c = record { s = c.s; t = c.t; b = c.b; item = item_kept l p c.t c.b c.item; span = c.span; from = c.from; to = c.to }

covered_back : (l : List Placed) (p : Placed) (i : ℕ) → ((b : Block) (s : ℕ) → p.item ≡ Some b → is_span b s (length l) ≡ true → s ≤ i → ⊥)
    → IsCovered (l ++ p ∷ []) i → IsCovered l i
covered_back l p i not_ c = elim (item_cases l p c.t c.b c.item) as (λ _. IsCovered l i) [
  | inl old ↦ record { s = c.s; t = c.t; b = c.b; item = old; span = c.span; from = c.from; to = c.to }
  | inr last ↦ absurd (not_ c.b c.s last.1 (ap (λ t. is_span c.b c.s t) (sym last.0) ∙ c.span) c.from)
]

item_before : (l : List Placed) (p : Placed) (i : ℕ) → i < length l → item_at (l ++ p ∷ []) i ≡ None → item_at l i ≡ None
item_before l p i below e = sym (ap (λ (q : Placed). q.item) (block_left l (p ∷ []) i below)) ∙ e

-- the first outside stays so
still_first : (l : List Placed) (p : Placed) (j : ℕ) → ((b : Block) (s : ℕ) → p.item ≡ Some b → is_span b s (length l) ≡ true → s ≤ j → ⊥)
    → IsFirstOutside l j → IsFirstOutside (l ++ p ∷ []) j
still_first l p j not_ is = record {
  there = omega (arith, is.there, length_push l p);
  none = ap (λ (q : Placed). q.item) (block_left l (p ∷ []) j is.there) ∙ is.none;
  bare = λ c. is.bare (covered_back l p j not_ c);
  first = λ i below e. covered_kept l p i (is.first i below (item_before l p i (omega (arith, below, is.there)) e));
}

-- bytes that are no block
pub outside_bytes : (l : List Placed) (p : Placed) (o : Option ℕ) → p.item ≡ None → IsOutside l o → IsOutside (l ++ p ∷ []) (outside_with (length l) o)
outside_bytes l p None none is = record {
  there = omega (arith, length_push l p);
  none = item_last l p ∙ none;
  bare = λ c. elim (item_cases l p c.t c.b c.item) as (λ _. ⊥) [
    | inl old ↦ absurd (omega (arith, c.to, item_inside l c.t c.b old))
    | inr last ↦ no_item p.item c.b none last.1
  ];
  first = λ i below e. covered_kept l p i (is i below (item_before l p i below e));
}
outside_bytes l p (Some j) none is = still_first l p j (λ b s e. absurd (no_item p.item b none e)) is

-- all stays covered behind a block
still_covered : (l : List Placed) (p : Placed) (b : Block) → p.item ≡ Some b → IsOutside l None → IsOutside (l ++ p ∷ []) None
still_covered l p b item is i below e = elim (cases_lt i (length l)) as (λ _. IsCovered (l ++ p ∷ []) i) [
  | inl before ↦ covered_kept l p i (is i before (item_before l p i before e))
  | inr last ↦
      let same : i ≡ length l = omega (arith, length_push l p) in
      absurd (no_item p.item b (sym (item_last l p) ∙ ap (item_at (l ++ p ∷ [])) (sym same) ∙ e) item)
]

-- a block that ends no object
pub outside_same : (l : List Placed) (p : Placed) (b : Block) (o : Option ℕ) → p.item ≡ Some b → ((s : ℕ) → is_span b s (length l) ≡ false)
    → IsOutside l o → IsOutside (l ++ p ∷ []) o
outside_same l p b None item none is = still_covered l p b item is
outside_same l p b (Some j) item none is = still_first l p j (λ c s e span below.
    let same : b ≡ c = (let both : Some b ≡ Some c = sym item ∙ e in cc) in
    absurd (true≢false (sym span ∙ ap (λ x. is_span x s (length l)) (sym same) ∙ none s))) is

-- a block that ends an object
pub outside_left : (l : List Placed) (p : Placed) (b : Block) (k : ℕ) (o : Option ℕ) → p.item ≡ Some b → k ≤ length l
    → ((s : ℕ) → is_span b s (length l) ≡ eqb s k) → IsOutside l o → IsOutside (l ++ p ∷ []) (left_before k o)
outside_left l p b k None item in_ says is = still_covered l p b item is
outside_left l p b k (Some j) item in_ says is =
    elim (ltb j k) as (λ t. ltb j k ≡ t → IsOutside (l ++ p ∷ []) (if t then Some j else None)) [
      | true ↦ λ before. still_first l p j (λ c s e span below.
          let same : b ≡ c = (let both : Some b ≡ Some c = sym item ∙ e in cc) in
          let at : s ≡ k = eqb-true s k (sym (says s) ∙ ap (λ x. is_span x s (length l)) same ∙ span) in
          absurd (omega (arith, at, below, ltb-true j k before))) is
      | false ↦ λ behind. λ i below e. elim (cases_lt i j) as (λ _. IsCovered (l ++ p ∷ []) i) [
        | inl before ↦ covered_kept l p i (is.first i before (item_before l p i (omega (arith, is.there, before)) e))
        | inr from ↦ record {
          s = k;
          t = length l;
          b = b;
          item = item_last l p ∙ item;
          span = says k ∙ eq-eqb k k refl;
          from = omega (arith, ltb-false j k behind, from);
          to = omega (arith, below, length_push l p);
        }
      ]
    ] refl

-- ---- what is covered

abbrev any_in : {Y : Type 0} → (Y → Bool) → Option Y → Bool
any_in p None = false
any_in p (Some y) = p y

any_flat : {X Y : Type 0} (p : Y → Bool) (f : X → List Y) (xs : List X) → list_any p (flat_map f xs) ≡ list_any (λ x. list_any p (f x)) xs
any_flat p f [] = refl
any_flat p f (x ∷ xs) = list_any-append p (f x) (flat_map f xs) ∙ ap (λ t. list_any p (f x) || t) (any_flat p f xs)

any_listed : {X Y : Type 0} (p : Y → Bool) (h : X → Option Y) (xs : List X) → list_any p (filter_map h xs) ≡ list_any (λ x. any_in p (h x)) xs
any_listed p h [] = refl
any_listed p h (x ∷ xs) =
    elim (h x) as (λ o. list_any p (cons_option o (filter_map h xs)) ≡ (any_in p o || list_any (λ x. any_in p (h x)) xs)) [
      | None ↦ any_listed p h xs
      | Some y ↦ ap (λ t. p y || t) (any_listed p h xs)
    ]

record Found {X : Type 0} (p : X → Bool) (xs : List X) (d : X) : Type 0 where
  pub k : ℕ
  pub in_ : k < length xs
  pub passes : p (get_or xs k d) ≡ true

any_found : {X : Type 0} (p : X → Bool) (xs : List X) (d : X) → list_any p xs ≡ true → Found p xs d
any_found p [] d e = absurd (false≢true e)
any_found p (x ∷ xs) d e =
    elim (p x) as (λ t. p x ≡ t → (t || list_any p xs) ≡ true → Found p (x ∷ xs) d) [
      | true ↦ λ here f. record { k = 0; in_ = omega arith; passes = here }
      | false ↦ λ here f. let r = any_found p xs d f in record { k = suc r.k; in_ = omega (arith, r.in_); passes = r.passes }
    ] refl e

-- whether two places are one
abbrev same_as : Placed → Placed → Bool
same_as p q = not (is_before p q || is_before q p)

-- whether an object has a block at the place of p
abbrev has : Placed → Object → Bool
has p o = list_any (same_as p) o.span

abbrev ends_at : List Placed → Placed → ℕ → ℕ × Placed → Bool
ends_at l p s q = any_in (has p) (object_with l s q.0 q.1.item)

covers_told : (l : List Placed) (p : Placed)
    → covers (objects_of l) p ≡ list_any (λ s. list_any (ends_at l p s) (enumerate_from 0 l)) (range_with_len 0 (length l))
covers_told l p =
    any_flat (has p) (objects_from l) (range_with_len 0 (length l))
    ∙ ap (λ (f : ℕ → Bool). list_any f (range_with_len 0 (length l)))
    (λ i s. any_listed (has p) (λ (q : ℕ × Placed). object_with l s q.0 q.1.item) (enumerate_from 0 l) i)

not_before_self : (p : Placed) → is_before p p ≡ false
not_before_self p =
    or_from (ltb p.drive p.drive) (eqb p.drive p.drive && (ltb p.volume p.volume || (eqb p.volume p.volume && ltb p.block p.block)))
    (le-ltb p.drive p.drive (omega arith))
    (and_right (eqb p.drive p.drive) (ltb p.volume p.volume || (eqb p.volume p.volume && ltb p.block p.block))
    (or_from (ltb p.volume p.volume) (eqb p.volume p.volume && ltb p.block p.block) (le-ltb p.volume p.volume (omega arith))
    (and_right (eqb p.volume p.volume) (ltb p.block p.block) (le-ltb p.block p.block (omega arith)))))

same_self : (p : Placed) → same_as p p ≡ true
same_self p = ap (λ t. not (t || t)) (not_before_self p)

-- a block of a span by its index in the stream
of_span : (l : List Placed) (s t m : ℕ) → m < t + 1 - s → get_or (take (t + 1 - s) (drop s l)) m no_block ≡ block_at l (s + m)
of_span l s t m below = get_or-take (t + 1 - s) (drop s l) m no_block below ∙ get_or-drop s l m no_block

covered_told : (l : List Placed) (i : ℕ) → IsCovered l i → covers (objects_of l) (block_at l i) ≡ true
covered_told l i c =
    let p : Placed = block_at l i in
    let o : Object = record { head = c.b; span = take (c.t + 1 - c.s) (drop c.s l) } in
    let in_ : c.t < length l = item_inside l c.t c.b c.item in
    let there : c.s + (i - c.s) ≡ i = omega (arith, c.from) in
    let m : i - c.s < length o.span = omega (arith, length-take (c.t + 1 - c.s) (drop c.s l), length-drop c.s l, c.from, c.to) in
    let holds : has p o ≡ true =
    list_any_at (same_as p) o.span (i - c.s) no_block m
    (ap (same_as p) (of_span l c.s c.t (i - c.s) (omega (arith, c.from, c.to)) ∙ ap (block_at l) there) ∙ same_self p) in
    let zero_ : 0 + c.t ≡ c.t = omega arith in
    let from : 0 + c.s ≡ c.s = omega arith in
    let d : ℕ × Placed = (0, no_block) in
    let here : get_or (enumerate_from 0 l) c.t d ≡ (c.t, block_at l c.t) =
    get_or-enumerate_from 0 l c.t d in_ ∙ (λ k. (zero_ k, block_at l c.t)) in
    let ends : ends_at l p c.s (get_or (enumerate_from 0 l) c.t d) ≡ true =
    ap (ends_at l p c.s) here
    ∙ ap (λ (item : Option Block). any_in (has p) (object_with l c.s c.t item)) c.item
    ∙ ap (λ t. any_in (has p) (if t then Some o else None)) c.span
    ∙ holds in
    let inner : list_any (ends_at l p c.s) (enumerate_from 0 l) ≡ true =
    list_any_at (ends_at l p c.s) (enumerate_from 0 l) c.t d (omega (arith, length-enumerate_from 0 l)) ends in
    covers_told l p
    ∙ list_any_at (λ s. list_any (ends_at l p s) (enumerate_from 0 l)) (range_with_len 0 (length l)) c.s 0 (omega (arith, length-range_with_len 0 (length l), c.from, c.to))
    (ap (λ s. list_any (ends_at l p s) (enumerate_from 0 l)) (get_or-range_with_len 0 (length l) c.s 0 (omega (arith, c.from, c.to)) ∙ from) ∙ inner)

-- blocks at one place are one block
same_index : (l : List Placed) (i j : ℕ) → AreRising l → i < length l → j < length l → same_as (block_at l i) (block_at l j) ≡ true → j ≡ i
same_index l i j rising one two e = elim (cases_order j i) as (λ _. j ≡ i) [
  | inl same ↦ same
  | inr (inl below) ↦ absurd (false≢true (sym (ap not (or_right (is_before (block_at l i) (block_at l j)) (is_before (block_at l j) (block_at l i)) (rising j i below one))) ∙ e))
  | inr (inr above) ↦ absurd (false≢true (sym (ap not (or_left (is_before (block_at l i) (block_at l j)) (is_before (block_at l j) (block_at l i)) (rising i j above two))) ∙ e))
]

object_covers : (l : List Placed) (i s t : ℕ) (b : Block) → AreRising l → i < length l → t < length l → item_at l t ≡ Some b → is_span b s t ≡ true
    → has (block_at l i) (record { head = b; span = take (t + 1 - s) (drop s l) }) ≡ true → IsCovered l i
object_covers l i s t b rising one two item span e =
    let found = any_found (same_as (block_at l i)) (take (t + 1 - s) (drop s l)) no_block e in
    let short : found.k < t + 1 - s = omega (arith, found.in_, length-take (t + 1 - s) (drop s l)) in
    let at : s + found.k ≡ i = same_index l i (s + found.k) rising one (omega (arith, short)) (sym (ap (same_as (block_at l i)) (of_span l s t found.k short)) ∙ found.passes) in
    record { s = s; t = t; b = b; item = item; span = span; from = omega (arith, at); to = omega (arith, at, short) }

item_covers : (l : List Placed) (i s t : ℕ) (item : Option Block) → AreRising l → i < length l → t < length l → item_at l t ≡ item
    → any_in (has (block_at l i)) (object_with l s t item) ≡ true → IsCovered l i
item_covers l i s t None rising one two at e = absurd (false≢true e)
item_covers l i s t (Some b) rising one two at e =
    elim (is_span b s t) as (λ x. is_span b s t ≡ x
    → any_in (has (block_at l i)) (if x then Some (let o : Object = record { head = b; span = take (t + 1 - s) (drop s l) } in o) else None) ≡ true → IsCovered l i) [
      | true ↦ λ span f. object_covers l i s t b rising one two at span f
      | false ↦ λ span f. absurd (false≢true f)
    ] refl e

told_covers : (l : List Placed) (i : ℕ) → AreRising l → i < length l → covers (objects_of l) (block_at l i) ≡ true → IsCovered l i
told_covers l i rising one e =
    let p : Placed = block_at l i in
    let d : ℕ × Placed = (0, no_block) in
    let outer = any_found (λ s. list_any (ends_at l p s) (enumerate_from 0 l)) (range_with_len 0 (length l)) 0 (sym (covers_told l p) ∙ e) in
    let inner = any_found (ends_at l p (get_or (range_with_len 0 (length l)) outer.k 0)) (enumerate_from 0 l) d outer.passes in
    let two : inner.k < length l = omega (arith, inner.in_, length-enumerate_from 0 l) in
    let zero_ : 0 + inner.k ≡ inner.k = omega arith in
    let here : get_or (enumerate_from 0 l) inner.k d ≡ (inner.k, block_at l inner.k) =
    get_or-enumerate_from 0 l inner.k d two ∙ (λ k. (zero_ k, block_at l inner.k)) in
    item_covers l i (get_or (range_with_len 0 (length l)) outer.k 0) inner.k (item_at l inner.k) rising one two refl
    (sym (ap (ends_at l p (get_or (range_with_len 0 (length l)) outer.k 0)) here) ∙ inner.passes)

-- ---- of a whole stream

find_none : (test : Placed → Bool) (xs : List Placed) → ((i : ℕ) → i < length xs → test (get_or xs i no_block) ≡ false) → find test xs ≡ None
find_none test [] none = refl
find_none test (x ∷ xs) none =
    ap (λ t. cond t (Some x) (find test xs)) (none 0 (omega arith)) ∙ find_none test xs (λ i below. none (suc i) (omega (arith, below)))

find_first : (test : Placed → Bool) (xs : List Placed) (j : ℕ) → j < length xs → ((i : ℕ) → i < j → test (get_or xs i no_block) ≡ false)
    → test (get_or xs j no_block) ≡ true → find test xs ≡ Some (get_or xs j no_block)
find_first test [] j in_ none here = absurd (omega (arith, in_))
find_first test (x ∷ xs) zero in_ none here = ap (λ t. cond t (Some x) (find test xs)) here
find_first test (x ∷ xs) (suc j) in_ none here =
    ap (λ t. cond t (Some x) (find test xs)) (none 0 (omega arith))
    ∙ find_first test xs j (omega (arith, in_)) (λ i below. none (suc i) (omega (arith, below))) here

abbrev is_outside : List Placed → Placed → Bool
is_outside l p = is_none p.item && not (covers (objects_of l) p)

not_outside : (l : List Placed) (i : ℕ) (item : Option Block) → item_at l i ≡ item → (item ≡ None → IsCovered l i) → is_outside l (block_at l i) ≡ false
not_outside l i None at covered =
    and_right (is_none (item_at l i)) (not (covers (objects_of l) (block_at l i))) (ap not (covered_told l i (covered refl)))
not_outside l i (Some b) at covered =
    and_left (is_none (item_at l i)) (not (covers (objects_of l) (block_at l i))) (ap (λ (item : Option Block). is_none item) at)

pub outside_is : (l : List Placed) (o : Option ℕ) → IsOutside l o → AreRising l → option_map (λ j. place_told (block_at l j)) o ≡ option_map place_told (first_outside l)
outside_is l None is rising =
    ap (option_map place_told) (sym (find_none (is_outside l) l (λ i below. not_outside l i (item_at l i) refl (λ e. is i below e))))
outside_is l (Some j) is rising =
    ap (option_map place_told) (sym (find_first (is_outside l) l j is.there (λ i below. not_outside l i (item_at l i) refl (λ e. is.first i below e))
    (and_from (is_none (item_at l j)) (not (covers (objects_of l) (block_at l j))) (ap (λ (item : Option Block). is_none item) is.none)
    (ap not (false_from_ne_true (covers (objects_of l) (block_at l j)) (λ e. is.bare (told_covers l j rising is.there e)))))))
