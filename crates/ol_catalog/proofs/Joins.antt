-- What the drives have one by one is what the shelf has.
use Rattle.std.proofs.Common.{◌≡◌, ℕ, ◌+◌, ◌-◌, ◌<◌, ◌++◌, ◌∙◌, Bool, Some, None, Option, List, [], ◌∷◌, ap, arith, cond, drop, flat_map, inl, inr, length, ltb, eqb, map, option_map, refl, subst, suc, sym, take, true, false, zero}
use Rattle.std.specs.List.{All, cons_option, enumerate_from, list_any, range_with_len}
use Rattle.std.specs.Option.{option_or}
use Rattle.std.specs.Prelude.{IfSome, filter_map, find, is_none, not, ◌&&◌, ◌==◌, ◌||◌}
use Rattle.std.proofs.Math.Bool.{or-false}
use Rattle.std.proofs.lemmas.Bool.{cases_lt, lt-ltb, or_left, or_right}
use Rattle.std.proofs.lemmas.Grind.{flat_map-append}
use Rattle.std.proofs.lemmas.List.{append-nil, map-append}
use Rattle.std.proofs.lemmas.List.Elements.{All-append, All-cons, All-drop, All-head, All-map, All-nil, All-tail, All-take, All-weaker}
use Rattle.std.proofs.lemmas.List.Folds.{find-append, list_any-append, list_any_none}
use Rattle.ol_values.specs.Blocks.{Block, mark_kind, trailer_kind}
use Rattle.ol_rules.specs.Plan.{bad_outside, covers, is_before}
use Rattle.ol_rules.specs.Shelf.{Object, Placed, Shelf, object_with, objects, objects_from, objects_of, streams}
use Rattle.ol_object_spans.specs.declared.object.Object as told
use Rattle.ol_object_spans.specs.declared.place.Place.{Place}
use Rattle.ol_object_spans.specs.Objects.{object_told, place_told}
use Rattle.ol_object_spans.specs.Scans.{first_outside}
use Rattle.ol_catalog.specs.Streams.{drive_blocks, placed_at, shelf_to}
use Rattle.ol_catalog.proofs.Streams.{streams_end, streams_more}

-- ---- spans have blocks of their stream alone

pub all_filtered : {X Y : Type 0} (P : Y → Type 0) (f : X → Option Y) → ((x : X) → IfSome (f x) P) → (xs : List X) → All P (filter_map f xs)
all_filtered P f each [] = All-nil P
all_filtered P f each (x ∷ xs) = elim (f x) as (λ o. IfSome o P → All P (cons_option o (filter_map f xs))) [
  | None ↦ λ p. all_filtered P f each xs
  | Some y ↦ λ p. All-cons P y (filter_map f xs) p (all_filtered P f each xs)
] (each x)

all_flat : {X Y : Type 0} (P : Y → Type 0) (f : X → List Y) → ((x : X) → All P (f x)) → (xs : List X) → All P (flat_map f xs)
all_flat P f each [] = All-nil P
all_flat P f each (x ∷ xs) = All-append P (f x) (flat_map f xs) (each x) (all_flat P f each xs)

-- all blocks of an object's span
abbrev HasAll : (Placed → Type 0) → Object → Type 0
HasAll P o = All P o.span

span_of : (P : Placed → Type 0) (l : List Placed) (s t : ℕ) (item : Option Block) → All P l → IfSome (object_with l s t item) (HasAll P)
span_of P l s t None all = tt
span_of P l s t (Some b) all =
    elim (((b.kind == mark_kind) && (s == t)) || ((b.kind == trailer_kind) && (s + b.index == t))) as (λ (u : Bool). IfSome (cond u (let o : Object = record { head = b; span = take (t + 1 - s) (drop s l) } in Some o) None) (HasAll P)) [
      | true ↦ All-take P (t + 1 - s) (drop s l) (All-drop P s l all)
      | false ↦ tt
    ]

spans_of : (P : Placed → Type 0) (l : List Placed) → All P l → All (HasAll P) (objects_of l)
spans_of P l all =
    all_flat (HasAll P) (objects_from l) (λ s. all_filtered (HasAll P) (λ (p : ℕ × Placed). object_with l s p.0 p.1.item) (λ p. span_of P l s p.0 p.1.item all) (enumerate_from 0 l)) (range_with_len 0 (length l))

-- ---- objects of another drive cover no block

abbrev same_place : Placed → Placed → Bool
same_place p q = not (is_before p q || is_before q p)

apart : (p q : Placed) → p.drive < q.drive → (same_place p q ≡ false) × (same_place q p ≡ false)
apart p q less =
    let first : is_before p q ≡ true = or_left (ltb p.drive q.drive) (eqb p.drive q.drive && (ltb p.volume q.volume || (eqb p.volume q.volume && ltb p.block q.block))) (lt-ltb p.drive q.drive less) in
    (ap not (or_left (is_before p q) (is_before q p) first), ap not (or_right (is_before q p) (is_before p q) first))

none_covers : (p : Placed) (all : List Object) → All (HasAll (λ q. same_place p q ≡ false)) all → covers all p ≡ false
none_covers p all h = list_any_none (λ (o : Object). list_any (same_place p) o.span) all (λ k d l. list_any_none (same_place p) _ (h k d l))

-- ---- one stream more

-- the objects of streams
abbrev objects_in : List (List Placed) → List Object
objects_in ls = flat_map objects_of ls

-- bytes that are no block, and that none of these objects covers
abbrev is_outside : List Object → Placed → Bool
is_outside all p = is_none p.item && not (covers all p)

-- the first block of streams outside of all objects
abbrev outside_in : List (List Placed) → Option Placed
outside_in ls = find (is_outside (objects_in ls)) (flat_map (λ s. s) ls)

-- all blocks of a list stand before a drive
abbrev AreBelow : ℕ → List Placed → Type 0
AreBelow n l = All (λ (p : Placed). p.drive < n) l

abbrev AreOf : ℕ → List Placed → Type 0
AreOf n l = All (λ (p : Placed). p.drive ≡ n) l

find_same : {X : Type 0} (t u : X → Bool) (xs : List X) → All (λ x. t x ≡ u x) xs → find t xs ≡ find u xs
find_same t u [] h = refl
find_same t u (x ∷ xs) h =
    let rest = find_same t u xs (All-tail (λ x. t x ≡ u x) x xs h) in
    let here = All-head (λ x. t x ≡ u x) x xs h in
    λ k. cond (here k) (Some x) (rest k)

objects_below : (n : ℕ) (ls : List (List Placed)) → All (AreBelow n) ls → All (HasAll (λ q. q.drive < n)) (objects_in ls)
objects_below n [] h = All-nil (HasAll (λ q. q.drive < n))
objects_below n (l ∷ ls) h =
    All-append (HasAll (λ q. q.drive < n)) (objects_of l) (objects_in ls) (spans_of (λ q. q.drive < n) l (All-head (AreBelow n) l ls h)) (objects_below n ls (All-tail (AreBelow n) l ls h))

blocks_below : (n : ℕ) (ls : List (List Placed)) → All (AreBelow n) ls → AreBelow n (flat_map (λ s. s) ls)
blocks_below n [] h = All-nil (λ (p : Placed). p.drive < n)
blocks_below n (l ∷ ls) h = All-append (λ (p : Placed). p.drive < n) l (flat_map (λ s. s) ls) (All-head (AreBelow n) l ls h) (blocks_below n ls (All-tail (AreBelow n) l ls h))

-- a block before a drive is outside by the objects of the streams before it
outside_before : (n : ℕ) (all : List Object) (l : List Placed) (p : Placed) → AreOf n l → p.drive < n → is_outside (all ++ objects_of l) p ≡ is_outside all p
outside_before n all l p of less =
    let away : All (λ q. same_place p q ≡ false) l = All-weaker (λ (q : Placed). q.drive ≡ n) (λ q. same_place p q ≡ false) (λ q e. (apart p q (omega (arith, less, e))).0) l of in
    let none = none_covers p (objects_of l) (spans_of (λ q. same_place p q ≡ false) l away) in
    let same : covers (all ++ objects_of l) p ≡ covers all p =
    list_any-append (λ (o : Object). list_any (same_place p) o.span) all (objects_of l) ∙ ap (λ t. covers all p || t) none ∙ or-false (covers all p) in
    ap (λ t. is_none p.item && not t) same

-- a block of a drive is outside by the objects of that drive
outside_of : (n : ℕ) (all : List Object) (l : List Placed) (p : Placed) → All (HasAll (λ q. q.drive < n)) all → p.drive ≡ n → is_outside (all ++ objects_of l) p ≡ is_outside (objects_of l) p
outside_of n all l p below e =
    let none = none_covers p all (λ k d h. All-weaker (λ (q : Placed). q.drive < n) (λ q. same_place p q ≡ false) (λ q less. (apart q p (omega (arith, less, e))).1) _ (below k d h)) in
    let same : covers (all ++ objects_of l) p ≡ covers (objects_of l) p =
    list_any-append (λ (o : Object). list_any (same_place p) o.span) all (objects_of l) ∙ ap (λ t. t || covers (objects_of l) p) none in
    ap (λ t. is_none p.item && not t) same

last_flat : {X Y : Type 0} (f : X → List Y) (xs : List X) (x : X) → flat_map f (xs ++ x ∷ []) ≡ flat_map f xs ++ f x
last_flat f xs x = flat_map-append f xs (x ∷ []) ∙ ap (λ t. flat_map f xs ++ t) (append-nil (f x))

joined : (n : ℕ) (ls : List (List Placed)) (l : List Placed) → All (AreBelow n) ls → AreOf n l → outside_in (ls ++ l ∷ []) ≡ option_or (outside_in ls) (first_outside l)
joined n ls l below of =
    let all = objects_in ls in
    let before : List Placed = flat_map (λ s. s) ls in
    let less = blocks_below n ls below in
    let under = objects_below n ls below in
    (λ i. find (is_outside (last_flat objects_of ls l i)) (last_flat (λ s. s) ls l i))
    ∙ find-append (is_outside (all ++ objects_of l)) before l
    ∙ (λ i. option_or
    (find_same (is_outside (all ++ objects_of l)) (is_outside all) before (λ k d h. outside_before n all l _ of (less k d h)) i)
    (find_same (is_outside (all ++ objects_of l)) (is_outside (objects_of l)) l (λ k d h. outside_of n all l _ under (of k d h)) i))

-- ---- one drive more

pub drive_of : (tapes : List (List (List (List ℕ)))) (n : ℕ) → AreOf n (drive_blocks tapes n)
drive_of tapes n = All-map (λ (p : Placed). p.drive ≡ n) (placed_at tapes n) _ (λ k d h. refl)

wider : (n : ℕ) (ls : List (List Placed)) → All (AreBelow n) ls → All (AreBelow (n + 1)) ls
wider n ls h = All-weaker (AreBelow n) (AreBelow (n + 1)) (λ l below. All-weaker (λ (p : Placed). p.drive < n) (λ p. p.drive < n + 1) (λ p less. omega (arith, less)) l below) ls h

drives_below : (tapes : List (List (List (List ℕ)))) (n : ℕ) → All (AreBelow n) (streams (shelf_to tapes n))
drives_below tapes zero = All-nil (AreBelow 0)
drives_below tapes (suc n) =
    let e : n + 1 ≡ suc n = omega arith in
    subst (λ m. All (AreBelow m) (streams (shelf_to tapes m))) e (elim (cases_lt n (length tapes)) as (λ _. All (AreBelow (n + 1)) (streams (shelf_to tapes (n + 1)))) [
      | inl in_ ↦ subst (All (AreBelow (n + 1))) (sym (streams_more tapes n in_))
          (All-append (AreBelow (n + 1)) (streams (shelf_to tapes n)) (drive_blocks tapes n ∷ []) (wider n (streams (shelf_to tapes n)) (drives_below tapes n))
          (All-cons (AreBelow (n + 1)) (drive_blocks tapes n) [] (All-weaker (λ (p : Placed). p.drive ≡ n) (λ p. p.drive < n + 1) (λ p is. omega (arith, is)) (drive_blocks tapes n) (drive_of tapes n)) (All-nil (AreBelow (n + 1)))))
      | inr past ↦ subst (All (AreBelow (n + 1))) (sym (streams_end tapes n past).0) (wider n (streams (shelf_to tapes n)) (drives_below tapes n))
    ])

objects_are : (shelf : Shelf) → objects shelf ≡ objects_in (streams shelf)
unfolding objects
objects_are shelf = refl

outside_is : (shelf : Shelf) → bad_outside shelf ≡ outside_in (streams shelf)
outside_is shelf = ap (λ all. find (is_outside all) (flat_map (λ s. s) (streams shelf))) (objects_are shelf)

-- what the first drives have, and one more
record HasMore (tapes : List (List (List (List ℕ)))) (n : ℕ) : Type 0 where
  found : objects (shelf_to tapes (n + 1)) ≡ objects (shelf_to tapes n) ++ objects_of (drive_blocks tapes n)
  outside : bad_outside (shelf_to tapes (n + 1)) ≡ option_or (bad_outside (shelf_to tapes n)) (first_outside (drive_blocks tapes n))

or_none : {X : Type 0} (o : Option X) → option_or o None ≡ o
or_none None = refl
or_none (Some x) = refl

one_more : (tapes : List (List (List (List ℕ)))) (n : ℕ) → HasMore tapes n
one_more tapes n =
    let ls = streams (shelf_to tapes n) in
    let l = drive_blocks tapes n in
    elim (cases_lt n (length tapes)) as (λ _. HasMore tapes n) [
      | inl in_ ↦ record {
        found = objects_are (shelf_to tapes (n + 1)) ∙ ap objects_in (streams_more tapes n in_) ∙ last_flat objects_of ls l ∙ ap (λ all. all ++ objects_of l) (sym (objects_are (shelf_to tapes n)));
        outside = outside_is (shelf_to tapes (n + 1)) ∙ ap outside_in (streams_more tapes n in_) ∙ joined n ls l (drives_below tapes n) (drive_of tapes n)
            ∙ ap (λ o. option_or o (first_outside l)) (sym (outside_is (shelf_to tapes n)));
      }
      | inr past ↦
          let end_ = streams_end tapes n past in
          record {
            found = objects_are (shelf_to tapes (n + 1)) ∙ ap objects_in end_.0 ∙ sym (objects_are (shelf_to tapes n)) ∙ sym (append-nil (objects (shelf_to tapes n)))
                ∙ ap (λ m. objects (shelf_to tapes n) ++ objects_of m) (sym end_.1);
            outside = outside_is (shelf_to tapes (n + 1)) ∙ ap outside_in end_.0 ∙ sym (outside_is (shelf_to tapes n)) ∙ sym (or_none (bad_outside (shelf_to tapes n)))
                ∙ ap (λ m. option_or (bad_outside (shelf_to tapes n)) (first_outside m)) (sym end_.1);
          }
    ]

map_or : {X Y : Type 0} (f : X → Y) (a b : Option X) → option_or (option_map f a) (option_map f b) ≡ option_map f (option_or a b)
map_or f None b = refl
map_or f (Some x) b = refl

-- ---- what is gathered over the drives

pub nothing_found : (tapes : List (List (List (List ℕ)))) → [] ≡ map object_told (objects (shelf_to tapes 0))
nothing_found tapes = ap (map object_told) (sym (objects_are (shelf_to tapes 0)))

-- the objects of one drive more, as they are told
pub found_more : (tapes seen : List (List (List (List ℕ)))) (n : ℕ) (all more new : List told.Object) → seen ≡ tapes → all ≡ map object_told (objects (shelf_to tapes n))
    → more ≡ map object_told (objects_of (drive_blocks seen n)) → new ≡ all ++ more → new ≡ map object_told (objects (shelf_to tapes (n + 1)))
found_more tapes seen n all more new same was are e =
    e
    ∙ (λ i. was i ++ are i)
    ∙ ap (λ x. map object_told (objects (shelf_to tapes n)) ++ map object_told (objects_of (drive_blocks x n))) same
    ∙ sym (map-append object_told (objects (shelf_to tapes n)) (objects_of (drive_blocks tapes n)))
    ∙ ap (map object_told) (sym (one_more tapes n).found)

-- the first place outside, with one drive more
pub outside_more : (tapes seen : List (List (List (List ℕ)))) (n : ℕ) (first more new : Option Place) → seen ≡ tapes → first ≡ option_map place_told (bad_outside (shelf_to tapes n))
    → more ≡ option_map place_told (first_outside (drive_blocks seen n)) → new ≡ option_or first more → new ≡ option_map place_told (bad_outside (shelf_to tapes (n + 1)))
outside_more tapes seen n first more new same was is e =
    e
    ∙ (λ i. option_or (was i) (is i))
    ∙ ap (λ x. option_or (option_map place_told (bad_outside (shelf_to tapes n))) (option_map place_told (first_outside (drive_blocks x n)))) same
    ∙ map_or place_told (bad_outside (shelf_to tapes n)) (first_outside (drive_blocks tapes n))
    ∙ ap (option_map place_told) (sym (one_more tapes n).outside)

pub none_found : (o : Option Placed) → None ≡ option_map place_told o → o ≡ None
none_found None e = refl
none_found (Some p) e = absurd cc
