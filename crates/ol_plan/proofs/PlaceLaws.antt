-- The order of places, and blocks that rise in place.
use Rattle.std.proofs.Common.{◌≡◌, ℕ, ◌+◌, ◌-◌, ◌<◌, ◌++◌, ◌∙◌, ◌⊎◌, Some, None, Option, List, [], ◌∷◌, arith, drop, eqb, fold, inl, inr, length, ltb, map, refl, subst, suc, sym, take, zero, true, false}
use Rattle.std.specs.List.{cons_option, enumerate_from, flat_map, range_with_len}
use Rattle.std.specs.Prelude.{filter_map, if◌then◌else◌, slice_get, ◌&&◌, ◌==◌, ◌||◌}
use Rattle.std.proofs.lemmas.Bool.{and_from, and_parts, eq-eqb, eqb-true, false_from_ne_true, lt-ltb, ltb-true, or_cases, or_left, or_right, true≢false}
use Rattle.std.proofs.lemmas.List.{append-nil, append_assoc}
use Rattle.std.proofs.lemmas.List.Concat.{flat_map-cons}
use Rattle.ol_values.specs.Blocks.{Block, mark_kind, page_kind, records_kind, trailer_kind}
use Rattle.ol_rules.specs.Plan.{is_before}
use Rattle.ol_rules.specs.Shelf.{Object, Placed, Reached, Shelf, bad_blocks, belongs, object_with, objects, objects_from, objects_of, placed_blocks, reach_on, reached_by, readable_item, stream}

-- ---- the order

abbrev pub IsBefore : Placed → Placed → Type 0
IsBefore p q = (p.drive < q.drive) ⊎ ((p.drive ≡ q.drive) × ((p.volume < q.volume) ⊎ ((p.volume ≡ q.volume) × (p.block < q.block))))

before_within : (p q : Placed) → (ltb p.volume q.volume || ((p.volume == q.volume) && ltb p.block q.block)) ≡ true → (p.volume < q.volume) ⊎ ((p.volume ≡ q.volume) × (p.block < q.block))
before_within p q e =
    elim (or_cases (ltb p.volume q.volume) ((p.volume == q.volume) && ltb p.block q.block) e) as (λ _. (p.volume < q.volume) ⊎ ((p.volume ≡ q.volume) × (p.block < q.block))) [
      | inl lt ↦ inl (ltb-true p.volume q.volume lt)
      | inr both ↦
          let parts = and_parts (p.volume == q.volume) (ltb p.block q.block) both in
          inr (eqb-true p.volume q.volume parts.0, ltb-true p.block q.block parts.1)
    ]

from_test : (p q : Placed) → is_before p q ≡ true → IsBefore p q
from_test p q e =
    elim (or_cases (ltb p.drive q.drive) ((p.drive == q.drive) && (ltb p.volume q.volume || ((p.volume == q.volume) && ltb p.block q.block))) e) as (λ _. IsBefore p q) [
      | inl lt ↦ inl (ltb-true p.drive q.drive lt)
      | inr both ↦
          let parts = and_parts (p.drive == q.drive) (ltb p.volume q.volume || ((p.volume == q.volume) && ltb p.block q.block)) both in
          inr (eqb-true p.drive q.drive parts.0, before_within p q parts.1)
    ]

to_within : (p q : Placed) → (p.volume < q.volume) ⊎ ((p.volume ≡ q.volume) × (p.block < q.block)) → (ltb p.volume q.volume || ((p.volume == q.volume) && ltb p.block q.block)) ≡ true
to_within p q (inl lt) = or_left (ltb p.volume q.volume) ((p.volume == q.volume) && ltb p.block q.block) (lt-ltb p.volume q.volume lt)
to_within p q (inr both) =
    or_right (ltb p.volume q.volume) ((p.volume == q.volume) && ltb p.block q.block) (
    and_from (p.volume == q.volume) (ltb p.block q.block) (eq-eqb p.volume q.volume both.0) (lt-ltb p.block q.block both.1)
    )

pub to_test : (p q : Placed) → IsBefore p q → is_before p q ≡ true
to_test p q (inl lt) = or_left (ltb p.drive q.drive) ((p.drive == q.drive) && (ltb p.volume q.volume || ((p.volume == q.volume) && ltb p.block q.block))) (lt-ltb p.drive q.drive lt)
to_test p q (inr both) =
    or_right (ltb p.drive q.drive) ((p.drive == q.drive) && (ltb p.volume q.volume || ((p.volume == q.volume) && ltb p.block q.block))) (
    and_from (p.drive == q.drive) (ltb p.volume q.volume || ((p.volume == q.volume) && ltb p.block q.block)) (eq-eqb p.drive q.drive both.0) (to_within p q both.1)
    )

within_twice : (p q r : Placed) → (p.volume < q.volume) ⊎ ((p.volume ≡ q.volume) × (p.block < q.block)) → (q.volume < r.volume) ⊎ ((q.volume ≡ r.volume) × (q.block < r.block))
    → (p.volume < r.volume) ⊎ ((p.volume ≡ r.volume) × (p.block < r.block))
within_twice p q r (inl a) (inl b) = inl (omega arith)
within_twice p q r (inl a) (inr b) = inl (omega (arith, b.0))
within_twice p q r (inr a) (inl b) = inl (omega (arith, a.0))
within_twice p q r (inr a) (inr b) = inr (a.0 ∙ b.0, omega (arith, a.1, b.1))

before_twice : (p q r : Placed) → IsBefore p q → IsBefore q r → IsBefore p r
before_twice p q r (inl a) (inl b) = inl (omega arith)
before_twice p q r (inl a) (inr b) = inl (omega (arith, b.0))
before_twice p q r (inr a) (inl b) = inl (omega (arith, a.0))
before_twice p q r (inr a) (inr b) = inr (a.0 ∙ b.0, within_twice p q r a.1 b.1)

not_within : (p : Placed) → (p.volume < p.volume) ⊎ ((p.volume ≡ p.volume) × (p.block < p.block)) → ⊥
not_within p (inl a) = omega arith
not_within p (inr a) = omega (arith, a.1)

not_itself : (p : Placed) → IsBefore p p → ⊥
not_itself p (inl a) = omega arith
not_itself p (inr a) = not_within p a.1

-- what comes behind a block does not come before it
pub not_back : (p q : Placed) → is_before p q ≡ true → is_before q p ≡ false
not_back p q e = false_from_ne_true (is_before q p) (λ f. not_itself p (before_twice p q p (from_test p q e) (from_test q p f)))

-- nor before one that the block does not come before
pub not_past : (p q best : Placed) → is_before p q ≡ true → is_before p best ≡ false → is_before q best ≡ false
not_past p q best e none =
    false_from_ne_true (is_before q best) (λ f. true≢false (sym (to_test p best (before_twice p q best (from_test p q e) (from_test q best f))) ∙ none))

-- ---- rising lists

abbrev pub AllAfter : Placed → List Placed → Type 0
AllAfter p [] = Unit {0}
AllAfter p (q ∷ qs) = (is_before p q ≡ true) × AllAfter p qs

abbrev pub Rising : List Placed → Type 0
Rising [] = Unit {0}
Rising (p ∷ ps) = AllAfter p ps × Rising ps

after_left : (p q : Placed) (front back : List Placed) → AllAfter p (front ++ q ∷ back) → AllAfter p (front ++ back)
after_left p q [] back all = all.1
after_left p q (x ∷ front) back all = (all.0, after_left p q front back all.1)

-- one block left out
left_out : (q : Placed) (front back : List Placed) → Rising (front ++ q ∷ back) → Rising (front ++ back)
left_out q [] back all = all.1
left_out q (p ∷ front) back all = (after_left p q front back all.0, left_out q front back all.1)

after_take : (p : Placed) (n : ℕ) (l : List Placed) → AllAfter p l → AllAfter p (take n l)
after_take p zero l all = tt
after_take p (suc n) [] all = tt
after_take p (suc n) (q ∷ l) all = (all.0, after_take p n l all.1)

rising_take : (n : ℕ) (l : List Placed) → Rising l → Rising (take n l)
rising_take zero l all = tt
rising_take (suc n) [] all = tt
rising_take (suc n) (p ∷ l) all = (after_take p n l all.0, rising_take n l all.1)

rising_drop : (n : ℕ) (l : List Placed) → Rising l → Rising (drop n l)
rising_drop zero l all = all
rising_drop (suc n) [] all = tt
rising_drop (suc n) (p ∷ l) all = rising_drop n l all.1

after_append : (p : Placed) (front back : List Placed) → AllAfter p front → AllAfter p back → AllAfter p (front ++ back)
after_append p [] back one two = two
after_append p (q ∷ front) back one two = (one.0, after_append p front back one.1 two)

abbrev AllBefore : List Placed → List Placed → Type 0
AllBefore [] back = Unit {0}
AllBefore (p ∷ front) back = AllAfter p back × AllBefore front back

rising_append : (front back : List Placed) → Rising front → Rising back → AllBefore front back → Rising (front ++ back)
rising_append [] back one two all = two
rising_append (p ∷ front) back one two all = (after_append p front back one.0 all.0, rising_append front back one.1 two all.1)

-- ---- streams

-- the block of an index in a volume
abbrev block_in : ℕ → ℕ → ℕ × Option Block → Placed
block_in drive volume b = let p : Placed = record { drive = drive; volume = volume; block = b.0; item = readable_item b.1 } in p

after_blocks : (p : Placed) (n : ℕ) (l : List (Option Block)) → p.block < n → AllAfter p (map (block_in p.drive p.volume) (enumerate_from n l))
after_blocks p n [] lt = tt
after_blocks p n (b ∷ l) lt = (to_test p (block_in p.drive p.volume (n, b)) (inr (refl, inr (refl, lt))), after_blocks p (n + 1) l (omega arith))

volume_rises : (drive volume n : ℕ) (l : List (Option Block)) → Rising (map (block_in drive volume) (enumerate_from n l))
volume_rises drive volume n [] = tt
volume_rises drive volume n (b ∷ l) = (after_blocks (block_in drive volume (n, b)) (n + 1) l (omega arith), volume_rises drive volume (n + 1) l)

-- all of these are behind a block of a volume before
after_volume : (p : Placed) (volume n : ℕ) (l : List (Option Block)) → p.volume < volume → AllAfter p (map (block_in p.drive volume) (enumerate_from n l))
after_volume p volume n [] lt = tt
after_volume p volume n (b ∷ l) lt = (to_test p (block_in p.drive volume (n, b)) (inr (refl, inl lt)), after_volume p volume (n + 1) l lt)

after_volumes : (p : Placed) (v : ℕ) (vs : List (List (Option Block))) → p.volume < v → AllAfter p (flat_map (placed_blocks p.drive) (enumerate_from v vs))
after_volumes p v [] lt = tt
after_volumes p v (l ∷ vs) lt =
    subst (AllAfter p) (sym (flat_map-cons (placed_blocks p.drive) (v, l) (enumerate_from (v + 1) vs))) (
    after_append p (placed_blocks p.drive (v, l)) (flat_map (placed_blocks p.drive) (enumerate_from (v + 1) vs)) (after_volume p v 0 l lt) (after_volumes p (v + 1) vs (omega arith))
    )

before_volumes : (drive volume n : ℕ) (l : List (Option Block)) (v : ℕ) (vs : List (List (Option Block))) → volume < v
    → AllBefore (map (block_in drive volume) (enumerate_from n l)) (flat_map (placed_blocks drive) (enumerate_from v vs))
before_volumes drive volume n [] v vs lt = tt
before_volumes drive volume n (b ∷ l) v vs lt = (after_volumes (block_in drive volume (n, b)) v vs lt, before_volumes drive volume (n + 1) l v vs lt)

volumes_rise : (drive v : ℕ) (vs : List (List (Option Block))) → Rising (flat_map (placed_blocks drive) (enumerate_from v vs))
volumes_rise drive v [] = tt
volumes_rise drive v (l ∷ vs) =
    subst Rising (sym (flat_map-cons (placed_blocks drive) (v, l) (enumerate_from (v + 1) vs))) (
    rising_append (placed_blocks drive (v, l)) (flat_map (placed_blocks drive) (enumerate_from (v + 1) vs)) (volume_rises drive v 0 l) (volumes_rise drive (v + 1) vs)
    (before_volumes drive v 0 l (v + 1) vs (omega arith))
    )

-- ---- bad blocks

state_rises : (head : Block) (r : Reached) (i : ℕ) (p : Placed) (rest : List Placed) (item : Option Block) → Rising (r.bad ++ p ∷ rest) → Rising ((reach_on head r p i item).bad ++ rest)
state_rises head r i p rest None all = subst Rising (sym (append_assoc r.bad (p ∷ []) rest)) all
state_rises head r i p rest (Some b) all =
    elim (belongs head r i b) as (λ t. Rising ((if t then reached_by r b else record r { sure = false; bad = r.bad ++ p ∷ [] }).bad ++ rest)) [
      | true ↦
          elim (eqb b.kind page_kind) as (λ t. Rising ((if t then record r { space = b.a; page = b.b + 1 } else (if b.kind == records_kind then record r { position = b.a + b.b; sure = true } else r)).bad ++ rest)) [
            | true ↦ left_out p r.bad rest all
            | false ↦
                elim (eqb b.kind records_kind) as (λ t. Rising ((if t then record r { position = b.a + b.b; sure = true } else r).bad ++ rest)) [
                  | true ↦ left_out p r.bad rest all
                  | false ↦ left_out p r.bad rest all
                ]
          ]
      | false ↦ subst Rising (sym (append_assoc r.bad (p ∷ []) rest)) all
    ]

states_rise : (head : Block) (r : Reached) (i : ℕ) (span : List Placed) → Rising (r.bad ++ span)
    → Rising (fold (λ (r : Reached) (p : ℕ × Placed). reach_on head r p.1 p.0 p.1.item) r (enumerate_from i span)).bad
states_rise head r i [] all = subst Rising (append-nil r.bad) all
states_rise head r i (p ∷ span) all = states_rise head (reach_on head r p i p.item) (i + 1) span (state_rises head r i p span p.item all)

bad_rises : (o : Object) → Rising o.span → Rising (bad_blocks o)
bad_rises o all =
    elim (eqb o.head.kind mark_kind) as (λ t. Rising (if t then []
    else (fold (λ (r : Reached) (p : ℕ × Placed). reach_on o.head r p.1 p.0 p.1.item) (record { space = 0; page = 0; position = o.head.a; sure = true; bad = [] }) (enumerate_from 0 o.span)).bad)) [
      | true ↦ tt
      | false ↦ states_rise o.head (record { space = 0; page = 0; position = o.head.a; sure = true; bad = [] }) 0 o.span all
    ]

-- ---- objects

abbrev pub AllRise : List Object → Type 0
AllRise [] = Unit {0}
AllRise (o ∷ os) = Rising (bad_blocks o) × AllRise os

abbrev IfRises : Option Object → Type 0
IfRises None = Unit {0}
IfRises (Some o) = Rising (bad_blocks o)

append_rise : (one two : List Object) → AllRise one → AllRise two → AllRise (one ++ two)
append_rise [] two a b = b
append_rise (o ∷ one) two a b = (a.0, append_rise one two a.1 b)

object_rises : (placed : List Placed) (s t : ℕ) (item : Option Block) → Rising placed → IfRises (object_with placed s t item)
object_rises placed s t None all = tt
object_rises placed s t (Some b) all =
    elim (((b.kind == mark_kind) && (s == t)) || ((b.kind == trailer_kind) && (s + b.index == t))) as (λ c. IfRises (if c then Some (record { head = b; span = take (t + 1 - s) (drop s placed) }) else None)) [
      | true ↦ bad_rises (record { head = b; span = take (t + 1 - s) (drop s placed) }) (rising_take (t + 1 - s) (drop s placed) (rising_drop s placed all))
      | false ↦ tt
    ]

found_rise : (o : Option Object) (os : List Object) → IfRises o → AllRise os → AllRise (cons_option o os)
found_rise None os a b = b
found_rise (Some o) os a b = (a, b)

from_rise : (placed : List Placed) (s : ℕ) → Rising placed → (ps : List (ℕ × Placed)) → AllRise (filter_map (λ (p : ℕ × Placed). object_with placed s p.0 p.1.item) ps)
from_rise placed s all [] = tt
from_rise placed s all (p ∷ ps) =
    found_rise (object_with placed s p.0 p.1.item) (filter_map (λ (p : ℕ × Placed). object_with placed s p.0 p.1.item) ps) (object_rises placed s p.0 p.1.item all) (from_rise placed s all ps)

stream_rise : (placed : List Placed) → Rising placed → (ns : List ℕ) → AllRise (flat_map (objects_from placed) ns)
stream_rise placed all [] = tt
stream_rise placed all (n ∷ ns) =
    subst AllRise (sym (flat_map-cons (objects_from placed) n ns)) (
    append_rise (objects_from placed n) (flat_map (objects_from placed) ns) (from_rise placed n all (enumerate_from 0 placed)) (stream_rise placed all ns)
    )

streams_rise : (ds : List (ℕ × List (List (Option Block)))) → AllRise (flat_map objects_of (map stream ds))
streams_rise [] = tt
streams_rise (d ∷ ds) =
    subst AllRise (sym (flat_map-cons objects_of (stream d) (map stream ds))) (
    append_rise (objects_of (stream d)) (flat_map objects_of (map stream ds)) (stream_rise (stream d) (volumes_rise d.0 1 d.1) (range_with_len 0 (length (stream d)))) (streams_rise ds)
    )

-- the bad blocks of each object rise in place
pub objects_rise : (shelf : Shelf) → AllRise (objects shelf)
unfolding objects
objects_rise shelf = streams_rise (enumerate_from 0 shelf)

pub rise_at : (os : List Object) → AllRise os → (i : ℕ) (o : Object) → slice_get os i ≡ Some o → Rising (bad_blocks o)
rise_at [] all i o e = absurd (cc)
rise_at (x ∷ os) all zero o e = subst (λ y. Rising (bad_blocks y)) (let s : x ≡ o = cc in s) all.0
rise_at (x ∷ os) all (suc i) o e = rise_at os all.1 i o e
