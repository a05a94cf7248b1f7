-- The objects of a stream with one more block.
use Rattle.std.proofs.Common.{◌≡◌, ℕ, ◌+◌, ◌-◌, ◌<◌, ◌≤◌, ◌++◌, ◌∙◌, Bool, Some, None, Option, List, [], ◌∷◌, ap, append_assoc, arith, drop, eqb, flat_map, inl, inr, leb, length, length-drop, map, refl, suc, sym, take, zero, true, false}
use Rattle.std.specs.List.{All, cons_option, enumerate_from, range_with_len}
use Rattle.std.specs.Prelude.{filter_map, if◌then◌else◌, ◌&&◌, ◌||◌}
use Rattle.std.proofs.lemmas.Bool.{and_from, and_left, and_parts, and_right, cases_Bool, cases_lt, eq-eqb, eqb-true, leb-false, leb-true, ne_eqb, or_from}
use Rattle.std.proofs.lemmas.List.{append-nil, drop_more, drop-append-le, length_push, map-append, take-append-le, take_all}
use Rattle.std.proofs.lemmas.List.Concat.{flat_map-append}
use Rattle.std.proofs.lemmas.List.Elements.{All-append, All-cons, All-nil, All-same, filter_map-append}
use Rattle.ol_values.specs.Blocks.{Block, mark_kind, trailer_kind}
use Rattle.ol_rules.specs.Shelf.{Object, Placed, bad_blocks, object_with, objects_from}
use Rattle.ol_object_spans.specs.declared.headers.Headers.{Headers}
use Rattle.ol_object_spans.specs.declared.state.Span.{Span}
use Rattle.ol_object_spans.specs.Objects.{archive_in, first_place, object_told, place_or, place_told, started, started_from}
use Rattle.ol_object_spans.specs.Passing.{bad_told}
use Rattle.ol_object_spans.specs.Scans.{block_at, course, is_span, no_block}
use Rattle.ol_object_spans.specs.Spans.{bad_by, object_by, span_of}
use Rattle.ol_object_spans.specs.Told.{head_told, held_told, told_of}
use Rattle.ol_object_spans.proofs.BadLaws.{Ends, bad_is}
use Rattle.ol_object_spans.proofs.Streams.{enumerate_push}

-- ---- the objects from one start

span_kept : (l m : List Placed) (s t : ℕ) → t < length l → take (t + 1 - s) (drop s (l ++ m)) ≡ take (t + 1 - s) (drop s l)
span_kept l m s t h = elim (cases_lt (length l) s) as (λ _. take (t + 1 - s) (drop s (l ++ m)) ≡ take (t + 1 - s) (drop s l)) [
  | inl late ↦
      let none : t + 1 - s ≡ 0 = omega arith in
      ap (λ k. take k (drop s (l ++ m))) none ∙ sym (ap (λ k. take k (drop s l)) none)
  | inr early ↦ ap (take (t + 1 - s)) (drop-append-le s l m early) ∙ take-append-le (t + 1 - s) (drop s l) m (omega (arith, length-drop s l))
]

with_kept : (l m : List Placed) (s t : ℕ) (item : Option Block) → t < length l → object_with (l ++ m) s t item ≡ object_with l s t item
with_kept l m s t None h = refl
with_kept l m s t (Some b) h =
    ap (λ (span : List Placed). if is_span b s t then Some (let o : Object = record { head = b; span = span } in o) else None) (span_kept l m s t h)

listed_kept : (l m : List Placed) (s n : ℕ) (rest : List Placed) → n + length rest ≤ length l
    → filter_map (λ (p : ℕ × Placed). object_with (l ++ m) s p.0 p.1.item) (enumerate_from n rest)
    ≡ filter_map (λ (p : ℕ × Placed). object_with l s p.0 p.1.item) (enumerate_from n rest)
listed_kept l m s n [] h = refl
listed_kept l m s n (x ∷ rest) h = λ i. cons_option (with_kept l m s n x.item (omega arith) i) (listed_kept l m s (n + 1) rest (omega arith) i)

-- one more block adds the object that it ends
from_push : (l : List Placed) (p : Placed) (s : ℕ)
    → objects_from (l ++ p ∷ []) s ≡ objects_from l s ++ cons_option (object_with (l ++ p ∷ []) s (length l) p.item) []
from_push l p s =
    let e : 0 + length l ≡ length l = omega arith in
    ap (filter_map (λ (q : ℕ × Placed). object_with (l ++ p ∷ []) s q.0 q.1.item)) (enumerate_push 0 l p)
    ∙ filter_map-append (λ (q : ℕ × Placed). object_with (l ++ p ∷ []) s q.0 q.1.item) (enumerate_from 0 l) ((0 + length l, p) ∷ [])
    ∙ (λ i. listed_kept l (p ∷ []) s 0 l (omega arith) i ++ cons_option (object_with (l ++ p ∷ []) s (e i) p.item) [])

span_late : (b : Block) (s t : ℕ) → t < s → is_span b s t ≡ false
span_late b s t h =
    or_from (eqb b.kind mark_kind && eqb s t) (eqb b.kind trailer_kind && eqb (s + b.index) t)
    (and_right (eqb b.kind mark_kind) (eqb s t) (ne_eqb s t (λ e. omega (arith, e))))
    (and_right (eqb b.kind trailer_kind) (eqb (s + b.index) t) (ne_eqb (s + b.index) t (λ e. omega (arith, e))))

with_none : (l : List Placed) (s t : ℕ) (item : Option Block) → ((b : Block) → item ≡ Some b → is_span b s t ≡ false) → object_with l s t item ≡ None
with_none l s t None not_ = refl
with_none l s t (Some b) not_ =
    ap (λ x. if x then Some (let o : Object = record { head = b; span = take (t + 1 - s) (drop s l) } in o) else None) (not_ b refl)

none_listed : (l : List Placed) (s n : ℕ) (rest : List Placed) → n + length rest ≤ s
    → filter_map (λ (p : ℕ × Placed). object_with l s p.0 p.1.item) (enumerate_from n rest) ≡ []
none_listed l s n [] h = refl
none_listed l s n (x ∷ rest) h =
    (λ i. cons_option (with_none l s n x.item (λ b e. span_late b s n (omega arith)) i) (none_listed l s (n + 1) rest (omega arith) i))

-- ---- all starts

range_split : (a m n : ℕ) → range_with_len a (m + n) ≡ range_with_len a m ++ range_with_len (a + m) n
range_split a zero n = let e : 0 + n ≡ n = omega arith in let f : a ≡ a + 0 = omega arith in ap (range_with_len a) e ∙ ap (λ k. range_with_len k n) f
range_split a (suc m) n =
    let e : suc m + n ≡ suc (m + n) = omega arith in
    let f : a + 1 + m ≡ a + suc m = omega arith in
    ap (range_with_len a) e ∙ ap (λ t. a ∷ t) (range_split (a + 1) m n ∙ ap (λ k. range_with_len (a + 1) m ++ range_with_len k n) f)

flat_same : {Y : Type 0} (f g : ℕ → List Y) (a n : ℕ) → ((s : ℕ) → a ≤ s → s < a + n → f s ≡ g s) → flat_map f (range_with_len a n) ≡ flat_map g (range_with_len a n)
flat_same f g a zero same = refl
flat_same f g a (suc n) same = λ i. same a (omega arith) (omega arith) i ++ flat_same f g (a + 1) n (λ s low high. same s (omega arith) (omega arith)) i

pair_starts : (P : ℕ → Type 0) (s : ℕ) (os : List Object) → P s → All P (map (λ (p : ℕ × Object). p.0) (map (λ (o : Object). (s, o)) os))
pair_starts P s [] here = All-nil P
pair_starts P s (o ∷ os) here = All-cons P s (map (λ (p : ℕ × Object). p.0) (map (λ (o : Object). (s, o)) os)) here (pair_starts P s os here)

starts_all : (P : ℕ → Type 0) (l : List Placed) (a n : ℕ) → ((s : ℕ) → a ≤ s → s < a + n → P s)
    → All P (map (λ (p : ℕ × Object). p.0) (flat_map (started_from l) (range_with_len a n)))
starts_all P l a zero each = All-nil P
starts_all P l a (suc n) each =
    All-same P (map (λ (p : ℕ × Object). p.0) (started_from l a ++ flat_map (started_from l) (range_with_len (a + 1) n)))
    (map (λ (p : ℕ × Object). p.0) (started_from l a) ++ map (λ (p : ℕ × Object). p.0) (flat_map (started_from l) (range_with_len (a + 1) n)))
    (map-append (λ (p : ℕ × Object). p.0) (started_from l a) (flat_map (started_from l) (range_with_len (a + 1) n)))
    (All-append P (map (λ (p : ℕ × Object). p.0) (started_from l a)) (map (λ (p : ℕ × Object). p.0) (flat_map (started_from l) (range_with_len (a + 1) n)))
    (pair_starts P a (objects_from l a) (each a (omega arith) (omega arith)))
    (starts_all P l (a + 1) n (λ s low high. each s (omega arith) (omega arith))))

-- the starts of a stream, with that behind its last block
one_more : (l : List Placed) (p : Placed) → flat_map (started_from l) (range_with_len 0 (length (l ++ p ∷ []))) ≡ started l
one_more l p =
    let e : length (l ++ p ∷ []) ≡ length l + 1 = length_push l p in
    let z : 0 + length l ≡ length l = omega arith in
    ap (λ k. flat_map (started_from l) (range_with_len 0 k)) e
    ∙ ap (flat_map (started_from l)) (range_split 0 (length l) 1)
    ∙ flat_map-append (started_from l) (range_with_len 0 (length l)) (range_with_len (0 + length l) 1)
    ∙ ap (λ os. started l ++ (map (λ (o : Object). (0 + length l, o)) os ++ [])) (none_listed l (0 + length l) 0 l (omega arith))
    ∙ append-nil (started l)

-- ---- a block that ends no object

pub started_same : (l : List Placed) (p : Placed) → ((b : Block) (s : ℕ) → p.item ≡ Some b → is_span b s (length l) ≡ false) → started (l ++ p ∷ []) ≡ started l
started_same l p none =
    let n : ℕ = length l in
    flat_same (started_from (l ++ p ∷ [])) (started_from l) 0 (length (l ++ p ∷ [])) (λ s low high.
    ap (map (λ (o : Object). (s, o)))
    (from_push l p s
    ∙ ap (λ o. objects_from l s ++ cons_option o []) (with_none (l ++ p ∷ []) s n p.item (λ b e. none b s e))
    ∙ append-nil (objects_from l s)))
    ∙ one_more l p

-- ---- a block that ends one

-- the object that a block ends
abbrev pub ended_by : List Placed → Placed → Block → ℕ → Object
ended_by l p b k = record { head = b; span = take (length l + 1 - k) (drop k (l ++ p ∷ [])) }

-- where the new object stands among the others
pub record Placing (l : List Placed) (p : Placed) (b : Block) (k : ℕ) : Type 0 where
  pub front : List (ℕ × Object)
  pub back : List (ℕ × Object)
  pub old : started l ≡ front ++ back
  pub new : started (l ++ p ∷ []) ≡ front ++ (k, ended_by l p b k) ∷ back
  pub low : All (λ s. s ≤ k) (map (λ (q : ℕ × Object). q.0) front)
  pub high : All (λ s. k < s) (map (λ (q : ℕ × Object). q.0) back)

pub placing : (l : List Placed) (p : Placed) (b : Block) (k : ℕ) → p.item ≡ Some b → k ≤ length l → ((s : ℕ) → is_span b s (length l) ≡ eqb s k) → Placing l p b k
placing l p b k item in_ says =
    let m : List Placed = l ++ p ∷ [] in
    let n : ℕ = length l in
    let j : ℕ = n - k in
    let f : ℕ → List (ℕ × Object) = started_from m in
    let g : ℕ → List (ℕ × Object) = started_from l in
    let y : ℕ × Object = (k, ended_by l p b k) in
    let other : (s : ℕ) → (s ≡ k → ⊥) → f s ≡ g s = λ s ne.
    ap (map (λ (o : Object). (s, o)))
    (from_push l p s
    ∙ ap (λ o. objects_from l s ++ cons_option o []) (with_none m s n p.item (λ c e.
    let same : b ≡ c = (let both : Some b ≡ Some c = sym item ∙ e in cc) in
    ap (λ x. is_span x s n) (sym same) ∙ says s ∙ ne_eqb s k ne))
    ∙ append-nil (objects_from l s)) in
    let here : f k ≡ g k ++ y ∷ [] =
    ap (map (λ (o : Object). (k, o)))
    (from_push l p k
    ∙ ap (λ (it : Option Block). objects_from l k ++ cons_option (object_with m k n it) []) item
    ∙ ap (λ x. objects_from l k ++ cons_option (if x then Some (ended_by l p b k) else None) []) (says k ∙ eq-eqb k k refl))
    ∙ map-append (λ (o : Object). (k, o)) (objects_from l k) (ended_by l p b k ∷ []) in
    let long : length m ≡ k + suc j = omega (arith, length_push l p) in
    let zero_ : 0 + k ≡ k = omega arith in
    let split : range_with_len 0 (length m) ≡ range_with_len 0 k ++ k ∷ range_with_len (k + 1) j =
    ap (range_with_len 0) long ∙ range_split 0 k (suc j) ∙ ap (λ a. range_with_len 0 k ++ a ∷ range_with_len (a + 1) j) zero_ in
    let g0 : List (ℕ × Object) = flat_map g (range_with_len 0 k) in
    let g1 : List (ℕ × Object) = flat_map g (range_with_len (k + 1) j) in
    record {
      front = g0 ++ g k;
      back = g1;
      old =
          sym (one_more l p)
          ∙ ap (flat_map g) split
          ∙ flat_map-append g (range_with_len 0 k) (k ∷ range_with_len (k + 1) j)
          ∙ sym (append_assoc g0 (g k) g1);
      new =
          ap (flat_map f) split
          ∙ flat_map-append f (range_with_len 0 k) (k ∷ range_with_len (k + 1) j)
          ∙ (λ i. flat_same f g 0 k (λ s low high. other s (λ e. omega (arith, e))) i
          ++ (here i ++ flat_same f g (k + 1) j (λ s low high. other s (λ e. omega (arith, e))) i))
          ∙ ap (λ t. g0 ++ t) (append_assoc (g k) (y ∷ []) g1)
          ∙ sym (append_assoc g0 (g k) (y ∷ g1));
      low = All-same (λ s. s ≤ k) (map (λ (q : ℕ × Object). q.0) (g0 ++ g k)) (map (λ (q : ℕ × Object). q.0) g0 ++ map (λ (q : ℕ × Object). q.0) (g k))
          (map-append (λ (q : ℕ × Object). q.0) g0 (g k))
          (All-append (λ s. s ≤ k) (map (λ (q : ℕ × Object). q.0) g0) (map (λ (q : ℕ × Object). q.0) (g k))
          (starts_all (λ s. s ≤ k) l 0 k (λ s low high. omega arith))
          (pair_starts (λ s. s ≤ k) k (objects_from l k) (omega arith)));
      high = starts_all (λ s. k < s) l (k + 1) j (λ s low high. omega arith);
    }

-- ---- the span that a block ends

-- what the span of a block says of the objects that it ends
abbrev pub SpanSays : Block → ℕ → Option Span → Type 0
SpanSays b n None = (s : ℕ) → is_span b s n ≡ false
SpanSays b n (Some span) =
    (span.start ≤ n) × (span.blocks ≡ n + 1 - span.start) × ((s : ℕ) → is_span b s n ≡ eqb s span.start)
    × (eqb b.kind mark_kind ≡ false → (b.kind ≡ trailer_kind) × (span.start + b.index ≡ n))

or_false : (x : Bool) → (x || false) ≡ x
or_false true = refl
or_false false = refl

same_test : (a b c d : ℕ) → (a ≡ b → c ≡ d) → (c ≡ d → a ≡ b) → eqb a b ≡ eqb c d
same_test a b c d to back = elim (cases_Bool (eqb a b)) as (λ _. eqb a b ≡ eqb c d) [
  | inl t ↦ t ∙ sym (eq-eqb c d (to (eqb-true a b t)))
  | inr f ↦ f ∙ sym (ne_eqb c d (λ e. absurd (let g : eqb a b ≡ true = eq-eqb a b (back e) in cc)))
]

mark_says : (b : Block) (n : ℕ) → eqb b.kind mark_kind ≡ true → SpanSays b n (Some (record { start = n; blocks = 1 }))
mark_says b n mark =
    let kind : b.kind ≡ mark_kind = eqb-true b.kind mark_kind mark in (
      omega arith,
      omega arith,
      λ s. (λ i. (mark i && eqb s n) || (ap (λ k. eqb k trailer_kind) kind i && eqb (s + b.index) n)) ∙ or_false (eqb s n),
      λ not_. absurd (cc),
    )

trailer_says : (b : Block) (n : ℕ) → eqb b.kind mark_kind ≡ false → eqb b.kind trailer_kind ≡ true → b.index ≤ n
    → SpanSays b n (Some (record { start = n - b.index; blocks = b.index + 1 }))
trailer_says b n mark trailer below = (
  omega arith,
  omega arith,
  λ s. (λ i. (mark i && eqb s n) || (trailer i && eqb (s + b.index) n)) ∙ same_test (s + b.index) n s (n - b.index) (λ e. omega arith) (λ e. omega arith),
  λ not_. (eqb-true b.kind trailer_kind trailer, omega arith),
)

none_says : (b : Block) (n : ℕ) → eqb b.kind mark_kind ≡ false → (eqb b.kind trailer_kind && leb b.index n) ≡ false → SpanSays b n None
none_says b n mark not_ s =
    or_from (eqb b.kind mark_kind && eqb s n) (eqb b.kind trailer_kind && eqb (s + b.index) n)
    (and_left (eqb b.kind mark_kind) (eqb s n) mark)
    (elim (cases_Bool (leb b.index n)) as (λ _. (eqb b.kind trailer_kind && eqb (s + b.index) n) ≡ false) [
      | inl t ↦ and_left (eqb b.kind trailer_kind) (eqb (s + b.index) n) (elim (cases_Bool (eqb b.kind trailer_kind)) as (λ _. eqb b.kind trailer_kind ≡ false) [
        | inl both ↦ absurd (let e : (eqb b.kind trailer_kind && leb b.index n) ≡ true = and_from (eqb b.kind trailer_kind) (leb b.index n) both t in cc)
        | inr no_ ↦ no_
      ])
      | inr f ↦ and_right (eqb b.kind trailer_kind) (eqb (s + b.index) n) (ne_eqb (s + b.index) n (λ e. omega (arith, e, leb-false b.index n f)))
    ])

pub span_says : (b : Block) (n : ℕ) → SpanSays b n (span_of (head_told b) n)
span_says b n =
    elim (eqb b.kind mark_kind) as (λ t. eqb b.kind mark_kind ≡ t → SpanSays b n (if t then Some (record { start = n; blocks = 1 })
    else if eqb b.kind trailer_kind && leb b.index n then Some (record { start = n - b.index; blocks = b.index + 1 }) else None)) [
      | true ↦ λ mark. mark_says b n mark
      | false ↦ λ mark. elim (eqb b.kind trailer_kind && leb b.index n) as (λ t. (eqb b.kind trailer_kind && leb b.index n) ≡ t
          → SpanSays b n (if t then Some (record { start = n - b.index; blocks = b.index + 1 }) else None)) [
            | true ↦ λ e. let both = and_parts (eqb b.kind trailer_kind) (leb b.index n) e in trailer_says b n mark both.0 (leb-true b.index n both.1)
            | false ↦ λ e. none_says b n mark e
          ] refl
    ] refl

-- ---- the object as it is told

pub object_is : (l : List Placed) (p : Placed) (b : Block) (h : Headers) (span : Span) → SpanSays b (length l) (Some span)
    → (eqb b.kind mark_kind ≡ false → Ends l p b h span.start)
    → object_by h span (place_told (block_at (l ++ p ∷ []) span.start)) (place_told p) (told_of b) ≡ object_told (ended_by l p b span.start)
object_is l p b h span says ends =
    let m : List Placed = l ++ p ∷ [] in
    let k : ℕ = span.start in
    let long : length m ≡ length l + 1 = length_push l p in
    let rest : length (drop k m) ≡ length m - k = length-drop k m in
    let whole : take (length l + 1 - k) (drop k m) ≡ drop k m = take_all (length l + 1 - k) (drop k m) (omega arith) in
    let at_least : k ≤ length l = says.0 in
    let first : drop k m ≡ block_at m k ∷ drop (k + 1) m = drop_more m k no_block (omega arith) in
    let count : span.blocks ≡ length l + 1 - k = says.1 in
    let blocks : span.blocks ≡ length (take (length l + 1 - k) (drop k m)) = count ∙ (let e : length l + 1 - k ≡ length (drop k m) = omega arith in e) ∙ ap (λ (x : List Placed). length x) (sym whole) in
    let place : place_told (block_at m k) ≡ place_or (first_place (take (length l + 1 - k) (drop k m))) =
    sym (ap (λ x. place_or (first_place x)) (whole ∙ first)) in
    let bad : bad_by h span (place_told (block_at m k)) (place_told p) (told_of b) ≡ first_place (bad_blocks (ended_by l p b k)) =
    elim (eqb b.kind mark_kind) as (λ t. eqb b.kind mark_kind ≡ t
    → (if t then None else bad_told h.live h.stopped.items k (place_told (block_at m k)) (place_told p) (told_of b))
    ≡ first_place (if t then [] else (course b (take (length l + 1 - k) (drop k m))).bad)) [
      | true ↦ λ e. refl
      | false ↦ λ e. bad_is l p b h k (ends e) ∙ ap (λ x. first_place (course b x).bad) (sym whole)
    ] refl in
    λ i. record { place = place i; head = head_told b; blocks = blocks i; bad = bad i; archive = archive_in (held_told b.payload) }
