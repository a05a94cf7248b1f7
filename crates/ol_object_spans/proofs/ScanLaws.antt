-- A scan with one more block.
use Rattle.std.proofs.Common.{◌≡◌, ℕ, ◌+◌, ◌<◌, ◌≤◌, ◌++◌, ◌∙◌, Some, None, Ok, Err, Option, Result, List, [], ◌∷◌, ap, arith, eqb, flat_map, inl, inr, leb, length, map, option_map, refl, subst, sym, true, false}
use Rattle.std.specs.List.{All, range_with_len}
use Rattle.std.specs.Prelude.{OnOk, if◌then◌else◌, ◌&&◌}
use Rattle.std.proofs.lemmas.List.{length-map, length_push, map-append}
use Rattle.std.proofs.lemmas.Simd.{map-map}
use Rattle.ol_values.specs.Blocks.{Block, header_kind, mark_kind}
use Rattle.ol_rules.specs.Shelf.{Object, Placed, objects_from, objects_of, readable_item}
use Rattle.ol_object_spans.specs.declared.headers.Headers.{Headers}
use Rattle.ol_object_spans.specs.declared.object.Object as told
use Rattle.ol_object_spans.specs.declared.object.Objects.{Objects}
use Rattle.ol_object_spans.specs.declared.block.ReadBlock.{ReadBlock}
use Rattle.ol_object_spans.specs.declared.state.Span.{Span}
use Rattle.ol_object_spans.specs.declared.state.ScanState.{ScanState}
use Rattle.ol_object_spans.specs.Objects.{object_told, place_told, started, started_from}
use Rattle.ol_object_spans.specs.Passing.{HasPassed, begun}
use Rattle.ol_object_spans.specs.Places.{place_in, runs_with}
use Rattle.ol_object_spans.specs.Scans.{AreHeaders, AreRising, HasScanned, IsItemIn, IsOutside, block_at, first_outside, is_span, item_at}
use Rattle.ol_object_spans.specs.Spans.{left_before, object_by, outside_with, span_of}
use Rattle.ol_object_spans.specs.Told.{IsItem, head_told, readable_in, told_of}
use Rattle.ol_object_spans.proofs.BadLaws.{Ends}
use Rattle.ol_object_spans.proofs.HeaderLaws.{headers_begin, headers_pass, headers_same, none_live}
use Rattle.ol_object_spans.proofs.ObjectLaws.{SpanSays, ended_by, object_is, placing, span_says, started_same}
use Rattle.ol_object_spans.proofs.OutsideLaws.{outside_bytes, outside_is, outside_left, outside_same}
use Rattle.ol_object_spans.proofs.PlaceLaws.{places_push}
use Rattle.ol_object_spans.proofs.Streams.{item_cases, no_item}

items_push : (l : List Placed) (p : Placed) → ((b : Block) → p.item ≡ Some b → IsItem b) → ((i : ℕ) (b : Block) → item_at l i ≡ Some b → IsItem b)
    → (i : ℕ) (b : Block) → item_at (l ++ p ∷ []) i ≡ Some b → IsItem b
items_push l p own are i b e = elim (item_cases l p i b e) as (λ _. IsItem b) [
  | inl old ↦ are i b old
  | inr last ↦ own b last.1
]

one_item : (p : Placed) (b : Block) → p.item ≡ Some b → IsItem b → (c : Block) → p.item ≡ Some c → IsItem c
one_item p b item is c e =
    let same : b ≡ c = (let both : Some b ≡ Some c = sym item ∙ e in cc) in
    subst IsItem same is

-- headers behind a block, by the count of the scan
passed_at : (l : List Placed) (p : Placed) (old : ScanState) (h : Headers) (block : Option ReadBlock) → HasScanned l (l ++ p ∷ []) l old
    → block ≡ option_map told_of p.item → HasPassed old.count (place_told p) block old.headers h → HasPassed (length l) (place_told p) (option_map told_of p.item) old.headers h
passed_at l p old h block is e has =
    subst (λ n. HasPassed n (place_told p) (option_map told_of p.item) old.headers h) is.count (subst (λ b. HasPassed old.count (place_told p) b old.headers h) e has)

-- ---- bytes that are no block

pub scan_bytes : (l : List Placed) (p : Placed) (old : ScanState) (h : Headers) → p.item ≡ None → HasScanned l (l ++ p ∷ []) l old
    → HasPassed old.count (place_told p) None old.headers h
    → HasScanned l (l ++ p ∷ []) (l ++ p ∷ []) (record old { headers = h; outside = outside_with old.count old.outside })
scan_bytes l p old h none is has =
    let same : started (l ++ p ∷ []) ≡ started l = started_same l p (λ b s e. absurd (no_item p.item b none e)) in
    let passed = passed_at l p old h None is (sym (ap (option_map told_of) none)) has in
    record {
      count = is.count;
      places = is.places;
      headers = headers_same l p h (λ b e k i. no_item p.item b none e) (headers_pass l p old.headers h is.headers passed);
      starts = is.starts ∙ ap (map (λ (q : ℕ × Object). q.0)) (sym same);
      objects = is.objects ∙ ap (map (λ (q : ℕ × Object). object_told q.1)) (sym same);
      outside = subst (λ n. IsOutside (l ++ p ∷ []) (outside_with n old.outside)) (sym is.count) (outside_bytes l p old.outside none is.outside);
      items = items_push l p (λ b e. absurd (no_item p.item b none e)) is.items;
    }

-- ---- a block that ends no object

-- what is known of a block that comes next
pub record Comes (l : List Placed) (p : Placed) (b : Block) (old : ScanState) : Type 0 where
  pub own : IsItem b
  pub item : p.item ≡ Some b
  pub scanned : HasScanned l (l ++ p ∷ []) l old

not_spanned : (l : List Placed) (p : Placed) (b : Block) (old : ScanState) → Comes l p b old → span_of (head_told b) old.count ≡ None
    → (s : ℕ) → is_span b s (length l) ≡ false
not_spanned l p b old c none = subst (SpanSays b (length l)) (ap (span_of (head_told b)) (sym c.scanned.count) ∙ none) (span_says b (length l))

scan_with : (l : List Placed) (p : Placed) (b : Block) (old : ScanState) (h : Headers) → Comes l p b old → span_of (head_told b) old.count ≡ None
    → AreHeaders (l ++ p ∷ []) (length (l ++ p ∷ [])) h → HasScanned l (l ++ p ∷ []) (l ++ p ∷ []) (record old { headers = h })
scan_with l p b old h c none headers =
    let is = c.scanned in
    let not_ = not_spanned l p b old c none in
    let same : started (l ++ p ∷ []) ≡ started l = started_same l p (λ d s e.
    let one : b ≡ d = (let both : Some b ≡ Some d = sym c.item ∙ e in cc) in ap (λ x. is_span x s (length l)) (sym one) ∙ not_ s) in
    record {
      count = is.count;
      places = is.places;
      headers = headers;
      starts = is.starts ∙ ap (map (λ (q : ℕ × Object). q.0)) (sym same);
      objects = is.objects ∙ ap (map (λ (q : ℕ × Object). object_told q.1)) (sym same);
      outside = outside_same l p b old.outside c.item not_ is.outside;
      items = items_push l p (one_item p b c.item c.own) is.items;
    }

pub scan_on : (l : List Placed) (p : Placed) (b : Block) (old : ScanState) (h : Headers) → Comes l p b old → span_of (head_told b) old.count ≡ None
    → (b.kind ≡ header_kind → b.index ≡ 0 → ⊥) → HasPassed old.count (place_told p) (Some (told_of b)) old.headers h
    → HasScanned l (l ++ p ∷ []) (l ++ p ∷ []) (record old { headers = h })
scan_on l p b old h c none other has =
    let passed = passed_at l p old h (Some (told_of b)) c.scanned (sym (ap (option_map told_of) c.item)) has in
    scan_with l p b old h c none (headers_same l p h (λ d e k i.
    let one : d ≡ b = (let both : Some d ≡ Some b = sym e ∙ c.item in cc) in
    other (ap (λ (x : Block). x.kind) (sym one) ∙ k) (ap (λ (x : Block). x.index) (sym one) ∙ i)) (headers_pass l p old.headers h c.scanned.headers passed))

pub scan_begun : (l : List Placed) (p : Placed) (b : Block) (old : ScanState) (mid h : Headers) → Comes l p b old → span_of (head_told b) old.count ≡ None
    → b.kind ≡ header_kind → b.index ≡ 0 → HasPassed old.count (place_told p) (Some (told_of b)) old.headers mid
    → h.stopped ≡ mid.stopped → h.live ≡ begun old.count (told_of b)
    → HasScanned l (l ++ p ∷ []) (l ++ p ∷ []) (record old { headers = h })
scan_begun l p b old mid h c none kind index has stopped live =
    let passed = passed_at l p old mid (Some (told_of b)) c.scanned (sym (ap (option_map told_of) c.item)) has in
    scan_with l p b old h c none
    (headers_begin l p b mid h c.item kind index c.own (none_live l p b old.headers mid c.item index c.scanned.headers passed) stopped
    (live ∙ ap (λ n. begun n (told_of b)) c.scanned.count) (headers_pass l p old.headers mid c.scanned.headers passed))

-- ---- a block that ends an object

both_ok : {T E : Type 0} (r : Result T E) (P Q R : Type 0) → OnOk r P → OnOk r Q → (P → Q → R) → OnOk r R
both_ok (Ok x) P Q R p q f = f p q
both_ok (Err e) P Q R p q f = tt

ends : (l : List Placed) (p : Placed) (b : Block) (old : ScanState) (span : Span) → Comes l p b old → SpanSays b (length l) (Some span)
    → eqb b.kind mark_kind ≡ false → Ends l p b old.headers span.start
ends l p b old span c says not_ =
    let trailer = says.3 not_ in
    record { item = c.item; kind = trailer.0; back = trailer.1; headers = c.scanned.headers; own = c.own; items = c.scanned.items }

spanned : (l : List Placed) (p : Placed) (b : Block) (old : ScanState) (span : Span) → Comes l p b old → span_of (head_told b) old.count ≡ Some span
    → SpanSays b (length l) (Some span)
spanned l p b old span c some = subst (SpanSays b (length l)) (ap (span_of (head_told b)) (sym c.scanned.count) ∙ some) (span_says b (length l))

not_header : (b : Block) (n : ℕ) (span : Span) → SpanSays b n (Some span) → b.kind ≡ header_kind → ⊥
not_header b n span says kind =
    let e : eqb b.kind mark_kind ≡ false = ap (λ k. eqb k mark_kind) kind in
    absurd (omega (arith, kind, (says.3 e).0))

pub scan_ended : {E : Type 0} (l : List Placed) (p : Placed) (b : Block) (old : ScanState) (h : Headers) (span : Span) (o : told.Object) (new : Objects) (r : Result (Unit {0}) E)
    → Comes l p b old → span_of (head_told b) old.count ≡ Some span → HasPassed old.count (place_told p) (Some (told_of b)) old.headers h
    → o ≡ object_by old.headers span (place_in old.runs.items span.start) (place_told p) (told_of b)
    → ((front back : List ℕ) → old.objects.starts.items ≡ front ++ back → All (λ s. s ≤ span.start) front → All (λ s. span.start < s) back
    → length old.objects.list.items ≡ length old.objects.starts.items → OnOk r (new.starts.items ≡ front ++ span.start ∷ back))
    → ((front back : List ℕ) → old.objects.starts.items ≡ front ++ back → All (λ s. s ≤ span.start) front → All (λ s. span.start < s) back
    → (one two : List told.Object) → old.objects.list.items ≡ one ++ two → length one ≡ length front → OnOk r (new.list.items ≡ one ++ o ∷ two))
    → OnOk r (HasScanned l (l ++ p ∷ []) (l ++ p ∷ []) (record old { headers = h; objects = new; outside = left_before span.start old.outside }))
scan_ended l p b old h span o new r c some has object starts list =
    let is = c.scanned in
    let k : ℕ = span.start in
    let m : List Placed = l ++ p ∷ [] in
    let says = spanned l p b old span c some in
    let at = placing l p b k c.item says.0 says.2 in
    let first : ℕ × Object → ℕ = λ q. q.0 in
    let shown : ℕ × Object → told.Object = λ q. object_told q.1 in
    let one_start : old.objects.starts.items ≡ map first at.front ++ map first at.back = is.starts ∙ ap (map first) at.old ∙ map-append first at.front at.back in
    let one_list : old.objects.list.items ≡ map shown at.front ++ map shown at.back = is.objects ∙ ap (map shown) at.old ∙ map-append shown at.front at.back in
    let long : length old.objects.list.items ≡ length old.objects.starts.items =
    ap (λ (x : List told.Object). length x) is.objects ∙ length-map (started l) shown ∙ sym (length-map (started l) first) ∙ ap (λ (x : List ℕ). length x) (sym is.starts) in
    let passed = passed_at l p old h (Some (told_of b)) is (sym (ap (option_map told_of) c.item)) has in
    let place : place_in old.runs.items k ≡ place_told (block_at m k) = is.places k (omega (arith, says.0, length_push l p)) in
    let told_is : o ≡ object_told (ended_by l p b k) =
    object ∙ ap (λ x. object_by old.headers span x (place_told p) (told_of b)) place ∙ object_is l p b old.headers span says (ends l p b old span c says) in
    both_ok r (new.starts.items ≡ map first at.front ++ k ∷ map first at.back) (new.list.items ≡ map shown at.front ++ o ∷ map shown at.back)
    (HasScanned l m m (record old { headers = h; objects = new; outside = left_before k old.outside }))
    (starts (map first at.front) (map first at.back) one_start at.low at.high long)
    (list (map first at.front) (map first at.back) one_start at.low at.high (map shown at.front) (map shown at.back) one_list
    (length-map at.front shown ∙ sym (length-map at.front first)))
    (λ new_starts new_list. record {
      count = is.count;
      places = is.places;
      headers = headers_same l p h (λ d e kind i.
          let same : d ≡ b = (let both : Some d ≡ Some b = sym e ∙ c.item in cc) in
          not_header b (length l) span says (ap (λ (x : Block). x.kind) (sym same) ∙ kind)) (headers_pass l p old.headers h is.headers passed);
      starts = new_starts ∙ sym (map-append first at.front ((k, ended_by l p b k) ∷ at.back)) ∙ ap (map first) (sym at.new);
      objects = new_list ∙ ap (λ x. map shown at.front ++ x ∷ map shown at.back) told_is
          ∙ sym (map-append shown at.front ((k, ended_by l p b k) ∷ at.back)) ∙ ap (map shown) (sym at.new);
      outside = outside_left l p b k old.outside c.item says.0 says.2 is.outside;
      items = items_push l p (one_item p b c.item c.own) is.items;
    })

-- ---- the whole

started_told : (l : List Placed) (starts : List ℕ)
    → map (λ (q : ℕ × Object). object_told q.1) (flat_map (started_from l) starts) ≡ map object_told (flat_map (objects_from l) starts)
started_told l [] = refl
started_told l (s ∷ starts) =
    map-append (λ (q : ℕ × Object). object_told q.1) (started_from l s) (flat_map (started_from l) starts)
    ∙ (λ i. map-map (λ (q : ℕ × Object). object_told q.1) (λ (o : Object). (s, o)) (objects_from l s) i ++ started_told l starts i)
    ∙ sym (map-append object_told (objects_from l s) (flat_map (objects_from l) starts))

pub scan_objects : (l : List Placed) (s : ScanState) → HasScanned l l l s → s.objects.list.items ≡ map object_told (objects_of l)
scan_objects l s is = is.objects ∙ started_told l (range_with_len 0 (length l))

places_outside : (l : List Placed) (s : ScanState) (o : Option ℕ) → HasScanned l l l s → IsOutside l o
    → option_map (place_in s.runs.items) o ≡ option_map (λ j. place_told (block_at l j)) o
places_outside l s None is outside = refl
places_outside l s (Some j) is outside = ap (λ x. Some x) (is.places j outside.there)

pub scan_outside : (l : List Placed) (s : ScanState) → HasScanned l l l s → AreRising l → option_map (place_in s.runs.items) s.outside ≡ option_map place_told (first_outside l)
scan_outside l s is rising = places_outside l s s.outside is is.outside ∙ outside_is l s.outside is.outside rising

-- a scan that has noted the place of the next block
pub scan_noted : (l : List Placed) (p : Placed) (s noted : ScanState) → HasScanned l l l s → noted.runs.items ≡ runs_with s.runs.items s.count (place_told p)
    → noted ≡ record s { runs = noted.runs } → HasScanned l (l ++ p ∷ []) l noted
scan_noted l p s noted is runs same =
    subst (HasScanned l (l ++ p ∷ []) l) (sym same) (record {
      count = is.count;
      places = λ i below. ap (λ x. place_in x i) (runs ∙ ap (λ n. runs_with s.runs.items n (place_told p)) is.count) ∙ places_push l p s.runs.items is.places i below;
      headers = is.headers;
      starts = is.starts;
      objects = is.objects;
      outside = is.outside;
      items = is.items;
    })

pub scan_counted : (l : List Placed) (p : Placed) (s : ScanState) (count : ℕ) → HasScanned l (l ++ p ∷ []) (l ++ p ∷ []) s → count ≡ length l + 1
    → HasScanned (l ++ p ∷ []) (l ++ p ∷ []) (l ++ p ∷ []) (record s { count = count })
scan_counted l p s count is e = record {
  count = e ∙ sym (length_push l p);
  places = is.places;
  headers = is.headers;
  starts = is.starts;
  objects = is.objects;
  outside = is.outside;
  items = is.items;
}

pub readable_told : (b : Option Block) → readable_in (option_map told_of b) ≡ option_map told_of (readable_item b)
readable_told None = refl
readable_told (Some b) =
    elim (leb b.incarnation 1152921504606846976 && leb b.number 1152921504606846976) as (λ t. (if t then Some (told_of b) else None) ≡ option_map told_of (if t then Some b else None)) [
      | true ↦ refl
      | false ↦ refl
    ]

pub readable_kept : (b : Option Block) → IsItemIn b → IsItemIn (readable_item b)
readable_kept None is = is
readable_kept (Some b) is =
    elim (leb b.incarnation 1152921504606846976 && leb b.number 1152921504606846976) as (λ t. IsItemIn (if t then Some b else None)) [
      | true ↦ is
      | false ↦ tt
    ]
