-- The headers of a stream with one more block.
use Rattle.std.proofs.Common.{◌≡◌, ℕ, ◌+◌, ◌-◌, ◌<◌, ◌≤◌, ◌++◌, ◌∙◌, ◌⊎◌, Bool, Some, None, Option, List, [], ◌∷◌, ap, arith, drop, eqb, inl, inr, length, option_map, refl, subst, sym, true, false}
use Rattle.std.specs.List.{All}
use Rattle.std.specs.List.Sorted.{IsNonDecreasingBy}
use Rattle.std.specs.Prelude.{find, if◌then◌else◌, is_some, ◌&&◌}
use Rattle.std.proofs.lemmas.Bool.{and_left, and_right, cases_lt, eq-eqb, ne_eqb}
use Rattle.std.proofs.lemmas.List.{drop_at, length_push}
use Rattle.std.proofs.lemmas.List.Elements.{All-push, All-weaker}
use Rattle.std.proofs.lemmas.List.Sorted.{IsNonDecreasingBy-push}
use Rattle.std.proofs.lemmas.Slice.Eq.{bytes_eq-Decides}
use Rattle.ol_values.specs.Blocks.{Block, Empty, HeadHeld, LogHeld, PageHeld, Payload, Saved, header_kind, page_kind, records_kind}
use Rattle.ol_rules.specs.Shelf.{Placed, Reached, belongs, reach_on, reached_by, same_payload, same_saved}
use Rattle.ol_object_spans.specs.declared.header.Header.{Header}
use Rattle.ol_object_spans.specs.declared.header.Live.{Live}
use Rattle.ol_object_spans.specs.declared.header.Progress.{Progress}
use Rattle.ol_object_spans.specs.declared.header.Stopped.{Stopped}
use Rattle.ol_object_spans.specs.declared.headers.Headers.{Headers}
use Rattle.ol_object_spans.specs.declared.place.Place.{Place}
use Rattle.ol_object_spans.specs.Follows.{advanced, ends_as, follows, inner_follows}
use Rattle.ol_object_spans.specs.Objects.{first_place, place_told}
use Rattle.ol_object_spans.specs.Passing.{HasGone, HasPassed, HasPassedBy, begun, goes_to, start_of, starts_at}
use Rattle.ol_object_spans.specs.Scans.{AreBefore, AreHeaders, GoesOnFrom, IsHeaderAt, IsHeaderOf, IsLive, IsLiveOf, IsStoppedOf, course, item_at, reached, unread}
use Rattle.ol_object_spans.specs.Told.{IsEndHeld, IsItem, head_told, told_of}
use Rattle.ol_object_spans.proofs.StepLaws.{advanced_same, ends_same, follows_same, header_told, held_same}
use Rattle.ol_object_spans.proofs.Streams.{course_on, found_last, found_left, item_cases, item_inside, item_kept, item_last}

-- ---- what is kept

pub first_appended : (bad more : List Placed) (q : Place) → first_place bad ≡ Some q → first_place (bad ++ more) ≡ Some q
first_appended [] more q e = absurd (cc)
first_appended (x ∷ bad) more q e = e

bad_kept : (r : Reached) (b : Block) → (reached_by r b).bad ≡ r.bad
bad_kept r b =
    elim (eqb b.kind page_kind) as (λ t.
    (let s : Reached = (if t then record r { space = b.a; page = b.b + 1 } else (if eqb b.kind records_kind then record r { position = b.a + b.b; sure = true } else r)) in s).bad ≡ r.bad) [
      | true ↦ refl
      | false ↦ elim (eqb b.kind records_kind) as (λ t. (let s : Reached = (if t then record r { position = b.a + b.b; sure = true } else r) in s).bad ≡ r.bad) [
        | true ↦ refl
        | false ↦ refl
      ]
    ]

-- the first bad block of a span stays the first
pub keeps_first : (h : Block) (r : Reached) (p : Placed) (i : ℕ) (item : Option Block) (q : Place) → first_place r.bad ≡ Some q → first_place (reach_on h r p i item).bad ≡ Some q
keeps_first h r p i None q e = first_appended r.bad (p ∷ []) q e
keeps_first h r p i (Some b) q e =
    elim (belongs h r i b) as (λ t. first_place (let s : Reached = (if t then reached_by r b else record r { sure = false; bad = r.bad ++ p ∷ [] }) in s).bad ≡ Some q) [
      | true ↦ ap first_place (bad_kept r b) ∙ e
      | false ↦ first_appended r.bad (p ∷ []) q e
    ]

header_at_kept : (l : List Placed) (p : Placed) (s : ℕ) (h : Block) → IsHeaderAt l s h → IsHeaderAt (l ++ p ∷ []) s h
header_at_kept l p s h is = record { item = item_kept l p s h is.item; kind = is.kind; index = is.index }

header_kept : (l : List Placed) (p : Placed) (x : Header) (h : Block) → IsHeaderOf l x h → IsHeaderOf (l ++ p ∷ []) x h
header_kept l p x h is = record { there = header_at_kept l p x.start h is.there; head = is.head; held = is.held }

pub start_inside : (l : List Placed) (x : Header) (h : Block) → IsHeaderOf l x h → x.start < length l
start_inside l x h is = item_inside l x.start h is.there.item

pub header_is : (l : List Placed) (x : Header) (h : Block) → IsHeaderOf l x h → x ≡ header_told x.start h
header_is l x h is = λ i. record { start = x.start; head = is.head i; held = is.held i }

pub header_back : (l : List Placed) (p : Placed) (s : ℕ) (h : Block) → s < length l → IsHeaderAt (l ++ p ∷ []) s h → IsHeaderAt l s h
header_back l p s h below is = record {
  item = elim (item_cases l p s h is.item) as (λ _. item_at l s ≡ Some h) [
    | inl old ↦ old
    | inr last ↦ absurd (omega (arith, last.0))
  ];
  kind = is.kind;
  index = is.index;
}

stopped_kept : (l : List Placed) (p : Placed) (x : Stopped) → IsStoppedOf l x → IsStoppedOf (l ++ p ∷ []) x
stopped_kept l p x is = record {
  block = is.block;
  header = header_kept l p x.header is.block is.header;
  come =
      let in_ : x.header.start < length l = start_inside l x.header is.block is.header in
      ap (λ (r : Reached). first_place r.bad) (course_on is.block l p x.header.start (omega arith))
      ∙ keeps_first is.block (course is.block (drop x.header.start l)) p (length l - x.header.start) p.item x.bad is.come;
}

-- ---- the span that goes on

pub follows_is : (l : List Placed) (x : Live) (is : IsLiveOf l x) (b : Block)
    → follows x.header x.progress (length l - x.header.start) (told_of b) ≡ belongs is.block (reached x.progress) (length l - x.header.start) b
follows_is l x is b =
    let in_ : x.header.start < length l = start_inside l x.header is.block is.header in
    ap (λ y. follows y x.progress (length l - x.header.start) (told_of b)) (header_is l x.header is.block is.header)
    ∙ follows_same x.header.start is.block b x.progress (length l - x.header.start) is.header.there.index (omega arith)

live_on : (l : List Placed) (p : Placed) (x : Live) (is : IsLiveOf l x) (b : Block) → p.item ≡ Some b
    → course is.block (drop x.header.start (l ++ p ∷ []))
    ≡ (if follows x.header x.progress (length l - x.header.start) (told_of b) then reached (advanced x.progress (head_told b))
    else record (reached x.progress) { sure = false; bad = p ∷ [] })
live_on l p x is b e =
    let in_ : x.header.start < length l = start_inside l x.header is.block is.header in
    course_on is.block l p x.header.start (omega arith)
    ∙ ap (λ r. reach_on is.block r p (length l - x.header.start) p.item) is.come
    ∙ ap (λ (item : Option Block). reach_on is.block (reached x.progress) p (length l - x.header.start) item) e
    ∙ (λ i. if sym (follows_is l x is b) i then advanced_same x.progress b i else record (reached x.progress) { sure = false; bad = p ∷ [] })

abbrev Outcome : List Placed → Placed → Live → Option Progress → Type 0
Outcome l p x None = IsStoppedOf (l ++ p ∷ []) (record { header = x.header; bad = place_told p })
Outcome l p x (Some progress) = IsLiveOf (l ++ p ∷ []) (record { header = x.header; progress = progress })

goes : (l : List Placed) (p : Placed) (x : Live) → IsLiveOf l x → (item : Option Block) → p.item ≡ item
    → Outcome l p x (goes_to x (length l) (option_map told_of item))
goes l p x is None e = record {
  block = is.block;
  header = header_kept l p x.header is.block is.header;
  come =
      let in_ : x.header.start < length l = start_inside l x.header is.block is.header in
      ap (λ (r : Reached). first_place r.bad) (
      course_on is.block l p x.header.start (omega arith)
      ∙ ap (λ r. reach_on is.block r p (length l - x.header.start) p.item) is.come
      ∙ ap (λ (item : Option Block). reach_on is.block (reached x.progress) p (length l - x.header.start) item) e
      );
}
goes l p x is (Some b) e =
    elim (follows x.header x.progress (length l - x.header.start) (told_of b)) as (λ t.
    course is.block (drop x.header.start (l ++ p ∷ []))
    ≡ (if t then reached (advanced x.progress (head_told b)) else record (reached x.progress) { sure = false; bad = p ∷ [] })
    → Outcome l p x (if t then Some (advanced x.progress (head_told b)) else None)) [
      | true ↦ λ c. record { block = is.block; header = header_kept l p x.header is.block is.header; come = c }
      | false ↦ λ c. record { block = is.block; header = header_kept l p x.header is.block is.header; come = ap (λ (r : Reached). first_place r.bad) c }
    ] (live_on l p x is b e)

-- ---- all headers

still_found : (s : ℕ) (old new more : List Stopped) → new ≡ old ++ more → is_some (find (starts_at s) old) ≡ true → is_some (find (starts_at s) new) ≡ true
still_found s old new more e f = ap (λ items. is_some (find (starts_at s) items)) e ∙ found_left (starts_at s) old more f

gone : (l : List Placed) (p : Placed) (old new : Headers) (x : Live) → old.live ≡ Some x → AreHeaders l (length l) old
    → (r : Option Progress) → Outcome l p x r → HasGone (place_told p) x.header old new r → AreHeaders (l ++ p ∷ []) (length l) new
gone l p old new x live is None outcome has =
    let s : Stopped = record { header = x.header; bad = place_told p } in
    record {
      stopped = subst (λ items. All (IsStoppedOf (l ++ p ∷ [])) items) (sym has.1)
          (All-push (IsStoppedOf (l ++ p ∷ [])) old.stopped.items s (All-weaker (IsStoppedOf l) (IsStoppedOf (l ++ p ∷ [])) (stopped_kept l p) old.stopped.items is.stopped) outcome);
      live = subst (IsLive (l ++ p ∷ [])) (sym has.0) tt;
      rising = subst (IsNonDecreasingBy start_of) (sym has.1)
          (IsNonDecreasingBy-push start_of old.stopped.items s is.rising (λ d some. let all = subst (AreBefore old.stopped.items) live is.before in all (length old.stopped.items - 1) d (omega arith)));
      before = subst (AreBefore new.stopped.items) (sym has.0) tt;
      all = λ k b below at. elim (is.all k b below (header_back l p k b below at)) as (λ _. GoesOnFrom k new.live ⊎ (is_some (find (starts_at k) new.stopped.items) ≡ true)) [
        | inl on ↦
            let same : x.header.start ≡ k = subst (GoesOnFrom k) live on in
            inr (ap (λ items. is_some (find (starts_at k) items)) has.1 ∙ found_last (starts_at k) old.stopped.items s (eq-eqb x.header.start k same))
        | inr found ↦ inr (still_found k old.stopped.items new.stopped.items (s ∷ []) has.1 found)
      ];
    }
gone l p old new x live is (Some progress) outcome has = record {
  stopped = subst (λ items. All (IsStoppedOf (l ++ p ∷ [])) items) (sym has.1)
      (All-weaker (IsStoppedOf l) (IsStoppedOf (l ++ p ∷ [])) (stopped_kept l p) old.stopped.items is.stopped);
  live = subst (IsLive (l ++ p ∷ [])) (sym has.0) outcome;
  rising = subst (IsNonDecreasingBy start_of) (sym has.1) is.rising;
  before = subst (AreBefore new.stopped.items) (sym has.0) (subst (λ items. All (λ (s : Stopped). s.header.start ≤ x.header.start) items) (sym has.1) (subst (AreBefore old.stopped.items) live is.before));
  all = λ k b below at. elim (is.all k b below (header_back l p k b below at)) as (λ _. GoesOnFrom k new.live ⊎ (is_some (find (starts_at k) new.stopped.items) ≡ true)) [
    | inl on ↦ inl (subst (GoesOnFrom k) (sym has.0) (let same : x.header.start ≡ k = subst (GoesOnFrom k) live on in same))
    | inr found ↦ inr (ap (λ items. is_some (find (starts_at k) items)) has.1 ∙ found)
  ];
}

pass_by : (l : List Placed) (p : Placed) (old new : Headers) (live : Option Live) → old.live ≡ live → AreHeaders l (length l) old
    → HasPassedBy (length l) (place_told p) (option_map told_of p.item) old new live → AreHeaders (l ++ p ∷ []) (length l) new
pass_by l p old new None none is has = record {
  stopped = subst (λ items. All (IsStoppedOf (l ++ p ∷ [])) items) (sym has.1)
      (All-weaker (IsStoppedOf l) (IsStoppedOf (l ++ p ∷ [])) (stopped_kept l p) old.stopped.items is.stopped);
  live = subst (IsLive (l ++ p ∷ [])) (sym has.0) tt;
  rising = subst (IsNonDecreasingBy start_of) (sym has.1) is.rising;
  before = subst (AreBefore new.stopped.items) (sym has.0) tt;
  all = λ k b below at. elim (is.all k b below (header_back l p k b below at)) as (λ _. GoesOnFrom k new.live ⊎ (is_some (find (starts_at k) new.stopped.items) ≡ true)) [
    | inl on ↦ absurd (subst (GoesOnFrom k) none on)
    | inr found ↦ inr (ap (λ items. is_some (find (starts_at k) items)) has.1 ∙ found)
  ];
}
pass_by l p old new (Some x) some is has =
    gone l p old new x some is (goes_to x (length l) (option_map told_of p.item)) (goes l p x (subst (IsLive l) some is.live) p.item refl) has

-- the headers behind a block, of which that block itself is not yet one
pub headers_pass : (l : List Placed) (p : Placed) (old new : Headers) → AreHeaders l (length l) old
    → HasPassed (length l) (place_told p) (option_map told_of p.item) old new → AreHeaders (l ++ p ∷ []) (length l) new
headers_pass l p old new is has = pass_by l p old new old.live refl is has

-- a block that is no header of index 0 adds none
pub headers_same : (l : List Placed) (p : Placed) (h : Headers) → ((b : Block) → p.item ≡ Some b → b.kind ≡ header_kind → b.index ≡ 0 → ⊥)
    → AreHeaders (l ++ p ∷ []) (length l) h → AreHeaders (l ++ p ∷ []) (length (l ++ p ∷ [])) h
headers_same l p h other is = record {
  stopped = is.stopped;
  live = is.live;
  rising = is.rising;
  before = is.before;
  all = λ s b below at. elim (item_cases l p s b at.item) as (λ _. GoesOnFrom s h.live ⊎ (is_some (find (starts_at s) h.stopped.items) ≡ true)) [
    | inl old ↦ is.all s b (item_inside l s b old) at
    | inr last ↦ absurd (other b last.1 at.kind at.index)
  ];
}

-- ---- a new header

none_by : (l : List Placed) (p : Placed) (b : Block) (old new : Headers) (live : Option Live) → p.item ≡ Some b → b.index ≡ 0 → IsLive l live
    → HasPassedBy (length l) (place_told p) (option_map told_of p.item) old new live → new.live ≡ None
none_by l p b old new None item index is has = has.0
none_by l p b old new (Some x) item index is has =
    let in_ : x.header.start < length l = start_inside l x.header is.block is.header in
    let not_ : eqb b.index (length l - x.header.start) ≡ false = ne_eqb b.index (length l - x.header.start) (λ e. omega (arith, e)) in
    let o : Bool = eqb b.object x.header.head.object && (eqb b.incarnation x.header.head.incarnation && eqb b.number x.header.head.number) in
    let stops : follows x.header x.progress (length l - x.header.start) (told_of b) ≡ false =
    and_right o (eqb b.index (length l - x.header.start) && inner_follows x.header x.progress (told_of b))
    (and_left (eqb b.index (length l - x.header.start)) (inner_follows x.header x.progress (told_of b)) not_) in
    let none : goes_to x (length l) (option_map told_of p.item) ≡ None =
    ap (λ (it : Option Block). goes_to x (length l) (option_map told_of it)) item
    ∙ ap (λ t. if t then Some (advanced x.progress (head_told b)) else None) stops in
    (subst (HasGone (place_told p) x.header old new) none has).0

-- no span goes on behind a header
pub none_live : (l : List Placed) (p : Placed) (b : Block) (old new : Headers) → p.item ≡ Some b → b.index ≡ 0 → AreHeaders l (length l) old
    → HasPassed (length l) (place_told p) (option_map told_of p.item) old new → new.live ≡ None
none_live l p b old new item index is has = none_by l p b old new old.live item index is.live has

saved_self : (spaces : List Saved) → same_saved spaces spaces ≡ true
saved_self [] = refl
saved_self (s ∷ spaces) = λ i.
    eq-eqb s.space s.space refl i && (eq-eqb s.parent s.parent refl i && (eq-eqb s.base s.base refl i && saved_self spaces i))

pub payload_self : (payload : Payload) → IsEndHeld payload → same_payload payload payload ≡ true
payload_self Empty is = refl
payload_self (HeadHeld head config) is = λ i. saved_self head.spaces i && (bytes_eq-Decides head.text head.text).1 refl i
payload_self (PageHeld page) is = absurd is
payload_self (LogHeld page) is = absurd is

ends_self : (s : ℕ) (b : Block) → same_payload b.payload b.payload ≡ true → ends_as (header_told s b) (told_of b) ≡ true
ends_self s b e = λ i.
    (eq-eqb b.object b.object refl i && (eq-eqb b.incarnation b.incarnation refl i && eq-eqb b.number b.number refl i))
    && (eq-eqb b.a b.a refl i && (eq-eqb b.b b.b refl i && (eq-eqb b.c b.c refl i && (held_same b.payload b.payload ∙ e) i)))

course_begun : (l : List Placed) (p : Placed) (b : Block) → p.item ≡ Some b → b.kind ≡ header_kind → b.index ≡ 0 → IsItem b
    → course b (drop (length l) (l ++ p ∷ [])) ≡ unread b
course_begun l p b item kind index is =
    ap (course b) (drop_at l (p ∷ []) (length l) refl)
    ∙ ap (λ (it : Option Block). reach_on b (unread b) p 0 it) item
    ∙ ap (λ t. if t then reached_by (unread b) b else record (unread b) { sure = false; bad = p ∷ [] })
    (ends_same 0 b b (unread b) kind index ∙ ends_self 0 b (payload_self b.payload (is.header kind)))
    ∙ ap (λ k. if eqb k page_kind then record (unread b) { space = b.a; page = b.b + 1 } else (if eqb k records_kind then record (unread b) { position = b.a + b.b; sure = true } else unread b)) kind

-- a header begins a span
pub headers_begin : (l : List Placed) (p : Placed) (b : Block) (mid new : Headers) → p.item ≡ Some b → b.kind ≡ header_kind → b.index ≡ 0 → IsItem b
    → mid.live ≡ None → new.stopped ≡ mid.stopped → new.live ≡ begun (length l) (told_of b)
    → AreHeaders (l ++ p ∷ []) (length l) mid → AreHeaders (l ++ p ∷ []) (length (l ++ p ∷ [])) new
headers_begin l p b mid new item kind index is none stopped live are = record {
  stopped = subst (λ v. All (IsStoppedOf (l ++ p ∷ [])) v.items) (sym stopped) are.stopped;
  live = subst (IsLive (l ++ p ∷ [])) (sym live) (record {
    block = b;
    header = record { there = record { item = item_last l p ∙ item; kind = kind; index = index }; head = refl; held = refl };
    come = course_begun l p b item kind index is;
  });
  rising = subst (λ v. IsNonDecreasingBy start_of v.items) (sym stopped) are.rising;
  before = subst (AreBefore new.stopped.items) (sym live) (subst (λ v. All (λ (s : Stopped). s.header.start ≤ length l) v.items) (sym stopped)
      (All-weaker (IsStoppedOf (l ++ p ∷ [])) (λ (s : Stopped). s.header.start ≤ length l)
      (λ s of. omega (arith, start_inside (l ++ p ∷ []) s.header of.block of.header, length_push l p)) mid.stopped.items are.stopped));
  all = λ s c below at. elim (cases_lt s (length l)) as (λ _. GoesOnFrom s new.live ⊎ (is_some (find (starts_at s) new.stopped.items) ≡ true)) [
    | inl before ↦ elim (are.all s c before at) as (λ _. GoesOnFrom s new.live ⊎ (is_some (find (starts_at s) new.stopped.items) ≡ true)) [
      | inl on ↦ absurd (subst (GoesOnFrom s) none on)
      | inr found ↦ inr (ap (λ v. is_some (find (starts_at s) v.items)) stopped ∙ found)
    ]
    | inr behind ↦
        let same : length l ≡ s = omega (arith, length_push l p) in
        inl (subst (GoesOnFrom s) (sym live) same)
  ];
}
