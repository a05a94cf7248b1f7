-- The first bad block of the object of a trailer, from the headers before it.
use Rattle.std.proofs.Common.{◌≡◌, ℕ, ◌+◌, ◌-◌, ◌<◌, ◌≤◌, ◌++◌, ◌∙◌, Bool, Some, None, Ok, Option, List, [], ◌∷◌, ap, arith, bytes_eq, drop, eqb, fold, inl, inr, length, length-drop, refl, subst, suc, sym, zero, true, false}
use Rattle.std.specs.List.{enumerate_from}
use Rattle.std.specs.Prelude.{find, if◌then◌else◌, is_some, ◌&&◌}
use Rattle.std.proofs.lemmas.Bool.{and_parts, cases_lt, eq-eqb, eqb-false, eqb-true, false_from_ne_true, false≢true, ne_eqb}
use Rattle.std.proofs.lemmas.List.{drop_more, length_push}
use Rattle.std.proofs.lemmas.Slice.Eq.{bytes_eq-Decides}
use Rattle.ol_values.specs.Blocks.{ArchiveHead, Block, Empty, HeadHeld, LogHeld, PageHeld, Payload, Saved, header_kind, page_kind, records_kind, trailer_kind}
use Rattle.ol_values.specs.Config.{Config}
use Rattle.ol_chunks.specs.Reading.{config_in_text}
use Rattle.ol_rules.specs.Shelf.{Placed, Reached, belongs, end_belongs, has_all, inner_belongs, reach_on, reached_by, same_payload, same_saved}
use Rattle.ol_object_spans.specs.declared.header.Header.{Header}
use Rattle.ol_object_spans.specs.declared.header.Live.{Live}
use Rattle.ol_object_spans.specs.declared.header.Stopped.{Stopped}
use Rattle.ol_object_spans.specs.declared.headers.Headers.{Headers}
use Rattle.ol_object_spans.specs.declared.place.Place.{Place}
use Rattle.ol_object_spans.specs.Follows.{ends_as, has_come}
use Rattle.ol_object_spans.specs.Objects.{first_place, place_told}
use Rattle.ol_object_spans.specs.Passing.{bad_of_live, bad_of_stopped, bad_told, starts_at}
use Rattle.ol_object_spans.specs.Scans.{AreHeaders, GoesOnFrom, IsHeaderAt, IsHeaderOf, IsLive, IsLiveOf, IsStoppedOf, block_at, course, item_at, no_block, reached, unread}
use Rattle.ol_object_spans.specs.Told.{IsItem, held_told, same_held, told_of}
use Rattle.ol_object_spans.proofs.HeaderLaws.{header_back, header_is, keeps_first, start_inside}
use Rattle.ol_object_spans.proofs.StepLaws.{ends_same, header_told, held_same}
use Rattle.ol_object_spans.proofs.Streams.{course_on, found_is, item_last}

-- ---- an object as its header sees it

-- a trailer with the fields of a header
abbrev trailer_of : Block → ℕ → Block
trailer_of h n = record h { kind = trailer_kind; index = n }

belongs_on : (h : Block) (n i : ℕ) (r : Reached) (c : Block) → h.index ≡ 0 → i < n → belongs (trailer_of h n) r i c ≡ belongs h r i c
belongs_on h n zero r c index below = refl
belongs_on h n (suc i) r c index below =
    let one : eqb (suc i) n ≡ false = ne_eqb (suc i) n (λ e. omega (arith, e)) in
    let other : eqb (suc i) h.index ≡ false = ne_eqb (suc i) h.index (λ e. omega (arith, e, index)) in
    ap (λ t. eqb c.object h.object && (eqb c.incarnation h.incarnation && (eqb c.number h.number && (eqb c.index (suc i) && (if eqb (suc i) 0 then end_belongs header_kind h c else t)))))
    (ap (λ t. if t then end_belongs trailer_kind (trailer_of h n) c && has_all r (trailer_of h n) else inner_belongs r h c) one
    ∙ sym (ap (λ t. if t then end_belongs trailer_kind h c && has_all r h else inner_belongs r h c) other))

reach_same : (h : Block) (n i : ℕ) (r : Reached) (p : Placed) (item : Option Block) → h.index ≡ 0 → i < n
    → reach_on (trailer_of h n) r p i item ≡ reach_on h r p i item
reach_same h n i r p None index below = refl
reach_same h n i r p (Some c) index below =
    ap (λ t. if t then reached_by r c else record r { sure = false; bad = r.bad ++ p ∷ [] }) (belongs_on h n i r c index below)

fold_same : (h : Block) (n i : ℕ) (r : Reached) (span : List Placed) → h.index ≡ 0 → i + length span ≤ n
    → fold (λ (r : Reached) (p : ℕ × Placed). reach_on (trailer_of h n) r p.1 p.0 p.1.item) r (enumerate_from i span)
    ≡ fold (λ (r : Reached) (p : ℕ × Placed). reach_on h r p.1 p.0 p.1.item) r (enumerate_from i span)
fold_same h n i r [] index below = refl
fold_same h n i r (p ∷ span) index below =
    ap (λ s. fold (λ (r : Reached) (p : ℕ × Placed). reach_on (trailer_of h n) r p.1 p.0 p.1.item) s (enumerate_from (i + 1) span)) (reach_same h n i r p p.item index (omega arith))
    ∙ fold_same h n (i + 1) (reach_on h r p i p.item) span index (omega arith)

course_same : (h : Block) (n : ℕ) (span : List Placed) → h.index ≡ 0 → length span ≤ n → course (trailer_of h n) span ≡ course h span
course_same h n span index below = fold_same h n 0 (unread h) span index (omega arith)

-- ---- a trailer that matches

saved_is : (a b : List Saved) → same_saved a b ≡ true → a ≡ b
saved_is [] [] e = refl
saved_is [] (y ∷ b) e = absurd (cc)
saved_is (x ∷ a) [] e = absurd (cc)
saved_is (x ∷ a) (y ∷ b) e =
    let s = and_parts (eqb x.space y.space) (eqb x.parent y.parent && (eqb x.base y.base && same_saved a b)) e in
    let p = and_parts (eqb x.parent y.parent) (eqb x.base y.base && same_saved a b) s.1 in
    let q = and_parts (eqb x.base y.base) (same_saved a b) p.1 in
    let space = eqb-true x.space y.space s.0 in
    let parent = eqb-true x.parent y.parent p.0 in
    let base = eqb-true x.base y.base q.0 in
    let rest = saved_is a b q.1 in
    λ i. (let z : Saved = record { space = space i; parent = parent i; base = base i } in z) ∷ rest i

config_is : (text : List ℕ) (c d : Config) → config_in_text text ≡ Ok c → config_in_text text ≡ Ok d → c ≡ d
config_is text c d e f = cc

payload_is : (p q : Payload) → ((head : ArchiveHead) (config : Config) → p ≡ HeadHeld head config → config_in_text head.text ≡ Ok config)
    → ((head : ArchiveHead) (config : Config) → q ≡ HeadHeld head config → config_in_text head.text ≡ Ok config) → same_payload p q ≡ true → p ≡ q
payload_is Empty Empty one two e = refl
payload_is Empty (HeadHeld h d) one two e = absurd (cc)
payload_is Empty (PageHeld q) one two e = absurd (cc)
payload_is Empty (LogHeld q) one two e = absurd (cc)
payload_is (HeadHeld g c) Empty one two e = absurd (cc)
payload_is (HeadHeld g c) (HeadHeld h d) one two e =
    let both = and_parts (same_saved g.spaces h.spaces) (bytes_eq g.text h.text) e in
    let spaces = saved_is g.spaces h.spaces both.0 in
    let text : g.text ≡ h.text = (bytes_eq-Decides g.text h.text).0 both.1 in
    let config = config_is h.text c d (ap config_in_text (sym text) ∙ one g c refl) (two h d refl) in
    λ i. HeadHeld (record { spaces = spaces i; text = text i }) (config i)
payload_is (HeadHeld g c) (PageHeld q) one two e = absurd (cc)
payload_is (HeadHeld g c) (LogHeld q) one two e = absurd (cc)
payload_is (PageHeld p) q one two e = absurd (cc)
payload_is (LogHeld p) q one two e = absurd (cc)

record Matches (h b : Block) : Type 0 where
  pub same : b ≡ trailer_of h b.index
  pub payload : same_payload b.payload b.payload ≡ true

matched : (s : ℕ) (h b : Block) → IsItem h → IsItem b → b.kind ≡ trailer_kind → ends_as (header_told s h) (told_of b) ≡ true → Matches h b
matched s h b one two kind e =
    let rest : Bool = eqb h.a b.a && (eqb h.b b.b && (eqb h.c b.c && same_held (held_told h.payload) (held_told b.payload))) in
    let all = and_parts (eqb h.object b.object && (eqb h.incarnation b.incarnation && eqb h.number b.number)) rest e in
    let own = and_parts (eqb h.object b.object) (eqb h.incarnation b.incarnation && eqb h.number b.number) all.0 in
    let two_ = and_parts (eqb h.incarnation b.incarnation) (eqb h.number b.number) own.1 in
    let first = and_parts (eqb h.a b.a) (eqb h.b b.b && (eqb h.c b.c && same_held (held_told h.payload) (held_told b.payload))) all.1 in
    let second = and_parts (eqb h.b b.b) (eqb h.c b.c && same_held (held_told h.payload) (held_told b.payload)) first.1 in
    let third = and_parts (eqb h.c b.c) (same_held (held_told h.payload) (held_told b.payload)) second.1 in
    let object = sym (eqb-true h.object b.object own.0) in
    let incarnation = sym (eqb-true h.incarnation b.incarnation two_.0) in
    let number = sym (eqb-true h.number b.number two_.1) in
    let a = sym (eqb-true h.a b.a first.0) in
    let b_ = sym (eqb-true h.b b.b second.0) in
    let c = sym (eqb-true h.c b.c third.0) in
    let held : same_payload h.payload b.payload ≡ true = sym (held_same h.payload b.payload) ∙ third.1 in
    let payload : b.payload ≡ h.payload = sym (payload_is h.payload b.payload one.config two.config held) in
    record {
      same = λ i. record { kind = kind i; object = object i; incarnation = incarnation i; number = number i; index = b.index; a = a i; b = b_ i; c = c i; payload = payload i };
      payload = ap (λ q. same_payload q b.payload) payload ∙ held;
    }

-- what a span has come to is the same for its trailer
course_matched : (h b : Block) (span : List Placed) → Matches h b → h.index ≡ 0 → length span ≤ b.index → course b span ≡ course h span
course_matched h b span m index below = ap (λ x. course x span) m.same ∙ course_same h b.index span index below

-- ---- a block that does not belong at the front

keeps_all : (b : Block) (r : Reached) (i : ℕ) (span : List Placed) (q : Place) → first_place r.bad ≡ Some q
    → first_place (fold (λ (r : Reached) (p : ℕ × Placed). reach_on b r p.1 p.0 p.1.item) r (enumerate_from i span)).bad ≡ Some q
keeps_all b r i [] q e = e
keeps_all b r i (p ∷ span) q e = keeps_all b (reach_on b r p i p.item) (i + 1) span q (keeps_first b r p i p.item q e)

abbrev NoStart : Block → Option Block → Type 0
NoStart b item = (c : Block) → item ≡ Some c → belongs b (unread b) 0 c ≡ false

start_bad : (b : Block) (p : Placed) (item : Option Block) → NoStart b item → first_place (reach_on b (unread b) p 0 item).bad ≡ Some (place_told p)
start_bad b p None not_ = refl
start_bad b p (Some c) not_ =
    ap (λ t. first_place (let s : Reached = (if t then reached_by (unread b) c else record (unread b) { sure = false; bad = p ∷ [] }) in s).bad) (not_ c refl)

first_is_bad : (b : Block) (m : List Placed) (s : ℕ) → s < length m → NoStart b (item_at m s)
    → first_place (course b (drop s m)).bad ≡ Some (place_told (block_at m s))
first_is_bad b m s in_ not_ =
    ap (λ span. first_place (course b span).bad) (drop_more m s no_block in_)
    ∙ keeps_all b (reach_on b (unread b) (block_at m s) 0 (item_at m s)) 1 (drop (s + 1) m) (place_told (block_at m s)) (start_bad b (block_at m s) (item_at m s) not_)

-- what belongs at the front is a header of index 0
front_is : (b c : Block) (r : Reached) → belongs b r 0 c ≡ true → (c.kind ≡ header_kind) × (c.index ≡ 0)
front_is b c r e =
    let end_ : Bool = end_belongs header_kind b c in
    let o = and_parts (eqb c.object b.object) (eqb c.incarnation b.incarnation && (eqb c.number b.number && (eqb c.index 0 && end_))) e in
    let i = and_parts (eqb c.incarnation b.incarnation) (eqb c.number b.number && (eqb c.index 0 && end_)) o.1 in
    let n = and_parts (eqb c.number b.number) (eqb c.index 0 && end_) i.1 in
    let x = and_parts (eqb c.index 0) end_ n.1 in
    let k = and_parts (eqb c.kind header_kind) (eqb c.a b.a && (eqb c.b b.b && (eqb c.c b.c && same_payload c.payload b.payload))) x.1 in
    (eqb-true c.kind header_kind k.0, eqb-true c.index 0 x.0)

-- ---- the object of a trailer

-- a trailer that comes next, with the span that it ends
pub record Ends (l : List Placed) (p : Placed) (b : Block) (h : Headers) (s : ℕ) : Type 0 where
  pub item : p.item ≡ Some b
  pub kind : b.kind ≡ trailer_kind
  pub back : s + b.index ≡ length l
  pub headers : AreHeaders l (length l) h
  pub own : IsItem b
  pub items : (i : ℕ) (c : Block) → item_at l i ≡ Some c → IsItem c

-- the first bad block of the object
abbrev truly : List Placed → Placed → Block → ℕ → Option Place
truly l p b s = first_place (course b (drop s (l ++ p ∷ []))).bad

inside : (l : List Placed) (p : Placed) (b : Block) (h : Headers) (s : ℕ) → Ends l p b h s → s < length (l ++ p ∷ [])
inside l p b h s is = omega (arith, is.back, length_push l p)

-- no header of index 0 stands at the front
bare : (l : List Placed) (p : Placed) (b : Block) (h : Headers) (s : ℕ) → Ends l p b h s → ((c : Block) → s < length l → IsHeaderAt l s c → ⊥)
    → truly l p b s ≡ Some (place_told (block_at (l ++ p ∷ []) s))
bare l p b h s is none = first_is_bad b (l ++ p ∷ []) s (inside l p b h s is) (λ c e. false_from_ne_true (belongs b (unread b) 0 c) (λ t.
    let f = front_is b c (unread b) t in
    elim (cases_lt s (length l)) as (λ _. ⊥) [
      | inl below ↦ none c below (header_back l p s c below (record { item = e; kind = f.0; index = f.1 }))
      | inr above ↦
          let same : s ≡ length l = omega (arith, is.back) in
          let here : Some b ≡ Some c = sym is.item ∙ sym (item_last l p) ∙ ap (item_at (l ++ p ∷ [])) (sym same) ∙ e in
          let two : b ≡ c = cc in
          absurd (omega (arith, sym is.kind ∙ ap (λ (x : Block). x.kind) two ∙ f.0))
    ]))

-- a header stands there that says otherwise
other : (l : List Placed) (p : Placed) (b : Block) (h : Headers) (s : ℕ) → Ends l p b h s → (x : Header) (c : Block) → IsHeaderOf l x c → x.start ≡ s
    → ends_as x (told_of b) ≡ false → truly l p b s ≡ Some (place_told (block_at (l ++ p ∷ []) s))
other l p b h s is x c of start not_ = first_is_bad b (l ++ p ∷ []) s (inside l p b h s is) (λ d e. false_from_ne_true (belongs b (unread b) 0 d) (λ t.
    let f = front_is b d (unread b) t in
    let in_ : x.start < length l = start_inside l x c of in
    let there : IsHeaderAt l s d = header_back l p s d (omega (arith, start)) (record { item = e; kind = f.0; index = f.1 }) in
    let same : c ≡ d = (let both : Some c ≡ Some d = sym of.there.item ∙ ap (item_at l) start ∙ there.item in cc) in
    let told : x ≡ header_told x.start d = header_is l x c of ∙ ap (header_told x.start) same in
    let ends : ends_as x (told_of b) ≡ true = ap (λ y. ends_as y (told_of b)) told ∙ sym (ends_same x.start d b (unread b) f.0 f.1) ∙ t in
    absurd (cc)))

-- a header stands there that matches
matches : (l : List Placed) (p : Placed) (b : Block) (h : Headers) (s : ℕ) → Ends l p b h s → (x : Header) (c : Block) → IsHeaderOf l x c → x.start ≡ s
    → ends_as x (told_of b) ≡ true → Matches c b
matches l p b h s is x c of start e =
    matched x.start c b (is.items x.start c of.there.item) is.own is.kind (sym (ap (λ y. ends_as y (told_of b)) (header_is l x c of)) ∙ e)

-- the course behind the trailer, of a header that matches
course_ends : (l : List Placed) (p : Placed) (b : Block) (h : Headers) (s : ℕ) → Ends l p b h s → (c : Block) → Matches c b → c.index ≡ 0
    → course b (drop s (l ++ p ∷ [])) ≡ reach_on b (course c (drop s l)) p b.index (Some b)
course_ends l p b h s is c m index =
    let back : length l - s ≡ b.index = omega (arith, is.back) in
    course_on b l p s (omega (arith, is.back))
    ∙ ap (λ r. reach_on b r p (length l - s) p.item) (course_matched c b (drop s l) m index (omega (arith, is.back, length-drop s l)))
    ∙ ap (λ k. reach_on b (course c (drop s l)) p k p.item) back
    ∙ ap (λ (item : Option Block). reach_on b (course c (drop s l)) p b.index item) is.item

of_stopped : (l : List Placed) (p : Placed) (b : Block) (h : Headers) (s : ℕ) → Ends l p b h s → (x : Stopped) → IsStoppedOf l x → x.header.start ≡ s
    → ends_as x.header (told_of b) ≡ true → truly l p b s ≡ Some x.bad
of_stopped l p b h s is x of start e =
    let m = matches l p b h s is x.header of.block of.header start e in
    ap (λ (r : Reached). first_place r.bad) (course_ends l p b h s is of.block m of.header.there.index)
    ∙ keeps_first b (course of.block (drop s l)) p b.index (Some b) x.bad (ap (λ k. first_place (course of.block (drop k l)).bad) (sym start) ∙ of.come)

-- a trailer at its place belongs exactly where the log has come to its last position
last_is : (b : Block) (r : Reached) → b.kind ≡ trailer_kind → (b.index ≡ 0 → ⊥) → same_payload b.payload b.payload ≡ true → belongs b r b.index b ≡ has_all r b
last_is b r kind some payload =
    (λ i. eq-eqb b.object b.object refl i && (eq-eqb b.incarnation b.incarnation refl i && (eq-eqb b.number b.number refl i && (eq-eqb b.index b.index refl i
    && (if ne_eqb b.index 0 some i then end_belongs header_kind b b
    else (if eq-eqb b.index b.index refl i then
    (eq-eqb b.kind trailer_kind kind i && (eq-eqb b.a b.a refl i && (eq-eqb b.b b.b refl i && (eq-eqb b.c b.c refl i && payload i)))) && has_all r b
    else inner_belongs r b b))))))

kept_by_trailer : (r : Reached) (b : Block) → b.kind ≡ trailer_kind → reached_by r b ≡ r
kept_by_trailer r b kind =
    ap (λ k. if eqb k page_kind then record r { space = b.a; page = b.b + 1 } else (if eqb k records_kind then record r { position = b.a + b.b; sure = true } else r)) kind

of_live : (l : List Placed) (p : Placed) (b : Block) (h : Headers) (s : ℕ) → Ends l p b h s → (x : Live) → IsLiveOf l x → x.header.start ≡ s
    → ends_as x.header (told_of b) ≡ true → truly l p b s ≡ (if has_come x.header.head x.progress then None else Some (place_told p))
of_live l p b h s is x of start e =
    let m = matches l p b h s is x.header of.block of.header start e in
    let in_ : x.header.start < length l = start_inside l x.header of.block of.header in
    let some : b.index ≡ 0 → ⊥ = λ z. omega (arith, is.back, z, start) in
    let come : has_all (reached x.progress) b ≡ has_come x.header.head x.progress =
    ap (has_all (reached x.progress)) m.same ∙ ap (λ g. has_come g x.progress) (sym of.header.head) in
    let ended : course b (drop s (l ++ p ∷ [])) ≡ (if has_come x.header.head x.progress then reached x.progress else record (reached x.progress) { sure = false; bad = p ∷ [] }) =
    course_ends l p b h s is of.block m of.header.there.index
    ∙ ap (λ r. reach_on b r p b.index (Some b)) (ap (λ k. course of.block (drop k l)) (sym start) ∙ of.come)
    ∙ ap (λ t. if t then reached_by (reached x.progress) b else record (reached x.progress) { sure = false; bad = p ∷ [] })
    (last_is b (reached x.progress) is.kind some m.payload ∙ come)
    ∙ ap (λ r. if has_come x.header.head x.progress then r else record (reached x.progress) { sure = false; bad = p ∷ [] }) (kept_by_trailer (reached x.progress) b is.kind) in
    elim (has_come x.header.head x.progress) as (λ t. course b (drop s (l ++ p ∷ [])) ≡ (if t then reached x.progress else record (reached x.progress) { sure = false; bad = p ∷ [] })
    → truly l p b s ≡ (if t then None else Some (place_told p))) [
      | true ↦ λ c. ap (λ (r : Reached). first_place r.bad) c
      | false ↦ λ c. ap (λ (r : Reached). first_place r.bad) c
    ] ended

by_stopped : (l : List Placed) (p : Placed) (b : Block) (h : Headers) (s : ℕ) → Ends l p b h s → (GoesOnFrom s h.live → ⊥)
    → (found : Option Stopped) → find (starts_at s) h.stopped.items ≡ found
    → Some (bad_of_stopped (place_told (block_at (l ++ p ∷ []) s)) (told_of b) found) ≡ truly l p b s
by_stopped l p b h s is off None none = sym (bare l p b h s is (λ c below at. elim (is.headers.all s c below at) as (λ _. ⊥) [
  | inl on ↦ off on
  | inr found ↦ absurd (false≢true (sym (ap is_some none) ∙ found))
]))
by_stopped l p b h s is off (Some x) some =
    let found = found_is (IsStoppedOf l) (starts_at s) h.stopped.items x is.headers.stopped some in
    let start = eqb-true x.header.start s found.1 in
    elim (ends_as x.header (told_of b)) as (λ t. ends_as x.header (told_of b) ≡ t
    → Some (if t then x.bad else place_told (block_at (l ++ p ∷ []) s)) ≡ truly l p b s) [
      | true ↦ λ e. sym (of_stopped l p b h s is x found.0 start e)
      | false ↦ λ e. sym (other l p b h s is x.header found.0.block found.0.header start e)
    ] refl

by_live : (l : List Placed) (p : Placed) (b : Block) (h : Headers) (s : ℕ) → Ends l p b h s → (live : Option Live) → h.live ≡ live
    → bad_told live h.stopped.items s (place_told (block_at (l ++ p ∷ []) s)) (place_told p) (told_of b) ≡ truly l p b s
by_live l p b h s is None none = by_stopped l p b h s is (λ on. subst (GoesOnFrom s) none on) (find (starts_at s) h.stopped.items) refl
by_live l p b h s is (Some x) some =
    let of = subst (IsLive l) some is.headers.live in
    let first : Place = place_told (block_at (l ++ p ∷ []) s) in
    elim (eqb x.header.start s) as (λ t. eqb x.header.start s ≡ t
    → (if t then bad_of_live x first (place_told p) (told_of b) else Some (bad_of_stopped first (told_of b) (find (starts_at s) h.stopped.items))) ≡ truly l p b s) [
      | true ↦ λ at.
          let start = eqb-true x.header.start s at in
          elim (ends_as x.header (told_of b)) as (λ t. ends_as x.header (told_of b) ≡ t
          → (if t then (if has_come x.header.head x.progress then None else Some (place_told p)) else Some first) ≡ truly l p b s) [
            | true ↦ λ e. sym (of_live l p b h s is x of start e)
            | false ↦ λ e. sym (other l p b h s is x.header of.block of.header start e)
          ] refl
      | false ↦ λ at. by_stopped l p b h s is (λ on. eqb-false x.header.start s at (let same : x.header.start ≡ s = subst (GoesOnFrom s) some on in same)) (find (starts_at s) h.stopped.items) refl
    ] refl

-- the first bad block of the object of a trailer, as its headers tell it
pub bad_is : (l : List Placed) (p : Placed) (b : Block) (h : Headers) (s : ℕ) → Ends l p b h s
    → bad_told h.live h.stopped.items s (place_told (block_at (l ++ p ∷ []) s)) (place_told p) (told_of b)
    ≡ first_place (course b (drop s (l ++ p ∷ []))).bad
bad_is l p b h s is = by_live l p b h s is h.live refl
