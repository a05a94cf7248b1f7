-- The blocks of an archive are one object, and each of them belongs there.
use Rattle.std.proofs.Common.{◌≡◌, ℕ, ◌+◌, ◌-◌, ◌<◌, ◌≤◌, ◌++◌, ◌∙◌, ◌⊎◌, Bool, Some, None, Option, List, [], ◌∷◌, ap, arith, drop, eqb, flat_map, fold, inl, inr, leb, length, ltb, map, refl, suc, sym, take, true, false, zero}
use Rattle.std.specs.List.{All, cons_option, enumerate_from, range_with_len}
use Rattle.std.specs.Prelude.{filter_map, if◌then◌else◌, ◌&&◌}
use Rattle.std.proofs.lemmas.Bool.{and_from, eq-eqb, le-leb, lt-ltb, ne_eqb, or_left, or_right}
use Rattle.std.proofs.lemmas.List.{take_all}
use Rattle.std.proofs.lemmas.List.Elements.{All-head, All-tail}
use Rattle.std.proofs.lemmas.Slice.Eq.{bytes_eq-Decides}
use Rattle.ol_values.specs.Blocks.{Block, Saved, SavedPage, archive_end, archive_page, header_kind, trailer_kind}
use Rattle.ol_rules.specs.Shelf.{Object, Placed, Reached, bad_blocks, belongs, end_belongs, is_after, object_with, objects_from, objects_of, page_belongs, reach_on, reached_by, same_saved, saved_in}
use Rattle.ol_catalog.specs.Written.{Archived, AreInOrder, IsArchived, IsPageOf, blocks_of_archive, trailer_of}

-- its header or its trailer
abbrev pub end_block : Archived → ℕ → ℕ → Block
end_block x kind index = archive_end kind x.incarnation x.number index x.cut x.low x.level x.head x.config

-- the block of one of its pages, which has this index
abbrev pub page_block : Archived → ℕ × SavedPage → Block
page_block x p = archive_page x.incarnation x.number p.0 p.1

-- the block that stands at a place, if there is one
abbrev pub item_of : Placed → Option Block
item_of p = p.item

-- what is there of each block
abbrev pub all_there : List Block → List (Option Block)
all_there blocks = map (λ (b : Block). let o : Option Block = Some b in o) blocks

-- the blocks of these pages, of which the first has this index, and the trailer
abbrev rest_of : Archived → ℕ → List SavedPage → List Block
rest_of x index pages = map (page_block x) (enumerate_from index pages) ++ trailer_of x ∷ []

-- ---- one object

-- what a block at an index of the stream ends, as an object that begins at s
abbrev ends : List Placed → ℕ → ℕ × Placed → Option Object
ends whole s p = object_with whole s p.0 p.1.item

-- of pages and trailer, the trailer alone ends an object
rest_ends : (whole : List Placed) (x : Archived) (s n i : ℕ) (pages : List SavedPage) (l : List Placed) → map item_of l ≡ all_there (rest_of x i pages)
    → filter_map (ends whole s) (enumerate_from n l) ≡ cons_option (object_with whole s (n + length pages) (Some (trailer_of x))) []
rest_ends whole x s n i [] [] e = absurd (cc)
rest_ends whole x s n i [] (q ∷ []) e =
    let item : q.item ≡ Some (trailer_of x) = cc in
    let at : n ≡ n + 0 = omega arith in
    λ k. cons_option (object_with whole s (at k) (item k)) []
rest_ends whole x s n i [] (q ∷ r ∷ l) e = absurd (cc)
rest_ends whole x s n i (p ∷ pages) [] e = absurd (cc)
rest_ends whole x s n i (p ∷ pages) (q ∷ l) e =
    let item : q.item ≡ Some (page_block x (i, p)) = cc in
    let rest : map item_of l ≡ all_there (rest_of x (i + 1) pages) = cc in
    let count : n + 1 + length pages ≡ n + length (p ∷ pages) = omega arith in
    ap (λ (o : Option Block). cons_option (object_with whole s n o) (filter_map (ends whole s) (enumerate_from (n + 1) l))) item
    ∙ rest_ends whole x s (n + 1) (i + 1) pages l rest
    ∙ ap (λ (t : ℕ). cons_option (object_with whole s t (Some (trailer_of x))) []) count

-- the object of the whole stream
abbrev whole_object : Archived → List Placed → Object
whole_object x l = record { head = trailer_of x; span = l }

from_start : (x : Archived) (h : Placed) (l : List Placed) (s : ℕ) → h.item ≡ Some (end_block x header_kind 0) → map item_of l ≡ all_there (rest_of x 1 x.pages)
    → objects_from (h ∷ l) s ≡ cons_option (object_with (h ∷ l) s (1 + length x.pages) (Some (trailer_of x))) []
from_start x h l s item rest =
    ap (λ (o : Option Block). cons_option (object_with (h ∷ l) s 0 o) (filter_map (ends (h ∷ l) s) (enumerate_from 1 l))) item
    ∙ rest_ends (h ∷ l) x s 1 1 x.pages l rest

rest_long : (x : Archived) (i : ℕ) (pages : List SavedPage) (l : List Placed) → map item_of l ≡ all_there (rest_of x i pages) → length l ≡ length pages + 1
rest_long x i [] [] e = absurd (cc)
rest_long x i [] (q ∷ []) e = refl
rest_long x i [] (q ∷ r ∷ l) e = absurd (cc)
rest_long x i (p ∷ pages) [] e = absurd (cc)
rest_long x i (p ∷ pages) (q ∷ l) e =
    let rest : map item_of l ≡ all_there (rest_of x (i + 1) pages) = cc in
    omega (arith, rest_long x (i + 1) pages l rest)

-- whether the trailer ends an object that begins at s
abbrev trailer_ends : Archived → ℕ → Bool
trailer_ends x s = eqb (s + (length x.pages + 1)) (1 + length x.pages)

no_later : (x : Archived) (h : Placed) (l : List Placed) (a n : ℕ) → 1 ≤ a → h.item ≡ Some (end_block x header_kind 0) → map item_of l ≡ all_there (rest_of x 1 x.pages)
    → flat_map (objects_from (h ∷ l)) (range_with_len a n) ≡ []
no_later x h l a zero some item rest = refl
no_later x h l a (suc n) some item rest =
    let late : trailer_ends x a ≡ false = ne_eqb (a + (length x.pages + 1)) (1 + length x.pages) (λ e. omega (arith, e, some)) in
    let none : objects_from (h ∷ l) a ≡ [] =
    from_start x h l a item rest
    ∙ ap (λ (t : Bool). cons_option (if t then Some (let o : Object = record { head = trailer_of x; span = take (1 + length x.pages + 1 - a) (drop a (h ∷ l)) } in o) else None) []) late in
    λ k. none k ++ no_later x h l (a + 1) n (omega (arith, some)) item rest k

one_of_parts : (x : Archived) (h : Placed) (l : List Placed) → h.item ≡ Some (end_block x header_kind 0) → map item_of l ≡ all_there (rest_of x 1 x.pages)
    → objects_of (h ∷ l) ≡ whole_object x (h ∷ l) ∷ []
one_of_parts x h l item rest =
    let count : 0 + (length x.pages + 1) ≡ 1 + length x.pages = omega arith in
    let here : trailer_ends x 0 ≡ true = eq-eqb (0 + (length x.pages + 1)) (1 + length x.pages) count in
    let span : take (1 + length x.pages + 1 - 0) (h ∷ l) ≡ h ∷ l = take_all (1 + length x.pages + 1 - 0) (h ∷ l) (omega (arith, rest_long x 1 x.pages l rest)) in
    let first : objects_from (h ∷ l) 0 ≡ whole_object x (h ∷ l) ∷ [] =
    from_start x h l 0 item rest
    ∙ ap (λ (t : Bool). cons_option (if t then Some (let o : Object = record { head = trailer_of x; span = take (1 + length x.pages + 1 - 0) (drop 0 (h ∷ l)) } in o) else None) []) here
    ∙ ap (λ (s : List Placed). whole_object x s ∷ []) span in
    λ k. first k ++ no_later x h l 1 (length l) (omega arith) item rest k

-- a stream of the archive's blocks has one object
pub one_object : (x : Archived) (l : List Placed) → map item_of l ≡ all_there (blocks_of_archive x) → objects_of l ≡ (let o : Object = record { head = trailer_of x; span = l } in o) ∷ []
one_object x [] e = absurd (cc)
one_object x (h ∷ l) e =
    let item : h.item ≡ Some (end_block x header_kind 0) = cc in
    let rest : map item_of l ≡ all_there (rest_of x 1 x.pages) = cc in
    one_of_parts x h l item rest

pub whole_long : (x : Archived) (l : List Placed) → map item_of l ≡ all_there (blocks_of_archive x) → length l ≡ length x.pages + 2
whole_long x [] e = absurd (cc)
whole_long x (h ∷ l) e =
    let rest : map item_of l ≡ all_there (rest_of x 1 x.pages) = cc in
    omega (arith, rest_long x 1 x.pages l rest)

-- ---- each block belongs there

same_spaces : (spaces : List Saved) → same_saved spaces spaces ≡ true
same_spaces [] = refl
same_spaces (s ∷ spaces) =
    λ k. eq-eqb s.space s.space refl k && (eq-eqb s.parent s.parent refl k && (eq-eqb s.base s.base refl k && same_spaces spaces k))

-- header and trailer have the fields and the payload of the trailer
end_fits : (x : Archived) (kind index : ℕ) → end_belongs kind (trailer_of x) (end_block x kind index) ≡ true
end_fits x kind index =
    λ k. eq-eqb kind kind refl k && (eq-eqb x.cut x.cut refl k && (eq-eqb x.low x.low refl k && (eq-eqb x.level x.level refl k
    && (same_spaces x.head.spaces k && (bytes_eq-Decides x.head.text x.head.text).1 refl k))))

header_belongs : (x : Archived) (r : Reached) → belongs (trailer_of x) r 0 (end_block x header_kind 0) ≡ true
header_belongs x r =
    λ k. eq-eqb x.incarnation x.incarnation refl k && (eq-eqb x.number x.number refl k && end_fits x header_kind 0 k)

trailer_belongs : (x : Archived) (r : Reached) (i : ℕ) → i ≡ length x.pages + 1 → belongs (trailer_of x) r i (trailer_of x) ≡ true
trailer_belongs x r i last =
    let some : eqb i 0 ≡ false = ne_eqb i 0 (λ e. omega (arith, e, last)) in
    let same : eqb i (length x.pages + 1) ≡ true = eq-eqb i (length x.pages + 1) last in
    let own : eqb (length x.pages + 1) i ≡ true = eq-eqb (length x.pages + 1) i (sym last) in
    λ k. eq-eqb x.incarnation x.incarnation refl k && (eq-eqb x.number x.number refl k && (own k
    && (if some k then end_belongs header_kind (trailer_of x) (trailer_of x) else (if same k then end_fits x trailer_kind (length x.pages + 1) k && true else false))))

comes_after : (r : Reached) (p : SavedPage) → (r.space < p.space) ⊎ ((r.space ≡ p.space) × (r.page ≤ p.page)) → is_after r p.space p.page ≡ true
comes_after r p (inl less) = or_left (ltb r.space p.space) (eqb r.space p.space && leb r.page p.page) (lt-ltb r.space p.space less)
comes_after r p (inr (same, from)) =
    or_right (ltb r.space p.space) (eqb r.space p.space && leb r.page p.page)
    (and_from (eqb r.space p.space) (leb r.page p.page) (eq-eqb r.space p.space same) (le-leb r.page p.page from))

page_fits : (x : Archived) (r : Reached) (i : ℕ) (p : SavedPage) → IsPageOf x p → (r.space < p.space) ⊎ ((r.space ≡ p.space) × (r.page ≤ p.page))
    → page_belongs r (trailer_of x) (page_block x (i, p)) (saved_in p.space x.head.spaces) ≡ true
page_fits x r i p is order =
    ap (page_belongs r (trailer_of x) (page_block x (i, p))) is.held
    ∙ (λ k. comes_after r p order k && (is.there k && (lt-ltb is.space.base p.image.stamp is.above k && (le-leb p.image.stamp x.cut is.upto k && eq-eqb p.image.stamp p.image.stamp refl k))))

page_in_place : (x : Archived) (r : Reached) (i : ℕ) (p : SavedPage) → 1 ≤ i → i < length x.pages + 1 → IsPageOf x p → (r.space < p.space) ⊎ ((r.space ≡ p.space) × (r.page ≤ p.page))
    → belongs (trailer_of x) r i (page_block x (i, p)) ≡ true
page_in_place x r i p some inside is order =
    let first : eqb i 0 ≡ false = ne_eqb i 0 (λ e. omega (arith, e, some)) in
    let last : eqb i (length x.pages + 1) ≡ false = ne_eqb i (length x.pages + 1) (λ e. omega (arith, e, inside)) in
    λ k. eq-eqb x.incarnation x.incarnation refl k && (eq-eqb x.number x.number refl k && (eq-eqb i i refl k
    && (if first k then end_belongs header_kind (trailer_of x) (page_block x (i, p)) else (if last k then false else page_fits x r i p is order k))))

-- what a span comes to with a block that belongs there
reach_good : (x : Archived) (r : Reached) (q : Placed) (i : ℕ) (b : Block) → q.item ≡ Some b → belongs (trailer_of x) r i b ≡ true → reach_on (trailer_of x) r q i q.item ≡ reached_by r b
reach_good x r q i b item good =
    ap (reach_on (trailer_of x) r q i) item
    ∙ ap (λ (t : Bool). if t then reached_by r b else record r { sure = false; bad = r.bad ++ q ∷ [] }) good

-- what a span comes to from here on
abbrev come : Archived → Reached → List (ℕ × Placed) → Reached
come x r l = fold (λ (r : Reached) (p : ℕ × Placed). reach_on (trailer_of x) r p.1 p.0 p.1.item) r l

none_bad : (x : Archived) (r : Reached) (i : ℕ) (pages : List SavedPage) (l : List Placed) → map item_of l ≡ all_there (rest_of x i pages) → 1 ≤ i → i + length pages ≡ length x.pages + 1
    → AreInOrder r.space r.page pages → All (IsPageOf x) pages → r.bad ≡ [] → (come x r (enumerate_from i l)).bad ≡ []
none_bad x r i [] [] e some count order all none = absurd (cc)
none_bad x r i [] (q ∷ []) e some count order all none =
    let item : q.item ≡ Some (trailer_of x) = cc in
    let last : i ≡ length x.pages + 1 = omega (arith, count) in
    ap (λ (y : Reached). y.bad) (reach_good x r q i (trailer_of x) item (trailer_belongs x r i last)) ∙ none
none_bad x r i [] (q ∷ s ∷ l) e some count order all none = absurd (cc)
none_bad x r i (p ∷ pages) [] e some count order all none = absurd (cc)
none_bad x r i (p ∷ pages) (q ∷ l) e some count order all none =
    let item : q.item ≡ Some (page_block x (i, p)) = cc in
    let rest : map item_of l ≡ all_there (rest_of x (i + 1) pages) = cc in
    let good = page_in_place x r i p some (omega (arith, count)) (All-head (IsPageOf x) p pages all) order.0 in
    ap (λ (y : Reached). (come x y (enumerate_from (i + 1) l)).bad) (reach_good x r q i (page_block x (i, p)) item good)
    ∙ none_bad x (record r { space = p.space; page = p.page + 1 }) (i + 1) pages l rest (omega (arith, some)) (omega (arith, count)) order.1 (All-tail (IsPageOf x) p pages all) none

-- no block of the object is bad
pub nothing_bad : (x : Archived) (l : List Placed) → map item_of l ≡ all_there (blocks_of_archive x) → IsArchived x → bad_blocks (let o : Object = record { head = trailer_of x; span = l } in o) ≡ []
nothing_bad x [] e is = absurd (cc)
nothing_bad x (h ∷ l) e is =
    let item : h.item ≡ Some (end_block x header_kind 0) = cc in
    let rest : map item_of l ≡ all_there (rest_of x 1 x.pages) = cc in
    let r : Reached = record { space = 0; page = 0; position = x.cut; sure = true; bad = [] } in
    let count : 1 + length x.pages ≡ length x.pages + 1 = omega arith in
    ap (λ (y : Reached). (come x y (enumerate_from 1 l)).bad) (reach_good x r h 0 (end_block x header_kind 0) item (header_belongs x r))
    ∙ none_bad x r 1 x.pages l rest (omega arith) count is.order is.pages refl
