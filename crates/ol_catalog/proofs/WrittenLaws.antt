-- What an archive's blocks on a drive are read as, and what a catalog of all drives has of that drive.
use Rattle.std.proofs.Common.{◌≡◌, ℕ, ◌+◌, ◌-◌, ◌<◌, ◌≤◌, ◌++◌, ◌∙◌, ◌^◌, ◌⊎◌, Bool, Some, None, Option, List, [], ◌∷◌, ap, arith, drop, eqb, flat_map, inl, inr, leb, length, length-drop, length-take, ltb, map, option_map, refl, subst, suc, sym, take, true, false, zero}
use Rattle.std.specs.List.{All, enumerate_from, filter, range_with_len}
use Rattle.std.specs.Option.{option_or}
use Rattle.std.specs.Prelude.{IfSome, cond, if◌then◌else◌, is_none, not, ◌&&◌}
use Rattle.std.proofs.lemmas.Bool.{and_from, and_parts, and_right, cases_lt, eq-eqb, le-leb, ltb-true, ne_eqb, or_from}
use Rattle.std.proofs.lemmas.List.{append-nil}
use Rattle.std.proofs.lemmas.List.Elements.{All-append, All-cons, All-drop, All-head, All-nil, All-tail, All-take, filter-append}
use Rattle.std.proofs.lemmas.Simd.{map-map}
use Rattle.ol_values.specs.Blocks.{Block, SavedPage, header_kind, mark_kind, trailer_kind}
use Rattle.ol_values.specs.Config.{data_pages, has_page}
use Rattle.ol_ports.specs.Shelf.{block_at, shape_of}
use Rattle.ol_rules.specs.Plan.{bad_outside, covers}
use Rattle.ol_rules.specs.Shelf.{Object, Placed, bad_blocks, object_with, objects, objects_from, objects_of, readable_item}
use Rattle.ol_chunks.proofs.Chunks.{few_pages}
use Rattle.ol_chunks.proofs.TextLaws.{text_of_read}
use Rattle.ol_object.specs.Bytes.{bytes_of}
use Rattle.ol_object_spans.specs.declared.object.Object as told
use Rattle.ol_object_spans.specs.declared.place.Place.{Place}
use Rattle.ol_object_spans.specs.Objects.{first_place, object_told, place_or, place_told}
use Rattle.ol_object_spans.specs.Scans.{first_outside, is_span}
use Rattle.ol_object_spans.specs.Told.{head_told}
use Rattle.ol_object_spans.proofs.Streams.{found_is}
use Rattle.ol_block_values.specs.Items.{IsWritten, item_in}
use Rattle.ol_block_values.proofs.MadeLaws.{archive_end_written, archive_page_written}
use Rattle.ol_block_values.proofs.WrittenLaws.{written_is_item}
use Rattle.ol_shelf_reader.specs.Streams.{places_of}
use Rattle.ol_shelf_reader.proofs.Places.{of_drive}
use Rattle.ol_catalog.specs.Streams.{drive_blocks, placed_at, shelf_to, shelf_value}
use Rattle.ol_catalog.specs.Written.{Archived, IsArchived, IsOnDrive, IsPageOf, archive_told, blocks_of_archive, is_of_drive, object_on, trailer_of}
use Rattle.ol_catalog.proofs.ArchiveLaws.{all_there, end_block, item_of, nothing_bad, one_object, page_block, whole_long}
use Rattle.ol_catalog.proofs.Joins.{all_filtered, drive_of, found_more, nothing_found, outside_more}

-- ---- the bytes are read as the blocks

-- what a catalog takes the bytes of a block for
abbrev as_read : List ℕ → Option Block
as_read bytes = readable_item (item_in bytes)

block_back : (b : Block) → IsWritten b → b.incarnation ≤ 2 ^ 60 → b.number ≤ 2 ^ 60 → as_read (bytes_of b) ≡ Some b
block_back b is incarnation number =
    ap readable_item (written_is_item b is)
    ∙ ap (λ (t : Bool). if t then (let o : Option Block = Some b in o) else None)
    (and_from (leb b.incarnation (2 ^ 60)) (leb b.number (2 ^ 60)) (le-leb b.incarnation (2 ^ 60) incarnation) (le-leb b.number (2 ^ 60) number))

end_back : (x : Archived) (kind index : ℕ) → IsArchived x → (kind ≡ header_kind) ⊎ (kind ≡ trailer_kind) → index < 2 ^ 32 → as_read (bytes_of (end_block x kind index)) ≡ Some (end_block x kind index)
end_back x kind index is of small =
    block_back (end_block x kind index)
    (archive_end_written kind x.incarnation x.number index x.cut x.low x.level x.head x.config of (omega (arith, is.incarnation)) (omega (arith, is.number)) small is.cut is.low is.level is.head is.text)
    is.incarnation is.number

-- the space and the number of a page that a configuration has are small
page_small : (x : Archived) (p : SavedPage) → IsArchived x → has_page x.config p.space p.page ≡ true → (p.space < 2 ^ 64) × (p.page < 2 ^ 64)
page_small x p is there =
    let both = and_parts (ltb p.space (length x.config.spaces)) (ltb p.page (data_pages x.config p.space)) there in
    let space : p.space < length x.config.spaces = ltb-true p.space (length x.config.spaces) both.0 in
    let page : p.page < data_pages x.config p.space = ltb-true p.page (data_pages x.config p.space) both.1 in
    let config = text_of_read x.head.text x.config is.text in
    (omega (arith, space, config.config.few), omega (arith, page, few_pages x.config config.config p.space space))

page_back : (x : Archived) (i : ℕ) (p : SavedPage) → IsArchived x → IsPageOf x p → i < 2 ^ 32 → as_read (bytes_of (page_block x (i, p))) ≡ Some (page_block x (i, p))
page_back x i p is of small =
    let fits = page_small x p is of.there in
    block_back (page_block x (i, p))
    (archive_page_written x.incarnation x.number i p (omega (arith, is.incarnation)) (omega (arith, is.number)) small fits.0 fits.1 of.image)
    is.incarnation is.number

rest_back : (x : Archived) (i : ℕ) (pages : List SavedPage) → IsArchived x → All (IsPageOf x) pages → i + length pages < 2 ^ 32
    → map as_read (map bytes_of (map (page_block x) (enumerate_from i pages) ++ trailer_of x ∷ [])) ≡ all_there (map (page_block x) (enumerate_from i pages) ++ trailer_of x ∷ [])
rest_back x i [] is all small = λ k. end_back x trailer_kind (length x.pages + 1) is (inr refl) is.few k ∷ []
rest_back x i (p ∷ pages) is all small =
    λ k. page_back x i p is (All-head (IsPageOf x) p pages all) (omega (arith, small)) k ∷ rest_back x (i + 1) pages is (All-tail (IsPageOf x) p pages all) (omega (arith, small)) k

all_back : (x : Archived) → IsArchived x → map as_read (map bytes_of (blocks_of_archive x)) ≡ all_there (blocks_of_archive x)
all_back x is = λ k. end_back x header_kind 0 is (inl refl) (omega arith) k ∷ rest_back x 1 x.pages is is.pages (omega (arith, is.few)) k

-- a drive with an archive has its blocks
pub blocks_there : (tapes : List (List (List (List ℕ)))) (drive : ℕ) (x : Archived) → IsArchived x → IsOnDrive tapes drive x → map item_of (drive_blocks tapes drive) ≡ all_there (blocks_of_archive x)
blocks_there tapes drive x is on =
    let places : List (ℕ × ℕ) = places_of (shape_of tapes) drive in
    map-map item_of (placed_at tapes drive) places
    ∙ sym (map-map as_read (λ (p : ℕ × ℕ). block_at tapes drive p.0 p.1) places)
    ∙ ap (map as_read) (of_drive tapes drive ∙ on)
    ∙ all_back x is

-- such a drive has one object
pub object_alone : (tapes : List (List (List (List ℕ)))) (drive : ℕ) (x : Archived) → IsArchived x → IsOnDrive tapes drive x → objects_of (drive_blocks tapes drive) ≡ object_on tapes drive x ∷ []
object_alone tapes drive x is on = one_object x (drive_blocks tapes drive) (blocks_there tapes drive x is on)

-- and no block of it is bad
pub object_whole : (tapes : List (List (List (List ℕ)))) (drive : ℕ) (x : Archived) → IsArchived x → IsOnDrive tapes drive x → bad_blocks (object_on tapes drive x) ≡ []
object_whole tapes drive x is on = nothing_bad x (drive_blocks tapes drive) (blocks_there tapes drive x is on) is

-- as it is told
archive_alone : (tapes : List (List (List (List ℕ)))) (drive : ℕ) (x : Archived) → IsArchived x → IsOnDrive tapes drive x → map object_told (objects_of (drive_blocks tapes drive)) ≡ archive_told tapes drive x ∷ []
archive_alone tapes drive x is on =
    let l : List Placed = drive_blocks tapes drive in
    let here : object_told (object_on tapes drive x) ≡ archive_told tapes drive x = λ k. record {
      place = place_or (first_place l);
      head = head_told (trailer_of x);
      blocks = whole_long x l (blocks_there tapes drive x is on) k;
      bad = first_place (object_whole tapes drive x is on k);
      archive = Some (x.head, x.config);
    } in
    ap (map object_told) (object_alone tapes drive x is on) ∙ ap (λ (t : told.Object). t ∷ []) here

-- ---- objects begin on their drive

-- all blocks of a list are of a drive
abbrev AreOf : ℕ → List Placed → Type 0
AreOf n l = All (λ (p : Placed). p.drive ≡ n) l

-- an object is told to begin on a drive
abbrev BeginsOn : ℕ → Object → Type 0
BeginsOn n o = (place_or (first_place o.span)).drive ≡ n

begins_on : (n : ℕ) (span : List Placed) → AreOf n span → 0 < length span → (place_or (first_place span)).drive ≡ n
begins_on n [] of some = absurd (omega (arith, some))
begins_on n (p ∷ span) of some = All-head (λ (q : Placed). q.drive ≡ n) p span of

span_late : (b : Block) (s t : ℕ) → t < s → is_span b s t ≡ false
span_late b s t late =
    or_from (eqb b.kind mark_kind && eqb s t) (eqb b.kind trailer_kind && eqb (s + b.index) t)
    (and_right (eqb b.kind mark_kind) (eqb s t) (ne_eqb s t (λ e. omega (arith, e, late))))
    (and_right (eqb b.kind trailer_kind) (eqb (s + b.index) t) (ne_eqb (s + b.index) t (λ e. omega (arith, e, late))))

with_begins : (n : ℕ) (l : List Placed) (s t : ℕ) (item : Option Block) → AreOf n l → s < length l → IfSome (object_with l s t item) (BeginsOn n)
with_begins n l s t None of inside = tt
with_begins n l s t (Some b) of inside =
    let span : List Placed = take (t + 1 - s) (drop s l) in
    let P : Bool → Type 0 = λ u. IfSome (if u then Some (let o : Object = record { head = b; span = take (t + 1 - s) (drop s l) } in o) else None) (BeginsOn n) in
    elim (cases_lt t s) as (λ _. IfSome (object_with l s t (Some b)) (BeginsOn n)) [
      | inl late ↦ subst P (sym (span_late b s t late)) tt
      | inr early ↦
          let some : 0 < length span = omega (arith, length-take (t + 1 - s) (drop s l), length-drop s l, early, inside) in
          let first : BeginsOn n (record { head = b; span = span }) = begins_on n span (All-take (λ (p : Placed). p.drive ≡ n) (t + 1 - s) (drop s l) (All-drop (λ (p : Placed). p.drive ≡ n) s l of)) some in
          elim (is_span b s t) as P [ true ↦ first | false ↦ tt ]
    ]

all_begin : (n : ℕ) (l : List Placed) (a count : ℕ) → AreOf n l → a + count ≤ length l → All (BeginsOn n) (flat_map (objects_from l) (range_with_len a count))
all_begin n l a zero of inside = All-nil (BeginsOn n)
all_begin n l a (suc count) of inside =
    All-append (BeginsOn n) (objects_from l a) (flat_map (objects_from l) (range_with_len (a + 1) count))
    (all_filtered (BeginsOn n) (λ (p : ℕ × Placed). object_with l a p.0 p.1.item) (λ p. with_begins n l a p.0 p.1.item of (omega (arith, inside))) (enumerate_from 0 l))
    (all_begin n l (a + 1) count of (omega (arith, inside)))

drive_begins : (tapes : List (List (List (List ℕ)))) (n : ℕ) → All (BeginsOn n) (objects_of (drive_blocks tapes n))
drive_begins tapes n = all_begin n (drive_blocks tapes n) 0 (length (drive_blocks tapes n)) (drive_of tapes n) (omega arith)

-- ---- objects of one drive among all

all_kept : (n : ℕ) (os : List Object) → All (BeginsOn n) os → filter (is_of_drive n) (map object_told os) ≡ map object_told os
all_kept n [] all = refl
all_kept n (o ∷ os) all =
    ap (λ (t : Bool). cond t (object_told o ∷ filter (is_of_drive n) (map object_told os)) (filter (is_of_drive n) (map object_told os)))
    (eq-eqb (place_or (first_place o.span)).drive n (All-head (BeginsOn n) o os all))
    ∙ ap (λ (l : List told.Object). object_told o ∷ l) (all_kept n os (All-tail (BeginsOn n) o os all))

none_kept : (n k : ℕ) (os : List Object) → (n ≡ k → ⊥) → All (BeginsOn n) os → filter (is_of_drive k) (map object_told os) ≡ []
none_kept n k [] other all = refl
none_kept n k (o ∷ os) other all =
    let on = All-head (BeginsOn n) o os all in
    ap (λ (t : Bool). cond t (object_told o ∷ filter (is_of_drive k) (map object_told os)) (filter (is_of_drive k) (map object_told os)))
    (ne_eqb (place_or (first_place o.span)).drive k (λ e. other (sym on ∙ e)))
    ∙ none_kept n k os other (All-tail (BeginsOn n) o os all)

-- the objects of the first drives, as they are told
abbrev told_to : List (List (List (List ℕ))) → ℕ → List told.Object
told_to tapes n = map object_told (objects (shelf_to tapes n))

-- those of one drive
abbrev told_of_drive : List (List (List (List ℕ))) → ℕ → List told.Object
told_of_drive tapes n = map object_told (objects_of (drive_blocks tapes n))

filter_more : (tapes : List (List (List (List ℕ)))) (k n : ℕ) → filter (is_of_drive k) (told_to tapes (suc n)) ≡ filter (is_of_drive k) (told_to tapes n) ++ filter (is_of_drive k) (told_of_drive tapes n)
filter_more tapes k n =
    let e : suc n ≡ n + 1 = omega arith in
    ap (λ (m : ℕ). filter (is_of_drive k) (told_to tapes m)) e
    ∙ ap (filter (is_of_drive k)) (sym (found_more tapes tapes n (told_to tapes n) (told_of_drive tapes n) (told_to tapes n ++ told_of_drive tapes n) refl refl refl refl))
    ∙ filter-append (is_of_drive k) (told_to tapes n) (told_of_drive tapes n)

none_before : (tapes : List (List (List (List ℕ)))) (k n : ℕ) → n ≤ k → filter (is_of_drive k) (told_to tapes n) ≡ []
none_before tapes k zero low = ap (filter (is_of_drive k)) (sym (nothing_found tapes))
none_before tapes k (suc n) low =
    filter_more tapes k n
    ∙ (λ i. none_before tapes k n (omega (arith, low)) i ++ none_kept n k (objects_of (drive_blocks tapes n)) (λ e. omega (arith, e, low)) (drive_begins tapes n) i)

all_within : (tapes : List (List (List (List ℕ)))) (k n : ℕ) → k < n → filter (is_of_drive k) (told_to tapes n) ≡ told_of_drive tapes k
all_within tapes k zero high = absurd (omega (arith, high))
all_within tapes k (suc n) high = filter_more tapes k n ∙ elim (cases_lt k n) as (λ _. filter (is_of_drive k) (told_to tapes n) ++ filter (is_of_drive k) (told_of_drive tapes n) ≡ told_of_drive tapes k) [
  | inl less ↦ (λ i. all_within tapes k n less i ++ none_kept n k (objects_of (drive_blocks tapes n)) (λ e. omega (arith, e, less)) (drive_begins tapes n) i) ∙ append-nil (told_of_drive tapes k)
  | inr from ↦
      let same : n ≡ k = omega (arith, high, from) in
      (λ i. none_before tapes k n from i ++ filter (is_of_drive k) (told_of_drive tapes (same i))) ∙ all_kept k (objects_of (drive_blocks tapes k)) (drive_begins tapes k)
]

-- what is told of all drives has the archive as the one object of its drive
pub archive_found : (tapes : List (List (List (List ℕ)))) (drive : ℕ) (x : Archived) (items : List told.Object) → drive < 5 → IsArchived x → IsOnDrive tapes drive x
    → items ≡ map object_told (objects (shelf_value tapes)) → filter (is_of_drive drive) items ≡ archive_told tapes drive x ∷ []
archive_found tapes drive x items there is on e = ap (filter (is_of_drive drive)) e ∙ all_within tapes drive 5 there ∙ archive_alone tapes drive x is on

-- ---- no block of that drive is outside

all_blocks : (blocks : List Block) (l : List Placed) → map item_of l ≡ all_there blocks → All (λ (q : Placed). is_none q.item ≡ false) l
all_blocks [] [] e = All-nil (λ (q : Placed). is_none q.item ≡ false)
all_blocks [] (q ∷ l) e = absurd (cc)
all_blocks (b ∷ blocks) [] e = absurd (cc)
all_blocks (b ∷ blocks) (q ∷ l) e =
    let item : q.item ≡ Some b = cc in
    let rest : map item_of l ≡ all_there blocks = cc in
    All-cons (λ (p : Placed). is_none p.item ≡ false) q l (ap (λ (o : Option Block). is_none o) item) (all_blocks blocks l rest)

-- a drive that has blocks alone has none outside
none_outside : (l : List Placed) → All (λ (q : Placed). is_none q.item ≡ false) l → (q : Placed) → first_outside l ≡ Some q → ⊥
none_outside l all q e =
    let found = found_is (λ (p : Placed). is_none p.item ≡ false) (λ (p : Placed). is_none p.item && not (covers (objects_of l) p)) l q all e in
    let none = and_parts (is_none q.item) (not (covers (objects_of l) q)) found.1 in
    let both : false ≡ true = sym found.0 ∙ none.0 in
    cc

-- the first block outside of a drive stands on that drive
outside_on : (n : ℕ) (l : List Placed) → AreOf n l → (q : Placed) → first_outside l ≡ Some q → q.drive ≡ n
outside_on n l of q e = (found_is (λ (p : Placed). p.drive ≡ n) (λ (p : Placed). is_none p.item && not (covers (objects_of l) p)) l q of e).0

-- a drive that spares another one: the first block outside is not of that one
spares : (tapes : List (List (List (List ℕ)))) (k n : ℕ) → All (λ (q : Placed). is_none q.item ≡ false) (drive_blocks tapes k) → (o : Option Placed) → first_outside (drive_blocks tapes n) ≡ o
    → (p : Place) → option_map place_told o ≡ Some p → p.drive ≡ k → ⊥
spares tapes k n all None e p is on = cc
spares tapes k n all (Some q) e p is on =
    let place : place_told q ≡ p = cc in
    let drive : n ≡ k = sym (outside_on n (drive_blocks tapes n) (drive_of tapes n) q e) ∙ ap (λ (r : Place). r.drive) place ∙ on in
    none_outside (drive_blocks tapes k) all q (ap (λ (d : ℕ). first_outside (drive_blocks tapes d)) (sym drive) ∙ e)

-- the first block outside of some drives and one more
either : (a b : Option Place) (p : Place) → option_or a b ≡ Some p → (a ≡ Some p) ⊎ (b ≡ Some p)
either None b p e = inr e
either (Some q) b p e = inl e

all_spare : (tapes : List (List (List (List ℕ)))) (k n : ℕ) → All (λ (q : Placed). is_none q.item ≡ false) (drive_blocks tapes k) → (p : Place) → option_map place_told (bad_outside (shelf_to tapes n)) ≡ Some p
    → p.drive ≡ k → ⊥
all_spare tapes k zero all p is on = cc
all_spare tapes k (suc n) all p is on =
    let e : suc n ≡ n + 1 = omega arith in
    let before : Option Place = option_map place_told (bad_outside (shelf_to tapes n)) in
    let more : Option Place = option_map place_told (first_outside (drive_blocks tapes n)) in
    let whole : option_or before more ≡ Some p = outside_more tapes tapes n before more (option_or before more) refl refl refl refl ∙ sym (ap (λ (m : ℕ). option_map place_told (bad_outside (shelf_to tapes m))) e) ∙ is in
    elim (either before more p whole) as (λ _. ⊥) [
      | inl was ↦ all_spare tapes k n all p was on
      | inr new ↦ spares tapes k n all (first_outside (drive_blocks tapes n)) refl p new on
    ]

-- a drive with an archive has no block that is named as damaged
pub archive_spared : (tapes : List (List (List (List ℕ)))) (drive : ℕ) (x : Archived) → IsArchived x → IsOnDrive tapes drive x → (p : Place) → option_map place_told (bad_outside (shelf_value tapes)) ≡ Some p
    → p.drive ≡ drive → ⊥
archive_spared tapes drive x is on p e on_it = all_spare tapes drive 5 (all_blocks (blocks_of_archive x) (drive_blocks tapes drive) (blocks_there tapes drive x is on)) p e on_it
