-- Pages that are drawn from a shelf hold nothing or rows of at most 63 bytes, where all objects on it do.
use Rattle.std.specs.List.{cons_option, last_or, range_with_len, enumerate_from}
use Rattle.std.specs.Prelude.{All, Bool, Err, List, None, Ok, Option, Result, Some, [], cond, false, filter, filter_map, find, flat_map, fold, if◌then◌else◌, is_some, map, nat_le, nat_lt, refl, slice_get, slice_index_or, suc, true, unwrap_or, zero, ℕ, ◌&&◌, ◌++◌, ◌+◌, ◌-◌, ◌==◌, ◌∷◌, ◌≡◌, take, drop, length, ◌^◌, ◌||◌}
use Rattle.std.proofs.Common.{ap}
use Rattle.std.proofs.lemmas.List.Elements.{All-append, All-cons, All-filter, All-head, All-map, All-nil, All-tail, All-weaker, All-take, All-drop}
use Rattle.ol_values.specs.declared.event.Reply.{Reply}
use Rattle.ol_values.specs.declared.record.Record.{Record}
use Rattle.ol_values.specs.declared.record.Record.TheVariants.{Begin as BeginRecord, Change, Commit as CommitRecord, Rolled, Undo}
use Rattle.ol_values.specs.declared.record.Rid.{Rid}
use Rattle.ol_values.specs.declared.row.Row.{Row}
use Rattle.ol_values.specs.Blocks.{Block, Empty, HeadHeld, LogHeld, PageHeld, Payload, SavedPage, archive_object, log_object, mark_kind, trailer_kind}
use Rattle.ol_values.specs.Pages.{Page, blank, rid_of}
use Rattle.ol_rules.specs.Drawn.{drawn, drawn_by, drawn_over, record_behind, record_drawn, record_in_item, record_in_payload, record_on, saved_item, saved_pages, saved_payload}
use Rattle.ol_rules.specs.Journal.{page_from, row_after, row_from}
use Rattle.ol_rules.specs.Plan.{and_up, chain_of, first_link, further_of, is_later, last_archive, later_of, log_at, needed, one_up, parent_of, saved_by, short_of, with_parent}
use Rattle.ol_rules.specs.Saveset.{lay_after, lay_from}
use Rattle.ol_rules.specs.Shelf.{Object, Placed, Shelf, archive_counts, archives_on, counting_archives, is_kind, log_counts_at, logs_on, objects, reach_of, object_with, objects_from, objects_of, placed_blocks, readable_item, stream, streams}
use Rattle.ol_rules.specs.Sound.{is_value}
use Rattle.ol_rules.specs.Start.{Start}
use Rattle.ol_turn_laws.proofs.LowLaws.{of_equal}
use Rattle.ol_turn_laws.proofs.ValueLaws.{either}
use Rattle.ol_turn_laws.specs.Room.{HasShortBlocks, HasShortItem, HasShortPayload, HoldsShort, HoldsShortBlocks, HoldsShortRows, LeavesShort}

-- ---- what is found among those of which all have a property

-- what there is, if anything, has the property
abbrev IfAny : {X : Type 0} → (X → Type 0) → Option X → Type 0
IfAny P None = Unit {0}
IfAny P (Some x) = P x

found_any : {X : Type 0} (P : X → Type 0) (test : X → Bool) (l : List X) → All P l → IfAny P (find test l)
found_any P test [] h = tt
found_any P test (x ∷ l) h = elim (test x) as (λ b. IfAny P (cond b (Some x) (find test l))) [ true ↦ All-head P x l h | false ↦ found_any P test l (All-tail P x l h) ]

got_any : {X : Type 0} (P : X → Type 0) (l : List X) (i : ℕ) → All P l → IfAny P (slice_get l i)
got_any P [] i h = tt
got_any P (x ∷ l) zero h = All-head P x l h
got_any P (x ∷ l) (suc i) h = got_any P l i (All-tail P x l h)

best_any : {X : Type 0} (P : X → Type 0) (better : Option X → X → Option X) → ((o : Option X) (x : X) → IfAny P o → P x → IfAny P (better o x)) → (l : List X) (o : Option X)
    → IfAny P o → All P l → IfAny P (fold better o l)
best_any P better keeps [] o h all = h
best_any P better keeps (x ∷ l) o h all = best_any P better keeps l (better o x) (keeps o x h (All-head P x l all)) (All-tail P x l all)

cons_any : {X : Type 0} (P : X → Type 0) (o : Option X) (l : List X) → IfAny P o → All P l → All P (cons_option o l)
cons_any P None l h all = all
cons_any P (Some x) l h all = All-cons P x l h all

all_any : {X Y : Type 0} (P : Y → Type 0) (f : X → Option Y) (l : List X) → All (λ x. IfAny P (f x)) l → All P (filter_map f l)
all_any P f [] h = All-nil P
all_any P f (x ∷ l) h = cons_any P (f x) (filter_map f l) (All-head (λ y. IfAny P (f y)) x l h) (all_any P f l (All-tail (λ y. IfAny P (f y)) x l h))

all_flat : {X Y : Type 0} (P : X → Type 0) (Q : Y → Type 0) (f : X → List Y) → ((x : X) → P x → All Q (f x)) → (l : List X) → All P l → All Q (flat_map f l)
all_flat P Q f gives [] h = All-nil Q
all_flat P Q f gives (x ∷ l) h = All-append Q (f x) (flat_map f l) (gives x (All-head P x l h)) (all_flat P Q f gives l (All-tail P x l h))

-- numbered elements have the property that all had
all_numbered : {X : Type 0} (P : X → Type 0) (l : List X) (a : ℕ) → All P l → All (λ (p : ℕ × X). P p.1) (enumerate_from a l)
all_numbered P [] a h = All-nil (λ p. P p.1)
all_numbered P (x ∷ l) a h = All-cons (λ p. P p.1) (a, x) (enumerate_from (a + 1) l) (All-head P x l h) (all_numbered P l (a + 1) (All-tail P x l h))

-- ---- rows and pages after records

pub row_short : (held : Option Row) (records : List Record) (place : Rid) → is_value held ≡ true → All LeavesShort records → is_value (row_from held records place) ≡ true
row_short held [] place h all = h
row_short held (r ∷ records) place h all = row_short (row_after place held r) records place (step r (All-head LeavesShort r records all)) (All-tail LeavesShort r records all)
  where
    step : (r : Record) → LeavesShort r → is_value (row_after place held r) ≡ true
    step (BeginRecord n) l = h
    step (Change n rid before after) l = either place rid after held l h
    step (Undo n rid value) l = either place rid value held l h
    step (CommitRecord n) l = h
    step (Rolled n) l = h

slots_short : (f : ℕ → Option Row) → ((k : ℕ) → is_value (f k) ≡ true) → (l : List ℕ) (slot : ℕ) → is_value (slice_index_or (map f l) slot None) ≡ true
slots_short f h [] slot = refl
slots_short f h (k ∷ l) zero = h k
slots_short f h (k ∷ l) (suc slot) = slots_short f h l slot

pub page_short : (base : Page) (first : ℕ) (records : List Record) (space page : ℕ) → HoldsShort base → All LeavesShort records → HoldsShort (page_from base first records space page)
unfolding page_from
page_short base first records space page h all =
    λ slot. slots_short (λ k. row_from (slice_index_or base.slots k None) records (rid_of space page k)) (λ k. row_short (slice_index_or base.slots k None) records (rid_of space page k) (h k) all) (range_with_len 0 31) slot

pub blank_short : HoldsShort blank
blank_short = λ slot. ap (λ (o : Option Row). is_value o) (of_equal 31 slot None)

-- ---- archives laid over one another

abbrev ShortImage : SavedPage → Type 0
ShortImage p = HoldsShort p.image

payload_saved : (space page : ℕ) (p : Payload) → HasShortPayload p → All ShortImage (saved_payload space page p)
payload_saved space page (PageHeld image) h = All-cons ShortImage (record { space = space; page = page; image = image }) [] h (All-nil ShortImage)
payload_saved space page (LogHeld records) h = All-nil ShortImage
payload_saved space page (HeadHeld head config) h = All-nil ShortImage
payload_saved space page Empty h = All-nil ShortImage

item_saved : (i : Option Block) → HasShortItem i → All ShortImage (saved_item i)
item_saved None h = All-nil ShortImage
item_saved (Some b) h = payload_saved b.a b.b b.payload h

object_saved : (o : Object) → HasShortBlocks o → All ShortImage (saved_pages o)
object_saved o h = all_flat (λ (p : Placed). HasShortItem p.item) ShortImage (λ (p : Placed). saved_item p.item) (λ p q. item_saved p.item q) o.span h

lay_short : (space page : ℕ) (laid : List (List SavedPage)) (under : Page) → HoldsShort under → All (All ShortImage) laid → HoldsShort (lay_from under laid space page)
lay_short space page [] under h all = h
lay_short space page (pages ∷ laid) under h all =
    lay_short space page laid (fold (lay_after space page) under pages) (one pages under h (All-head (All ShortImage) pages laid all)) (All-tail (All ShortImage) pages laid all)
  where
    one : (pages : List SavedPage) (under : Page) → HoldsShort under → All ShortImage pages → HoldsShort (fold (lay_after space page) under pages)
    one [] under h all = h
    one (p ∷ pages) under h all =
        one pages (lay_after space page under p)
        (elim ((p.space == space) && (p.page == page)) as (λ b. HoldsShort (if b then p.image else under)) [ true ↦ All-head ShortImage p pages all | false ↦ h ])
        (All-tail ShortImage p pages all)

-- ---- chains

abbrev ShortChain : Result (List Object) Reply → Type 0
ShortChain (Err refusal) = Unit {0}
ShortChain (Ok chain) = All HasShortBlocks chain

counting_short : (shelf : Shelf) → HoldsShortRows shelf → All HasShortBlocks (counting_archives shelf)
counting_short shelf h = All-filter (archive_counts shelf) HasShortBlocks (archives_on shelf) (All-filter (is_kind archive_object) HasShortBlocks (objects shelf) h)

later_short : (best : Option Object) (o : Object) → IfAny HasShortBlocks best → HasShortBlocks o → IfAny HasShortBlocks (later_of best o)
later_short None o b h = h
later_short (Some best) o b h = elim (is_later o best) as (λ (t : Bool). IfAny HasShortBlocks (if t then Some o else Some best)) [ true ↦ h | false ↦ b ]

last_short : (shelf : Shelf) (space end_ : ℕ) → HoldsShortRows shelf → IfAny HasShortBlocks (last_archive shelf space end_)
last_short shelf space end_ h =
    let test : Object → Bool = λ (o : Object). is_some (saved_by space o) && nat_le o.head.a end_ in
    best_any HasShortBlocks later_of later_short (filter test (counting_archives shelf)) None tt (All-filter test HasShortBlocks (counting_archives shelf) (counting_short shelf h))

with_parent_short : (space : ℕ) (chain : List Object) (child : Object) (o : Option Object) → All HasShortBlocks chain → IfAny HasShortBlocks o → ShortChain (with_parent space chain child o)
with_parent_short space chain child None all h = tt
with_parent_short space chain child (Some o) all h = All-cons HasShortBlocks o chain h all

one_up_short : (shelf : Shelf) (space : ℕ) (chain : List Object) → HoldsShortRows shelf → All HasShortBlocks chain → ShortChain (one_up shelf space chain)
one_up_short shelf space [] h all = all
one_up_short shelf space (o ∷ chain) h all =
    elim (o.head.c == 0) as (λ b. ShortChain (if b then Ok (o ∷ chain) else with_parent space (o ∷ chain) o (parent_of shelf space o))) [
      | true ↦ all
      | false ↦ with_parent_short space (o ∷ chain) o (parent_of shelf space o) all (found_any HasShortBlocks _ (counting_archives shelf) (counting_short shelf h))
    ]

and_up_short : (shelf : Shelf) (space : ℕ) (r : Result (List Object) Reply) → HoldsShortRows shelf → ShortChain r → ShortChain (and_up shelf space r)
and_up_short shelf space (Err refusal) h c = tt
and_up_short shelf space (Ok chain) h c = one_up_short shelf space chain h c

first_short : (space : ℕ) (o : Option Object) → IfAny HasShortBlocks o → ShortChain (first_link space o)
first_short space None h = tt
first_short space (Some o) h = All-cons HasShortBlocks o [] h (All-nil HasShortBlocks)

chain_short : (shelf : Shelf) (end_ space : ℕ) → HoldsShortRows shelf → ShortChain (chain_of shelf end_ space)
chain_short shelf end_ space h =
    let first = first_link space (last_archive shelf space end_) in
    and_up_short shelf space (and_up shelf space first) h (and_up_short shelf space first h (first_short space (last_archive shelf space end_) (last_short shelf space end_ h)))

-- ---- records on the shelf and on disk

further_short : (shelf : Shelf) (best : Option Object) (o : Object) → IfAny HasShortBlocks best → HasShortBlocks o → IfAny HasShortBlocks (further_of shelf best o)
further_short shelf None o b h = h
further_short shelf (Some best) o b h = elim (nat_lt (reach_of shelf best) (reach_of shelf o)) as (λ (t : Bool). IfAny HasShortBlocks (if t then Some o else Some best)) [ true ↦ h | false ↦ b ]

log_short : (shelf : Shelf) (position : ℕ) → HoldsShortRows shelf → IfAny HasShortBlocks (log_at shelf position)
log_short shelf position h =
    best_any HasShortBlocks (further_of shelf) (further_short shelf) (filter (log_counts_at shelf position) (logs_on shelf)) None tt
    (All-filter (log_counts_at shelf position) HasShortBlocks (logs_on shelf) (All-filter (is_kind log_object) HasShortBlocks (objects shelf) h))

payload_record : (position : ℕ) (p : Payload) → HasShortPayload p → IfAny LeavesShort (record_in_payload position p)
payload_record position (PageHeld image) h = tt
payload_record position (LogHeld page) h =
    elim (nat_le page.first position) as (λ b. IfAny LeavesShort (if b then slice_get page.records (position - page.first) else None)) [ true ↦ got_any LeavesShort page.records (position - page.first) h | false ↦ tt ]
payload_record position (HeadHeld head config) h = tt
payload_record position Empty h = tt

item_record : (position : ℕ) (i : Option Block) → HasShortItem i → IfAny LeavesShort (record_in_item position i)
item_record position None h = tt
item_record position (Some b) h = payload_record position b.payload h

object_record : (position : ℕ) (o : Option Object) → IfAny HasShortBlocks o → IfAny LeavesShort (record_on position o)
object_record position None h = tt
object_record position (Some o) h =
    let f : Placed → Option Record = λ (p : Placed). record_in_item position p.item in
    got_any LeavesShort (filter_map f o.span) 0
    (all_any LeavesShort f o.span (All-weaker (λ (p : Placed). HasShortItem p.item) (λ p. IfAny LeavesShort (f p)) (λ p h. item_record position p.item h) o.span h))

record_short : (shelf : Shelf) (s : Start) (records : List Record) (short : Option ℕ) (position : ℕ) → HoldsShortRows shelf → All LeavesShort (s.kept ++ records)
    → IfAny LeavesShort (record_drawn shelf s records short position)
record_short shelf s records None position h all = object_record position (log_at shelf position) (log_short shelf position h)
record_short shelf s records (Some short) position h all =
    elim (nat_lt position short) as (λ b. IfAny LeavesShort (if b then record_on position (log_at shelf position) else record_behind s records position)) [
      | true ↦ object_record position (log_at shelf position) (log_short shelf position h)
      | false ↦
          elim (nat_le s.first position) as (λ b. IfAny LeavesShort (if b then slice_get (s.kept ++ records) (position - s.first) else None)) [
            | true ↦ got_any LeavesShort (s.kept ++ records) (position - s.first) all
            | false ↦ tt
          ]
    ]

-- ---- drawn pages

over_short : (shelf : Shelf) (s : Start) (records : List Record) (end_ space page : ℕ) (chain : List Object) → HoldsShortRows shelf → All LeavesShort (s.kept ++ records) → All HasShortBlocks chain
    → HoldsShort (drawn_over shelf s records end_ space page chain)
over_short shelf s records end_ space page [] h all c = blank_short
over_short shelf s records end_ space page (o ∷ chain) h all c =
    let last = unwrap_or (last_or None (o ∷ chain)) o in
    let short = short_of shelf last.head.b end_ in
    let positions = needed (last.head.a + 1) end_ in
    page_short _ _ _ space page
    (lay_short space page (map saved_pages (o ∷ chain)) blank blank_short
    (All-map (All ShortImage) saved_pages (o ∷ chain) (All-weaker HasShortBlocks (λ p. All ShortImage (saved_pages p)) (λ p q. object_saved p q) (o ∷ chain) c)))
    (all_any LeavesShort (record_drawn shelf s records short) positions (λ k d lt. record_short shelf s records short (slice_index_or positions k d) h all))

by_short : (shelf : Shelf) (s : Start) (records : List Record) (end_ space page : ℕ) (r : Result (List Object) Reply) → HoldsShortRows shelf → All LeavesShort (s.kept ++ records) → ShortChain r
    → HoldsShort (drawn_by shelf s records end_ space page r)
by_short shelf s records end_ space page (Err refusal) h all c = blank_short
by_short shelf s records end_ space page (Ok chain) h all c = over_short shelf s records end_ space page chain h all c

pub drawn_short : (shelf : Shelf) (s : Start) (records : List Record) (end_ space page : ℕ) → HoldsShortRows shelf → All LeavesShort (s.kept ++ records)
    → HoldsShort (drawn shelf s records end_ space page)
drawn_short shelf s records end_ space page h all = by_short shelf s records end_ space page (chain_of shelf end_ space) h all (chain_short shelf end_ space h)

-- ---- shelves

abbrev ShortPlaced : Placed → Type 0
ShortPlaced p = HasShortItem p.item

readable_short : (i : Option Block) → HasShortItem i → HasShortItem (readable_item i)
readable_short None h = tt
readable_short (Some b) h = elim (nat_le b.incarnation (2 ^ 60) && nat_le b.number (2 ^ 60)) as (λ t. HasShortItem (if t then Some b else None)) [ true ↦ h | false ↦ tt ]

volume_short : (drive : ℕ) (v : ℕ × List (Option Block)) → All HasShortItem v.1 → All ShortPlaced (placed_blocks drive v)
volume_short drive v h =
    let place : ℕ × Option Block → Placed = λ (b : ℕ × Option Block). record { drive = drive; volume = v.0; block = b.0; item = readable_item b.1 } in
    All-map ShortPlaced place (enumerate_from 0 v.1)
    (All-weaker (λ (b : ℕ × Option Block). HasShortItem b.1) (λ b. ShortPlaced (place b)) (λ b q. readable_short b.1 q) (enumerate_from 0 v.1) (all_numbered HasShortItem v.1 0 h))

stream_short : (d : ℕ × List (List (Option Block))) → All (λ (blocks : List (Option Block)). All HasShortItem blocks) d.1 → All ShortPlaced (stream d)
stream_short d h =
    all_flat (λ (v : ℕ × List (Option Block)). All HasShortItem v.1) ShortPlaced (placed_blocks d.0) (λ v q. volume_short d.0 v q) (enumerate_from 1 d.1)
    (all_numbered (λ (blocks : List (Option Block)). All HasShortItem blocks) d.1 1 h)

object_short : (placed : List Placed) (s t : ℕ) (o : Option Block) → All ShortPlaced placed → IfAny HasShortBlocks (object_with placed s t o)
object_short placed s t None h = tt
object_short placed s t (Some b) h =
    let o : Object = record { head = b; span = take (t + 1 - s) (drop s placed) } in
    elim (((b.kind == mark_kind) && (s == t)) || ((b.kind == trailer_kind) && (s + b.index == t))) as (λ c. IfAny HasShortBlocks (if c then Some o else None)) [
      | true ↦ All-take ShortPlaced (t + 1 - s) (drop s placed) (All-drop ShortPlaced s placed h)
      | false ↦ tt
    ]

objects_short : (placed : List Placed) → All ShortPlaced placed → All HasShortBlocks (objects_of placed)
objects_short placed h =
    all_flat (λ s. Unit {0}) HasShortBlocks (objects_from placed)
    (λ s u. all_any HasShortBlocks (λ (p : ℕ × Placed). object_with placed s p.0 p.1.item) (enumerate_from 0 placed)
    (λ k d lt. (let p = slice_index_or (enumerate_from 0 placed) k d in object_short placed s p.0 p.1.item h)))
    (range_with_len 0 (length placed)) (λ k d lt. tt)

pub shelf_short : (shelf : Shelf) → HoldsShortBlocks shelf → HoldsShortRows shelf
unfolding objects
shelf_short shelf h =
    all_flat (All ShortPlaced) HasShortBlocks objects_of (λ placed q. objects_short placed q) (streams shelf)
    (All-map (All ShortPlaced) stream (enumerate_from 0 shelf)
    (All-weaker (λ (d : ℕ × List (List (Option Block))). All (λ (blocks : List (Option Block)). All HasShortItem blocks) d.1) (λ d. All ShortPlaced (stream d)) (λ d q. stream_short d q) (enumerate_from 0 shelf)
    (all_numbered (λ (volumes : List (List (Option Block))). All (λ (blocks : List (Option Block)). All HasShortItem blocks) volumes) shelf 0 h)))
