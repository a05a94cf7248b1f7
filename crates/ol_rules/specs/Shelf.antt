-- A shelf: for each drive its volumes of blocks, and the objects that stand on them.
use Rattle.std.specs.List.{enumerate_from, list_all, range_with_len}
use Rattle.std.specs.Prelude.{Bool, List, None, Option, Some, [], bytes_eq, drop, false, filter, filter_map, find, flat_map, fold, if◌then◌else◌, length, map, max, min, nat_le, nat_lt, not, position, take, true, ℕ, ◌&&◌, ◌++◌, ◌+◌, ◌-◌, ◌==◌, ◌^◌, ◌||◌, ◌∷◌}
use Rattle.ol_values.specs.Blocks.{Block, Empty, ArchiveHead, HeadHeld, LogHeld, PageHeld, Payload, archive_object, header_kind, log_object, mark_kind, mark_object, page_kind, records_kind, trailer_kind}
use Rattle.ol_values.specs.Blocks.{Saved}
use Rattle.ol_values.specs.Config.{Config, has_page, no_config}

-- a block of a shelf at its place; none where the bytes are no block
pub record Placed : Type 0 where
  pub drive : ℕ
  pub volume : ℕ
  pub block : ℕ
  pub item : Option Block

-- a complete object or a mark: the head that its trailer gives, and its span of blocks
pub record Object : Type 0 where
  pub head : Block
  pub span : List Placed

abbrev pub Shelf : Type 0
Shelf = List (List (List (Option Block)))

-- a block of which a number is too great counts as no block
abbrev pub readable : Block → Option Block
readable b = if nat_le b.incarnation (2 ^ 60) && nat_le b.number (2 ^ 60) then Some b else None

abbrev pub readable_item : Option Block → Option Block
readable_item None = None
readable_item (Some b) = readable b

abbrev pub placed_blocks : ℕ → ℕ × List (Option Block) → List Placed
placed_blocks drive v =
    map (λ (b : ℕ × Option Block). let p : Placed = record { drive = drive; volume = v.0; block = b.0; item = readable_item b.1 } in p) (enumerate_from 0 v.1)

-- the volumes of a drive in order, laid end to end
abbrev pub stream : ℕ × List (List (Option Block)) → List Placed
stream d = flat_map (placed_blocks d.0) (enumerate_from 1 d.1)

abbrev pub streams : Shelf → List (List Placed)
streams shelf = map stream (enumerate_from 0 shelf)

-- the object that begins at place s of a stream and has this block as its trailer, or as the whole of a mark
abbrev pub object_with : List Placed → ℕ → ℕ → Option Block → Option Object
object_with placed s t None = None
object_with placed s t (Some b) =
    if ((b.kind == mark_kind) && (s == t)) || ((b.kind == trailer_kind) && (s + b.index == t)) then
    Some (record { head = b; span = take (t + 1 - s) (drop s placed) })
    else None

abbrev pub objects_from : List Placed → ℕ → List Object
objects_from placed s =
    filter_map (λ (p : ℕ × Placed). object_with placed s p.0 p.1.item) (enumerate_from 0 placed)

abbrev pub objects_of : List Placed → List Object
objects_of placed = flat_map (objects_from placed) (range_with_len 0 (length placed))

-- the complete objects and marks, in order of place
unfoldable pub objects : Shelf → List Object
objects shelf = flat_map objects_of (streams shelf)

abbrev pub is_kind : ℕ → Object → Bool
is_kind object o = o.head.object == object

abbrev pub archives_on : Shelf → List Object
archives_on shelf = filter (is_kind archive_object) (objects shelf)

abbrev pub logs_on : Shelf → List Object
logs_on shelf = filter (is_kind log_object) (objects shelf)

abbrev pub marks_on : Shelf → List Object
marks_on shelf = filter (is_kind mark_object) (objects shelf)

-- ---- bad blocks

-- what a span has come to: the place and the position after the last block that belongs there, and whether the block before does
pub record Reached : Type 0 where
  pub space : ℕ
  pub page : ℕ
  pub position : ℕ
  pub sure : Bool
  pub bad : List Placed

abbrev pub saved_in : ℕ → List Saved → Option Saved
saved_in space saved = find (λ (s : Saved). s.space == space) saved

abbrev pub head_of : Payload → ArchiveHead
head_of (HeadHeld head _) = head
head_of _ = record { spaces = []; text = [] }

-- the configuration of an archive
abbrev pub config_of : Payload → Config
config_of (HeadHeld _ config) = config
config_of _ = no_config

abbrev pub same_saved : List Saved → List Saved → Bool
same_saved [] [] = true
same_saved (s ∷ ss) (t ∷ ts) = (s.space == t.space) && ((s.parent == t.parent) && ((s.base == t.base) && same_saved ss ts))
same_saved _ _ = false

-- whether two payloads of header and trailer are one
abbrev pub same_payload : Payload → Payload → Bool
same_payload Empty Empty = true
same_payload (HeadHeld g _) (HeadHeld h _) = same_saved g.spaces h.spaces && bytes_eq g.text h.text
same_payload _ _ = false

abbrev pub stamp_is : Payload → ℕ → Bool
stamp_is (PageHeld page) stamp = page.stamp == stamp
stamp_is _ stamp = false

abbrev pub is_after : Reached → ℕ → ℕ → Bool
is_after r space page = nat_lt r.space space || ((r.space == space) && nat_le r.page page)

-- a page block stands in the order of places, of a page that the configuration has, with a stamp above the base of its space and at most the cut
abbrev pub page_belongs : Reached → Block → Block → Option Saved → Bool
page_belongs r head b None = false
page_belongs r head b (Some s) =
    is_after r b.a b.b && (has_page (config_of head.payload) b.a b.b && (nat_lt s.base b.c && (nat_le b.c head.a && stamp_is b.payload b.c)))

-- a records block follows the one before it without a gap, and ends within the object
abbrev pub log_belongs : Reached → Block → Block → Payload → Bool
log_belongs r head b (LogHeld body) =
    (if r.sure then b.a == r.position else nat_le r.position b.a)
    && ((body.uniq == head.number) && ((body.first == b.a) && ((length body.records == b.b) && nat_le (b.a + b.b) (head.b + 1))))
log_belongs r head b _ = false

abbrev pub inner_belongs : Reached → Block → Block → Bool
inner_belongs r head b =
    if head.object == archive_object then (b.kind == page_kind) && page_belongs r head b (saved_in b.a (head_of head.payload).spaces)
    else (b.kind == records_kind) && log_belongs r head b b.payload

-- header and trailer have the fields and the payload of the object's head
abbrev pub end_belongs : ℕ → Block → Block → Bool
end_belongs kind head b =
    (b.kind == kind) && ((b.a == head.a) && ((b.b == head.b) && ((b.c == head.c) && same_payload b.payload head.payload)))

-- a log object has come to its last position, where the block before belongs there
abbrev pub has_all : Reached → Block → Bool
has_all r head = not (head.object == log_object) || (not r.sure || (r.position == head.b + 1))

-- whether a block of index i belongs there, in a span that has come so far
abbrev pub belongs : Block → Reached → ℕ → Block → Bool
belongs head r i b =
    (b.object == head.object) && ((b.incarnation == head.incarnation) && ((b.number == head.number) && ((b.index == i)
    && (if i == 0 then end_belongs header_kind head b
    else (if i == head.index then end_belongs trailer_kind head b && has_all r head else inner_belongs r head b)))))

abbrev pub reached_by : Reached → Block → Reached
reached_by r b =
    if b.kind == page_kind then record r { space = b.a; page = b.b + 1 }
    else if b.kind == records_kind then record r { position = b.a + b.b; sure = true }
    else r

abbrev pub reach_on : Block → Reached → Placed → ℕ → Option Block → Reached
reach_on head r p i None = record r { sure = false; bad = r.bad ++ p ∷ [] }
reach_on head r p i (Some b) =
    if belongs head r i b then reached_by r b else record r { sure = false; bad = r.bad ++ p ∷ [] }

-- the blocks of a span that do not belong at their places; of a mark there are none
abbrev pub bad_blocks : Object → List Placed
bad_blocks o =
    if o.head.kind == mark_kind then [] else
    (fold (λ (r : Reached) (p : ℕ × Placed). reach_on o.head r p.1 p.0 p.1.item)
    (record { space = 0; page = 0; position = o.head.a; sure = true; bad = [] })
    (enumerate_from 0 o.span)).bad

-- ---- counting

-- the ends that marks of a higher incarnation name
abbrev pub ends_above : Shelf → ℕ → List ℕ
ends_above shelf incarnation =
    map (λ (m : Object). m.head.a) (filter (λ (m : Object). nat_lt incarnation m.head.incarnation) (marks_on shelf))

abbrev pub archive_counts : Shelf → Object → Bool
archive_counts shelf o = list_all (λ e. nat_le o.head.a e) (ends_above shelf o.head.incarnation)

abbrev pub counting_archives : Shelf → List Object
counting_archives shelf = filter (archive_counts shelf) (archives_on shelf)

-- the last position that a log object counts for
abbrev pub reach_of : Shelf → Object → ℕ
reach_of shelf o = fold min o.head.b (ends_above shelf o.head.incarnation)

abbrev pub log_counts_at : Shelf → ℕ → Object → Bool
log_counts_at shelf position o = nat_le o.head.a position && nat_le position (reach_of shelf o)

-- the greatest position that a log object counts for, or 0
abbrev pub end_of : Shelf → ℕ
end_of shelf = fold (λ e (o : Object). if nat_le o.head.a (reach_of shelf o) then max e (reach_of shelf o) else e) 0 (logs_on shelf)
