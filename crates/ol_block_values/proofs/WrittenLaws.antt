-- A block that is written is read back as the same value.
use Rattle.std.proofs.Common.{◌≡◌, ℕ, ◌-◌, ◌<◌, ◌≤◌, ◌^◌, ◌++◌, ◌∙◌, Bool, List, [], ◌∷◌, Option, Some, ap, append_assoc, arith, drop, eq-eqb, eqb, false, flat_map, inl, inr, length, length-append, map, refl, replicate, subst, sym, take, true}
use Rattle.std.specs.List.{AllByRecursion}
use Rattle.std.specs.Prelude.{All, slice_index, ◌&&◌, ◌==◌, ◌||◌}
use Rattle.std.specs.Int.{from_be_bytes, to_be_bytes, w64}
use Rattle.std.proofs.lemmas.Bool.{and_from, or_left, or_right}
use Rattle.std.proofs.lemmas.List.{drop_at, length-replicate, take_at}
use Rattle.std.proofs.lemmas.List.Elements.{All-head, All-tail}
use Rattle.std.proofs.lemmas.Nat.{from_be_bytes-to_be_bytes_8}
use Rattle.ol_values.specs.declared.row.Row.{Row}
use Rattle.ol_values.specs.Blocks.{Block, Empty, HeadHeld, LogHeld, PageHeld, Payload, archive_object, header_kind, log_object, mark_object, page_kind, records_kind, trailer_kind}
use Rattle.ol_values.specs.Image.{IsPage, page_bytes, page_in, slot_bytes, slot_in, slots_bytes, slots_in}
use Rattle.ol_values.specs.LogPages.{LogPage}
use Rattle.ol_values.specs.Pages.{Page}
use Rattle.ol_object.specs.Bytes.{archive_head_bytes, bytes_of, head_of, padded_to, payload_bytes}
use Rattle.ol_object.specs.declared.block.Block.{Block as Head}
use Rattle.ol_object.proofs.Padding.{padded_to_whole}
use Rattle.ol_page.proofs.Slots.{RowFits, length-page_bytes, length-slot_bytes}
use Rattle.ol_page.proofs.Reading.{page_again, parts_of, slot_back}
use Rattle.ol_record.specs.LogPages.{log_page_bytes}
use Rattle.ol_record.specs.LogPages.{head_of as log_head_of, page_in as log_page_in}
use Rattle.ol_record.specs.PageReading.{page_at}
use Rattle.ol_record.proofs.Filled.{length_page}
use Rattle.ol_record.proofs.Pages.{filling_from, gate_back, page_in_back}
use Rattle.ol_record.proofs.Whole.{page_again as log_page_again}
use Rattle.ol_block_reading.specs.Grammar.{HasKind, IsBlock, IsEnd}
use Rattle.ol_block_reading.specs.Testing.{is_end}
use Rattle.ol_block_reading.proofs.Heads.{head_is_short}
use Rattle.ol_block_values.specs.Items.{HasNumbers, HoldsWritten, IsWritten, item_in, payload_in, shelf_of, value_of, wants_head, wants_log_page, wants_page}
use Rattle.ol_block_values.proofs.Blocks.{reads}
use Rattle.ol_block_values.proofs.Payloads.{as_log_page, as_nothing, as_page, config_is, head_is, log_page_is, no_pair, page_is}

-- ---- a data page

slots_back : (slots : List (Option Row)) (rest : List ℕ) → All RowFits slots → slots_in (length slots) (slots_bytes slots ++ rest) ≡ slots
unfolding slots_in slots_bytes
slots_back [] rest all = refl
slots_back (s ∷ slots) rest all =
    let parts : flat_map slot_bytes (s ∷ slots) ++ rest ≡ slot_bytes s ++ (slots_bytes slots ++ rest) = append_assoc (slot_bytes s) (flat_map slot_bytes slots) rest in
    let long = length-slot_bytes s (All-head RowFits s slots all) in
    let first : slot_in (take 64 (flat_map slot_bytes (s ∷ slots) ++ rest)) ≡ s =
    ap (λ (l : List ℕ). slot_in (take 64 l)) parts ∙ ap (λ (l : List ℕ). slot_in l) (take_at (slot_bytes s) (slots_bytes slots ++ rest) 64 long) ∙ slot_back s (All-head RowFits s slots all) in
    let others : slots_in (length slots) (drop 64 (flat_map slot_bytes (s ∷ slots) ++ rest)) ≡ slots =
    ap (λ (l : List ℕ). slots_in (length slots) (drop 64 l)) parts ∙ ap (slots_in (length slots)) (drop_at (slot_bytes s) (slots_bytes slots ++ rest) 64 long) ∙ slots_back slots rest (All-tail RowFits s slots all) in
    λ i. first i ∷ others i

pub page_back : (p : Page) (b : List ℕ) → IsPage p → b ≡ page_bytes p → page_in b ≡ p
page_back p b is e =
    let parts = parts_of p b is e in
    let behind : List ℕ = replicate 24 0 ++ to_be_bytes w64 p.stamp in
    let stamp : from_be_bytes w64 (take 8 b) ≡ p.stamp = ap (λ (l : List ℕ). from_be_bytes w64 l) parts.front ∙ from_be_bytes-to_be_bytes_8 p.stamp is.stamp in
    let slots : slots_in 31 (drop 32 b) ≡ p.slots =
    ap (λ (l : List ℕ). slots_in 31 l) parts.slots ∙ ap (λ (n : ℕ). slots_in n (slots_bytes p.slots ++ behind)) (sym is.whole) ∙ slots_back p.slots behind is.rows in
    λ i. record { stamp = stamp i; slots = slots i }

-- ---- a payload

-- bytes, and zeros behind them
pub record IsPadded (bytes p : List ℕ) : Type 0 where
  pub whole : length p ≡ 2048
  pub front : take (length bytes) p ≡ bytes
  pub behind : drop (length bytes) p ≡ replicate (2048 - length bytes) 0

padded_parts : (bytes : List ℕ) → length bytes ≤ 2048 → IsPadded bytes (padded_to 2048 bytes)
unfolding padded_to
padded_parts bytes le =
    let zeros : List ℕ = replicate (2048 - length bytes) 0 in
    record {
      whole = omega (arith, le, length-append bytes zeros, length-replicate {A = ℕ} (2048 - length bytes) 0);
      front = take_at bytes zeros (length bytes) refl;
      behind = drop_at bytes zeros (length bytes) refl;
    }

-- ---- kinds

end_small : (h : Head) → IsEnd h → h.kind < 2 ^ 8
end_small h (inl e) = omega (arith, e)
end_small h (inr e) = omega (arith, e)

kind_small : (h : Head) (used : List ℕ) → HasKind h used → (h.kind < 2 ^ 8) × (h.object < 2 ^ 8)
kind_small h used (inl is) = (end_small h is.kind, omega (arith, is.object))
kind_small h used (inr (inl is)) = (omega (arith, is.kind), omega (arith, is.object))
kind_small h used (inr (inr (inl is))) = (end_small h is.kind, omega (arith, is.object))
kind_small h used (inr (inr (inr (inl is)))) = (omega (arith, is.kind), omega (arith, is.object))
kind_small h used (inr (inr (inr (inr is)))) = (omega (arith, is.kind), omega (arith, is.object))

end_true : (h : Head) → IsEnd h → is_end h ≡ true
end_true h (inl e) = or_left (eqb h.kind header_kind) (eqb h.kind trailer_kind) (eq-eqb h.kind header_kind e)
end_true h (inr e) = or_right (eqb h.kind header_kind) (eqb h.kind trailer_kind) (eq-eqb h.kind trailer_kind e)

not_records : (h : Head) → IsEnd h → (h.kind == records_kind) ≡ false
not_records h (inl e) = ap (λ (k : ℕ). k == records_kind) e
not_records h (inr e) = ap (λ (k : ℕ). k == records_kind) e

pub wants_head_is : (h : Head) → h.object ≡ archive_object → IsEnd h → wants_head h ≡ true
wants_head_is h object kind = and_from (eqb h.object archive_object) (is_end h) (eq-eqb h.object archive_object object) (end_true h kind)

pub page_wanted : (h : Head) → h.object ≡ archive_object → h.kind ≡ page_kind → (wants_head h ≡ false) × (wants_page h ≡ true)
page_wanted h object kind =
    (λ i. (object i == archive_object) && ((kind i == header_kind) || (kind i == trailer_kind)), λ i. (object i == archive_object) && (kind i == page_kind))

no_archive : (h : Head) → (h.object == archive_object) ≡ false → (wants_head h ≡ false) × (wants_page h ≡ false)
no_archive h e = (ap (λ (t : Bool). t && is_end h) e, ap (λ (t : Bool). t && (h.kind == page_kind)) e)

-- what a log page, the end of a log object and a mark want
pub record IsNoArchive (h : Head) (log : Bool) : Type 0 where
  pub head : wants_head h ≡ false
  pub page : wants_page h ≡ false
  pub log_page : wants_log_page h ≡ log

pub log_page_wanted : (h : Head) → h.object ≡ log_object → h.kind ≡ records_kind → IsNoArchive h true
log_page_wanted h object kind =
    let none = no_archive h (ap (λ (o : ℕ). o == archive_object) object) in
    record { head = none.0; page = none.1; log_page = λ i. (object i == log_object) && (kind i == records_kind) }

pub log_end_wants : (h : Head) → h.object ≡ log_object → IsEnd h → IsNoArchive h false
log_end_wants h object kind =
    let none = no_archive h (ap (λ (o : ℕ). o == archive_object) object) in
    record { head = none.0; page = none.1; log_page = ap (λ (t : Bool). (h.object == log_object) && t) (not_records h kind) ∙ no_pair (h.object == log_object) }

pub mark_wants : (h : Head) → h.object ≡ mark_object → IsNoArchive h false
mark_wants h object =
    let none = no_archive h (ap (λ (o : ℕ). o == archive_object) object) in
    record { head = none.0; page = none.1; log_page = ap (λ (o : ℕ). (o == log_object) && (h.kind == records_kind)) object }

-- ---- a block

block_of : (b : Block) → HasNumbers b → length (payload_bytes b.payload) ≤ 2048 → HasKind (head_of b) (payload_bytes b.payload) → IsBlock (head_of b) (padded_to 2048 (payload_bytes b.payload))
block_of b n le kind =
    let parts = padded_parts (payload_bytes b.payload) le in
    let small = kind_small (head_of b) (payload_bytes b.payload) kind in
    record {
      fields = record {
        kind = small.0;
        object = small.1;
        incarnation = omega (arith, n.incarnation);
        number = omega (arith, n.number);
        index = n.index;
        used = omega (arith, le);
        a = n.first;
        b = n.second;
        c = n.third;
      };
      incarnation = n.incarnation;
      number = n.number;
      whole = parts.whole;
      used = le;
      rest = parts.behind;
      kind = subst (HasKind (head_of b)) (sym parts.front) kind;
    }

-- the payload fits, is of the block's kind, and is what is read from its bytes
record IsReadBack (b : Block) : Type 0 where
  le : length (payload_bytes b.payload) ≤ 2048
  kind : HasKind (head_of b) (payload_bytes b.payload)
  held : payload_in (head_of b) (padded_to 2048 (payload_bytes b.payload)) ≡ b.payload

read_back : (b : Block) (x : Payload) → b.payload ≡ x → HoldsWritten b x → IsReadBack b
read_back b Empty e (inl is) =
    let h = head_of b in
    let wants = log_end_wants h is.object is.kind in
    record {
      le = omega (arith, ap (λ (x : Payload). length (payload_bytes x)) e);
      kind = inr (inr (inl is));
      held = as_nothing h (padded_to 2048 (payload_bytes b.payload)) wants.head wants.page wants.log_page ∙ sym e;
    }
read_back b Empty e (inr is) =
    let h = head_of b in
    let wants = mark_wants h is.object in
    record {
      le = omega (arith, ap (λ (x : Payload). length (payload_bytes x)) e);
      kind = inr (inr (inr (inr is)));
      held = as_nothing h (padded_to 2048 (payload_bytes b.payload)) wants.head wants.page wants.log_page ∙ sym e;
    }
read_back b (HeadHeld head c) e is =
    let h = head_of b in
    let spelt : payload_bytes b.payload ≡ archive_head_bytes head = ap payload_bytes e in
    let le : length (payload_bytes b.payload) ≤ 2048 = omega (arith, ap length spelt, head_is_short head is.archive) in
    let parts = padded_parts (payload_bytes b.payload) le in
    record {
      le = le;
      kind = inl (record { object = is.object; kind = is.kind; cut = is.cut; level = is.level; head = (head, is.archive, spelt) });
      held = head_is h (padded_to 2048 (payload_bytes b.payload)) (wants_head_is h is.object is.kind) head is.archive (parts.front ∙ spelt) ∙ config_is head c is.text ∙ sym e;
    }
read_back b (PageHeld page) e is =
    let h = head_of b in
    let p = padded_to 2048 (payload_bytes b.payload) in
    let spelt : payload_bytes b.payload ≡ page_bytes page = ap payload_bytes e in
    let long : length (payload_bytes b.payload) ≡ 2048 = ap length spelt ∙ length-page_bytes page is.1.page in
    let image : p ≡ page_bytes page = padded_to_whole 2048 (payload_bytes b.payload) long ∙ spelt in
    let wants = page_wanted h is.0.0 is.0.1 in
    record {
      le = omega (arith, long);
      kind = inr (inl (record { object = is.0.0; kind = is.0.1; used = long }));
      held = as_page h p wants.0 wants.1 ∙ page_is p (page_again page p is.1 image) ∙ ap (λ (q : Page). let x : Payload = PageHeld q in x) (page_back page p is.1.page image) ∙ sym e;
    }
read_back b (LogHeld page) e is =
    let h = head_of b in
    let p = padded_to 2048 (payload_bytes b.payload) in
    let filling = filling_from page is.1 in
    let spelt : payload_bytes b.payload ≡ log_page_bytes 1 page = ap payload_bytes e in
    let long : length (payload_bytes b.payload) ≡ 2048 = ap length spelt ∙ length_page 1 page filling in
    let image : p ≡ log_page_bytes 1 page = padded_to_whole 2048 (payload_bytes b.payload) long ∙ spelt in
    let wants = log_page_wanted h is.0.0 is.0.1 in
    let gate : slice_index p 0 ≡ 1 = ap (λ (l : List ℕ). slice_index l 0) image ∙ gate_back 1 page in
    let found : page_at p ≡ Some (log_head_of page) = ap page_at image ∙ log_page_again 1 page is.1 in
    record {
      le = omega (arith, long);
      kind = inr (inr (inr (inl (record { object = is.0.0; kind = is.0.1; no_more = is.0.2; used = long }))));
      held = as_log_page h p wants.head wants.page wants.log_page ∙ log_page_is p (log_head_of page) gate found ∙ ap (λ (q : LogPage). let x : Payload = LogHeld q in x) (ap log_page_in image ∙ page_in_back 1 page filling) ∙ sym e;
    }

pub written_is_item : (b : Block) → IsWritten b → item_in (bytes_of b) ≡ Some b
written_is_item b is =
    let back = read_back b b.payload refl is.holds in
    let p = padded_to 2048 (payload_bytes b.payload) in
    let read = reads (bytes_of b) (head_of b) p (block_of b is.numbers back.le back.kind) refl in
    let same : value_of (head_of b) p ≡ b = λ i. record {
      kind = b.kind;
      object = b.object;
      incarnation = b.incarnation;
      number = b.number;
      index = b.index;
      a = b.a;
      b = b.b;
      c = b.c;
      payload = back.held i;
    } in
    read.item ∙ ap (λ (x : Block). let o : Option Block = Some x in o) same

-- ---- tapes

volume_is_read : (blocks : List Block) → AllByRecursion IsWritten blocks → map item_in (map bytes_of blocks) ≡ map (λ (b : Block). let o : Option Block = Some b in o) blocks
volume_is_read [] all = refl
volume_is_read (b ∷ blocks) all = λ i. written_is_item b all.0 i ∷ volume_is_read blocks all.1 i

volumes_are_read : (volumes : List (List Block)) → AllByRecursion (AllByRecursion IsWritten) volumes → map (map item_in) (map (map bytes_of) volumes) ≡ map (map (λ (b : Block). let o : Option Block = Some b in o)) volumes
volumes_are_read [] all = refl
volumes_are_read (v ∷ volumes) all = λ i. volume_is_read v all.0 i ∷ volumes_are_read volumes all.1 i

pub tapes_are_read : (tapes : List (List (List Block))) → AllByRecursion (AllByRecursion (AllByRecursion IsWritten)) tapes → shelf_of (map (map (map bytes_of)) tapes) ≡ map (map (map (λ (b : Block). let o : Option Block = Some b in o))) tapes
tapes_are_read [] all = refl
tapes_are_read (t ∷ tapes) all = λ i. volumes_are_read t all.0 i ∷ tapes_are_read tapes all.1 i
