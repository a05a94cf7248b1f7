-- One record more on a page: it moves one slot of one page, from any page.
use Rattle.std.specs.List.{range_with_len}
use Rattle.std.specs.Prelude.{List, None, Option, [], false, if◌then◌else◌, length, map, refl, slice_index_or, slice_set, suc, true, ℕ, ◌++◌, ◌+◌, ◌<◌, ◌==◌, ◌∷◌, ◌≡◌}
use Rattle.std.proofs.Common.{ap, arith, get_or-set_other, get_or-set_same, inl, inr, sym, ◌∙◌}
use Rattle.std.proofs.lemmas.Bool.Decides.{eqb_tells}
use Rattle.std.proofs.lemmas.List.{length-set}
use Rattle.ol_values.specs.declared.record.Record.{Record}
use Rattle.ol_values.specs.declared.record.Record.TheVariants.{Change, Undo}
use Rattle.ol_values.specs.declared.record.Rid.{Rid}
use Rattle.ol_values.specs.declared.row.Row.{Row}
use Rattle.ol_values.specs.Image.{with_slot}
use Rattle.ol_values.specs.Pages.{Page, rid_of}
use Rattle.ol_rules.specs.Journal.{page_from, row_after, row_from, same_place, touches}
use Rattle.ol_laws.proofs.JournalLaws.{row_kept, same_pages, same_self}
use Rattle.ol_laws.proofs.PageLaws.{page_from-append}
use Rattle.ol_stand_laws.proofs.SoundPages.{slots_whole}

-- a list is what a function gives of its indexes, where they agree at each
listed : {X : Type 0} (l : List X) (d : X) (g : ℕ → X) (a : ℕ) → ((k : ℕ) → k < length l → g (a + k) ≡ slice_index_or l k d) → map g (range_with_len a (length l)) ≡ l
listed [] d g a same = refl
listed {X = X} (x ∷ l) d g a same =
    ap (λ (y : X). y ∷ map g (range_with_len (a + 1) (length l))) (ap g (let e : a ≡ a + 0 = omega arith in e) ∙ same 0 (omega arith))
    ∙ ap (λ (m : List X). x ∷ m) (listed l d g (a + 1) (λ k lt. ap g (let e : a + 1 + k ≡ a + suc k = omega arith in e) ∙ same (suc k) (omega (arith, lt))))

-- the slots of a page after a record, where each slot is known
slots_are : (p : Page) (r : Record) (space page : ℕ) (slots : List (Option Row)) → length slots ≡ 31
    → ((k : ℕ) → k < 31 → row_after (rid_of space page k) (slice_index_or p.slots k None) r ≡ slice_index_or slots k None)
    → map (λ k. row_from (slice_index_or p.slots k None) (r ∷ []) (rid_of space page k)) (range_with_len 0 31) ≡ slots
slots_are p r space page slots whole each =
    let g : ℕ → Option Row = λ k. row_from (slice_index_or p.slots k None) (r ∷ []) (rid_of space page k) in
    ap (λ (n : ℕ). map g (range_with_len 0 n)) (sym whole)
    ∙ listed slots None g 0 (λ k lt. ap g (let e : 0 + k ≡ k = omega arith in e) ∙ each k (omega (arith, lt, whole)))

-- what a record that changes this place leaves in a slot of its page
at_slot : (rid : Rid) (k : ℕ) (held value : Option Row) → (if same_place rid (rid_of rid.space rid.page k) then value else held) ≡ (if rid.slot == k then value else held)
at_slot rid k held value = rw (same_self rid.space, same_self rid.page) refl

set_slot : (slots : List (Option Row)) (slot k : ℕ) (value : Option Row) → slot < length slots → (if slot == k then value else slice_index_or slots k None) ≡ slice_index_or (slice_set slots slot value) k None
set_slot slots slot k value lt =
    elim (eqb_tells slot k) [
      | inl e ↦ rw (e.0) (sym (get_or-set_same slots slot value None lt) ∙ ap (λ (i : ℕ). slice_index_or (slice_set slots slot value) i None) e.1)
      | inr e ↦ rw (e.0) (sym (get_or-set_other slots slot k value None (λ q. e.1 (sym q))))
    ]

-- a record that leaves a value at a place, on any page
moved : (p : Page) (n : ℕ) (r : Record) (rid : Rid) (value : Option Row) → length p.slots ≡ 31 → rid.slot < 31 → touches rid.space rid.page r ≡ true
    → ((k : ℕ) (held : Option Row) → row_after (rid_of rid.space rid.page k) held r ≡ (if same_place rid (rid_of rid.space rid.page k) then value else held))
    → page_from p n (r ∷ []) rid.space rid.page ≡ with_slot p rid.slot value n
unfolding page_from
moved p n r rid value whole lt touched leaves =
    same_pages _ _ _ _
    (rw (touched) refl)
    (slots_are p r rid.space rid.page (slice_set p.slots rid.slot value) (length-set p.slots rid.slot value ∙ whole)
    (λ k le. leaves k (slice_index_or p.slots k None) ∙ at_slot rid k (slice_index_or p.slots k None) value ∙ set_slot p.slots rid.slot k value (omega (arith, lt, whole))))

self_touched : (rid : Rid) → touches rid.space rid.page (Undo 0 rid None) ≡ true
self_touched rid = rw (same_self rid.space, same_self rid.page) refl

pub change_moves : (p : Page) (n txn : ℕ) (rid : Rid) (before after : Option Row) → length p.slots ≡ 31 → rid.slot < 31
    → page_from p n (Change txn rid before after ∷ []) rid.space rid.page ≡ with_slot p rid.slot after n
change_moves p n txn rid before after whole lt = moved p n (Change txn rid before after) rid after whole lt (self_touched rid) (λ k held. refl)

pub undo_moves : (p : Page) (n txn : ℕ) (rid : Rid) (value : Option Row) → length p.slots ≡ 31 → rid.slot < 31
    → page_from p n (Undo txn rid value ∷ []) rid.space rid.page ≡ with_slot p rid.slot value n
undo_moves p n txn rid value whole lt = moved p n (Undo txn rid value) rid value whole lt (self_touched rid) (λ k held. refl)

pub other_stays : (p : Page) (n : ℕ) (r : Record) (space page : ℕ) → length p.slots ≡ 31 → touches space page r ≡ false → page_from p n (r ∷ []) space page ≡ p
unfolding page_from
other_stays p n r space page whole untouched =
    same_pages _ _ _ _
    (rw (untouched) refl)
    (slots_are p r space page p.slots whole (λ k lt. row_kept r space page k (slice_index_or p.slots k None) untouched))

-- ---- behind other records

pub change_more : (base : Page) (first : ℕ) (records : List Record) (txn : ℕ) (rid : Rid) (before after : Option Row) → rid.slot < 31
    → page_from base first (records ++ Change txn rid before after ∷ []) rid.space rid.page ≡ with_slot (page_from base first records rid.space rid.page) rid.slot after (first + length records)
change_more base first records txn rid before after lt =
    page_from-append base first records (Change txn rid before after ∷ []) rid.space rid.page
    ∙ change_moves (page_from base first records rid.space rid.page) (first + length records) txn rid before after (slots_whole base first records rid.space rid.page) lt

pub undo_more : (base : Page) (first : ℕ) (records : List Record) (txn : ℕ) (rid : Rid) (value : Option Row) → rid.slot < 31
    → page_from base first (records ++ Undo txn rid value ∷ []) rid.space rid.page ≡ with_slot (page_from base first records rid.space rid.page) rid.slot value (first + length records)
undo_more base first records txn rid value lt =
    page_from-append base first records (Undo txn rid value ∷ []) rid.space rid.page
    ∙ undo_moves (page_from base first records rid.space rid.page) (first + length records) txn rid value (slots_whole base first records rid.space rid.page) lt

pub other_more : (base : Page) (first : ℕ) (records : List Record) (r : Record) (space page : ℕ) → touches space page r ≡ false
    → page_from base first (records ++ r ∷ []) space page ≡ page_from base first records space page
other_more base first records r space page untouched =
    page_from-append base first records (r ∷ []) space page
    ∙ other_stays (page_from base first records space page) (first + length records) r space page (slots_whole base first records space page) untouched
