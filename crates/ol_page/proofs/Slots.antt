-- The slots of a page one after the other, 64 bytes each; what one that is replaced makes of them, and of the whole image.
use Rattle.std.proofs.Common.{◌≡◌, ℕ, ◌+◌, ◌-◌, ◌*◌, ◌<◌, ◌≤◌, ◌^◌, ◌++◌, ◌∙◌, List, [], ◌∷◌, None, Option, Some, ap, arith, drop, length, lit<, refl, replicate, sym, take, zero, suc}
use Rattle.std.specs.Prelude.{All, IfSome, flat_map, slice_set}
use Rattle.std.specs.Int.{w64, to_be_bytes}
use Rattle.std.proofs.Math.Seq.{drop-append-add, take-append-add}
use Rattle.std.proofs.lemmas.List.{append-nil, append_assoc, drop-append-le, drop-drop, drop-replicate, drop_all, length-append, length-replicate, set_split, take-append-le, take_all}
use Rattle.std.proofs.lemmas.List.Concat.{flat_map-append}
use Rattle.std.proofs.lemmas.List.Elements.{All-head, All-replicate, All-set, All-tail}
use Rattle.std.proofs.Math.ListN.{length-set}
use Rattle.ol_values.specs.declared.row.Row.{Row}
use Rattle.ol_values.specs.Pages.{Page, blank}
use Rattle.ol_values.specs.Image.{IsPage, page_bytes, slot_bytes, slots_bytes, with_slot}
use Rattle.ol_bytes.specs.Overwriting.{overwritten}

-- a row fits its slot
abbrev pub RowFits : Option Row → Type 0
RowFits s = IfSome s (λ row. length row ≤ 63)

-- a slot has 64 bytes
pub length-slot_bytes : (s : Option Row) → RowFits s → length (slot_bytes s) ≡ 64
length-slot_bytes None h = refl
length-slot_bytes (Some row) h = simp (length-append, length-replicate) (omega arith)

-- and all of them 64 each
pub length-slots_bytes : (slots : List (Option Row)) → All RowFits slots → length (slots_bytes slots) ≡ 64 * length slots
unfolding slots_bytes
length-slots_bytes [] h = refl
length-slots_bytes (s ∷ slots) h =
    omega (arith, length-append (slot_bytes s) (flat_map slot_bytes slots), length-slot_bytes s (All-head RowFits s slots h), length-slots_bytes slots (All-tail RowFits s slots h))

-- the bytes of the first slots
pub take-slots_bytes : (k : ℕ) (slots : List (Option Row)) → All RowFits slots → take (64 * k) (slots_bytes slots) ≡ slots_bytes (take k slots)
unfolding slots_bytes
take-slots_bytes zero slots h = refl
take-slots_bytes (suc k) [] h = take_all (64 * suc k) [] (omega arith)
take-slots_bytes (suc k) (s ∷ slots) h =
    let past : 64 * suc k ≡ length (slot_bytes s) + 64 * k = omega (arith, length-slot_bytes s (All-head RowFits s slots h)) in
    ap (λ (n : ℕ). take n (slot_bytes s ++ flat_map slot_bytes slots)) past
    ∙ take-append-add (slot_bytes s) (flat_map slot_bytes slots) (64 * k)
    ∙ ap (λ (l : List ℕ). slot_bytes s ++ l) (take-slots_bytes k slots (All-tail RowFits s slots h))

-- the bytes of the slots from one on
pub drop-slots_bytes : (k : ℕ) (slots : List (Option Row)) → All RowFits slots → drop (64 * k) (slots_bytes slots) ≡ slots_bytes (drop k slots)
unfolding slots_bytes
drop-slots_bytes zero slots h = refl
drop-slots_bytes (suc k) [] h = drop_all (64 * suc k) [] (omega arith)
drop-slots_bytes (suc k) (s ∷ slots) h =
    let past : 64 * suc k ≡ length (slot_bytes s) + 64 * k = omega (arith, length-slot_bytes s (All-head RowFits s slots h)) in
    ap (λ (n : ℕ). drop n (slot_bytes s ++ flat_map slot_bytes slots)) past
    ∙ drop-append-add (slot_bytes s) (flat_map slot_bytes slots) (64 * k)
    ∙ drop-slots_bytes k slots (All-tail RowFits s slots h)

-- the bytes of one slot, written over those of another
pub overwritten-slots_bytes : (k : ℕ) (slots : List (Option Row)) (row : Option Row) → k < length slots → RowFits row → All RowFits slots → overwritten (64 * k) (slot_bytes row) (slots_bytes slots) ≡ slots_bytes (slice_set slots k row)
unfolding slots_bytes
overwritten-slots_bytes k slots row there fits h =
    let next : 64 * k + length (slot_bytes row) ≡ 64 * suc k = omega (arith, length-slot_bytes row fits) in
    let before = take-slots_bytes k slots h in
    let behind : drop (64 * k + length (slot_bytes row)) (slots_bytes slots) ≡ slots_bytes (drop (suc k) slots) =
    ap (λ (n : ℕ). drop n (slots_bytes slots)) next ∙ drop-slots_bytes (suc k) slots h in
    let split : slots_bytes (slice_set slots k row) ≡ slots_bytes (take k slots) ++ (slot_bytes row ++ slots_bytes (drop (suc k) slots)) =
    ap (λ (l : List (Option Row)). slots_bytes l) (set_split slots k row there) ∙ flat_map-append slot_bytes (take k slots) (row ∷ drop (suc k) slots) in
    cc

-- a write that stays in the middle part of a list
pub overwritten_in : (front part back bytes : List ℕ) (at : ℕ) → at + length bytes ≤ length part → overwritten (length front + at) bytes (front ++ (part ++ back)) ≡ front ++ (overwritten at bytes part ++ back)
overwritten_in front part back bytes at fits =
    let within : at ≤ length part = omega arith in
    let before : take (length front + at) (front ++ (part ++ back)) ≡ front ++ take at part =
    take-append-add front (part ++ back) at ∙ ap (λ (l : List ℕ). front ++ l) (take-append-le at part back within) in
    let end : length front + at + length bytes ≡ length front + (at + length bytes) = omega arith in
    let behind : drop (length front + at + length bytes) (front ++ (part ++ back)) ≡ drop (at + length bytes) part ++ back =
    ap (λ (n : ℕ). drop n (front ++ (part ++ back))) end
    ∙ drop-append-add front (part ++ back) (at + length bytes)
    ∙ drop-append-le (at + length bytes) part back fits in
    rw (before, behind) (simp append_assoc)

-- a part that is replaced as a whole
pub overwritten_part : (front part back bytes : List ℕ) (at : ℕ) → at ≡ length front → length bytes ≡ length part → overwritten at bytes (front ++ (part ++ back)) ≡ front ++ (bytes ++ back)
overwritten_part front part back bytes at there same =
    let none : drop (0 + length bytes) part ≡ [] = drop_all (0 + length bytes) part (omega arith) in
    let all : overwritten 0 bytes part ≡ bytes = ap (λ (l : List ℕ). bytes ++ l) none ∙ append-nil bytes in
    let start : at ≡ length front + 0 = omega arith in
    ap (λ (n : ℕ). overwritten n bytes (front ++ (part ++ back))) start
    ∙ overwritten_in front part back bytes 0 (omega arith)
    ∙ ap (λ (l : List ℕ). front ++ (l ++ back)) all

-- the row of a slot, written into zeros
pub slot_written : (row zeros : List ℕ) → zeros ≡ replicate 64 0 → length row ≤ 63 → overwritten 1 row (overwritten 0 ((length row + 1) ∷ []) zeros) ≡ slot_bytes (Some row)
slot_written row zeros blanks fits =
    let first : overwritten 0 ((length row + 1) ∷ []) zeros ≡ (length row + 1) ∷ replicate 63 0 =
    ap (λ (l : List ℕ). overwritten 0 ((length row + 1) ∷ []) l) blanks in
    let rest : drop (1 + length row) ((length row + 1) ∷ replicate 63 0) ≡ replicate (63 - length row) 0 =
    sym (drop-drop (length row) 1 ((length row + 1) ∷ replicate 63 0)) ∙ drop-replicate (length row) 63 0 in
    ap (λ (l : List ℕ). overwritten 1 row l) first ∙ ap (λ (l : List ℕ). (length row + 1) ∷ (row ++ l)) rest

-- an image of a stamp, a gap, slots, a gap and the stamp, written over at both stamps and in its slots
pub overwritten_image : (old new gap slots after bytes : List ℕ) (at last : ℕ) → length new ≡ length old → at + length bytes ≤ length slots → overwritten at bytes slots ≡ after → last ≡ length (new ++ gap ++ after ++ gap) → overwritten last new (overwritten (length (new ++ gap) + at) bytes (overwritten 0 new (old ++ gap ++ slots ++ gap ++ old))) ≡ new ++ gap ++ after ++ gap ++ new
overwritten_image old new gap slots after bytes at last same fits there end =
    let parts : old ++ gap ++ slots ++ gap ++ old ≡ old ++ (gap ++ (slots ++ (gap ++ old))) = simp append_assoc in
    let first : overwritten 0 new (old ++ gap ++ slots ++ gap ++ old) ≡ new ++ (gap ++ (slots ++ (gap ++ old))) =
    ap (λ (l : List ℕ). overwritten 0 new l) parts ∙ overwritten_part [] old (gap ++ (slots ++ (gap ++ old))) new 0 refl same in
    let regroup : new ++ (gap ++ (slots ++ (gap ++ old))) ≡ new ++ gap ++ (slots ++ (gap ++ old)) = simp append_assoc in
    let second : overwritten (length (new ++ gap) + at) bytes (overwritten 0 new (old ++ gap ++ slots ++ gap ++ old)) ≡ new ++ gap ++ (after ++ (gap ++ old)) =
    ap (λ (l : List ℕ). overwritten (length (new ++ gap) + at) bytes l) (first ∙ regroup)
    ∙ overwritten_in (new ++ gap) slots (gap ++ old) bytes at fits
    ∙ ap (λ (l : List ℕ). new ++ gap ++ (l ++ (gap ++ old))) there in
    let back : new ++ gap ++ (after ++ (gap ++ old)) ≡ new ++ gap ++ after ++ gap ++ (old ++ []) = simp (append_assoc, append-nil) in
    ap (λ (l : List ℕ). overwritten last new l) (second ∙ back)
    ∙ overwritten_part (new ++ gap ++ after ++ gap) old [] new last end same
    ∙ ap (λ (l : List ℕ). new ++ gap ++ after ++ gap ++ l) (append-nil new)

-- the image of a page, written over at both stamps and in one slot
pub overwritten-page_bytes : (p : Page) (slot : ℕ) (row : Option Row) (stamp : ℕ) → IsPage p → slot < 31 → RowFits row → overwritten 2040 (to_be_bytes w64 stamp) (overwritten (32 + 64 * slot) (slot_bytes row) (overwritten 0 (to_be_bytes w64 stamp) (page_bytes p))) ≡ page_bytes (with_slot p slot row stamp)
overwritten-page_bytes p slot row stamp is there fits =
    let new = to_be_bytes w64 stamp in
    let after = slots_bytes (slice_set p.slots slot row) in
    let wide : length (slots_bytes p.slots) ≡ 64 * 31 = length-slots_bytes p.slots is.rows ∙ ap (λ (n : ℕ). 64 * n) is.whole in
    let wide_after : length after ≡ 64 * 31 =
    length-slots_bytes (slice_set p.slots slot row) (All-set RowFits p.slots slot row fits is.rows)
    ∙ ap (λ (n : ℕ). 64 * n) (length-set p.slots slot row ∙ is.whole) in
    let known : slot < length p.slots = omega (arith, is.whole) in
    overwritten_image (to_be_bytes w64 p.stamp) new (replicate 24 0) (slots_bytes p.slots) after (slot_bytes row) (64 * slot) 2040
    refl
    (omega (arith, length-slot_bytes row fits))
    (overwritten-slots_bytes slot p.slots row known fits is.rows)
    (simp length-append (omega (arith, wide_after)))

-- the image of a page fills 2,048 bytes
pub length-page_bytes : (p : Page) → IsPage p → length (page_bytes p) ≡ 2048
length-page_bytes p is = simp length-append (omega (arith, length-slots_bytes p.slots is.rows, is.whole))

-- a page that was never changed is all zeros
pub blank_bytes : page_bytes blank ≡ replicate 2048 0
unfolding slots_bytes
blank_bytes = refl

-- and is a page
pub blank_page : IsPage blank
blank_page = record { whole = refl; rows = All-replicate RowFits 31 None tt; stamp = lit< tt }

-- a page with another row in a slot is one again
pub with_slot_page : (p : Page) (slot : ℕ) (row : Option Row) (stamp : ℕ) → IsPage p → slot < 31 → IfSome row (λ r. length r ≤ 63) → stamp < 2 ^ 64 → IsPage (with_slot p slot row stamp)
with_slot_page p slot row stamp is there fits small = record {
  whole = length-set p.slots slot row ∙ is.whole;
  rows = All-set RowFits p.slots slot row fits is.rows;
  stamp = small;
}
