-- The image of a data page is read as it was written, and nothing else is read as one.
use Rattle.std.proofs.Common.{◌≡◌, ℕ, zero, suc, ◌+◌, ◌-◌, ◌*◌, ◌<◌, ◌≤◌, ◌^◌, ◌++◌, ◌∙◌, Bool, true, false, eq-eqb, eqb, leb, inl, inr, drop-cons, List, [], ◌∷◌, None, Option, Some, ap, arith, drop, flat_map, get_or, length, refl, replicate, sym, take, append_assoc, subst}
use Rattle.std.specs.Prelude.{All, bytes_eq, not, ◌&&◌, ◌==◌, ◌||◌}
use Rattle.std.specs.Int.{w64, from_be_bytes, to_be_bytes}
use Rattle.std.proofs.Math.Seq.{drop-append_seam, take-add, take-append_seam}
use Rattle.std.proofs.lemmas.Bool.{and_from, cases_lt, and_parts, eqb-true, leb-true, le-leb}
use Rattle.std.proofs.lemmas.Slice.Eq.{bytes_eq-Decides}
use Rattle.std.proofs.lemmas.List.{drop-append-le, drop-drop, drop_at, get_or-take, get_or_past, take_at, get_or-take, get_or_past, length-drop, length-take, take-append-drop}
use Rattle.std.proofs.lemmas.List.Elements.{All-cons, All-head, All-nil, All-tail}
use Rattle.std.proofs.lemmas.Nat.{be_bytes_8, from_be_bytes-to_be_bytes_8}
use Rattle.ol_values.specs.declared.row.Row.{Row}
use Rattle.ol_values.specs.Pages.{Page, blank}
use Rattle.ol_values.specs.Image.{IsDataPage, IsPage, page_bytes, page_in, slot_bytes, slot_in, slots_bytes, slots_in}
use Rattle.ol_values.proofs.Zeros.{zeros_again, zeros_from}
use Rattle.ol_page.specs.Testing.{are_slots, are_zeros, has_gaps, has_stamp, is_data_page, is_slot, is_stamped}
use Rattle.ol_page.proofs.Slots.{RowFits, blank_bytes, drop-slots_bytes, length-slot_bytes, length-slots_bytes}

-- ---- a slot

pub slot_takes : (s : List ℕ) → length s ≡ 64 → is_slot s ≡ true → RowFits (slot_in s) × (s ≡ slot_bytes (slot_in s))
slot_takes [] long e = absurd (omega arith)
slot_takes (zero ∷ rest) long e =
    let both = and_parts (leb 0 64) (are_zeros rest) e in
    (tt, ap (λ (l : List ℕ). 0 ∷ l) (zeros_from rest both.1 ∙ ap (λ (n : ℕ). replicate n 0) (let n : length rest ≡ 63 = omega arith in n)))
slot_takes (suc k ∷ rest) long e =
    let both = and_parts (leb (suc k) 64) (are_zeros (drop (suc k - 1) rest)) e in
    let small : suc k ≤ 64 = leb-true (suc k) 64 both.0 in
    let same : suc k - 1 ≡ k = omega arith in
    let blanks : are_zeros (drop k rest) ≡ true = subst (λ (n : ℕ). are_zeros (drop n rest) ≡ true) same both.1 in
    let taken : length (take k rest) ≡ k = omega (arith, length-take k rest) in
    let behind : drop k rest ≡ replicate (63 - length (take k rest)) 0 =
    zeros_from (drop k rest) blanks ∙ ap (λ (n : ℕ). replicate n 0) (let n : length (drop k rest) ≡ 63 - length (take k rest) = omega (arith, length-drop k rest, taken) in n) in
    let first : suc k ≡ length (take k rest) + 1 = omega (arith, taken) in
    let all : rest ≡ take k rest ++ replicate (63 - length (take k rest)) 0 = sym (take-append-drop k rest) ∙ ap (λ (l : List ℕ). take k rest ++ l) behind in
    (omega (arith, taken), ap (λ (l : List ℕ). suc k ∷ l) all ∙ ap (λ (n : ℕ). n ∷ (take k rest ++ replicate (63 - length (take k rest)) 0)) first)

pub slot_again : (row : Option Row) → RowFits row → is_slot (slot_bytes row) ≡ true
slot_again None fits = zeros_again 63
slot_again (Some row) fits =
    let same : length row + 1 - 1 ≡ length row = omega arith in
    let behind : drop (length row + 1 - 1) (row ++ replicate (63 - length row) 0) ≡ replicate (63 - length row) 0 =
    ap (λ (n : ℕ). drop n (row ++ replicate (63 - length row) 0)) same ∙ drop-append_seam row (replicate (63 - length row) 0) in
    and_from (leb (length row + 1) 64) (are_zeros (drop (length row + 1 - 1) (row ++ replicate (63 - length row) 0))) (le-leb (length row + 1) 64 (omega arith)) (rw behind (zeros_again (63 - length row)))

pub slot_back : (row : Option Row) → RowFits row → slot_in (slot_bytes row) ≡ row
slot_back None fits = refl
slot_back (Some row) fits =
    let front : take (length row) (row ++ replicate (63 - length row) 0) ≡ row = take-append_seam row (replicate (63 - length row) 0) in
    ap (λ (l : List ℕ). slot_in (l)) (let e : slot_bytes (Some row) ≡ suc (length row) ∷ (row ++ replicate (63 - length row) 0) = ap (λ (n : ℕ). n ∷ (row ++ replicate (63 - length row) 0)) (let n : length row + 1 ≡ suc (length row) = omega arith in n) in e)
    ∙ ap (λ (l : List ℕ). let o : Option Row = Some l in o) front

-- ---- slots

pub record AreSlots (n : ℕ) (bytes : List ℕ) (slots : List (Option Row)) : Type 0 where
  pub whole : length slots ≡ n
  pub rows : All RowFits slots
  pub spelt : take (64 * n) bytes ≡ slots_bytes slots

pub slots_take : (n : ℕ) (bytes : List ℕ) → 64 * n ≤ length bytes → are_slots n bytes ≡ true → AreSlots n bytes (slots_in n bytes)
unfolding are_slots slots_in slots_bytes
slots_take zero bytes room e = record { whole = refl; rows = All-nil RowFits; spelt = refl }
slots_take (suc n) bytes room e =
    let both = and_parts (is_slot (take 64 bytes)) (are_slots n (drop 64 bytes)) e in
    let first = slot_takes (take 64 bytes) (omega (arith, length-take 64 bytes)) both.0 in
    let rest = slots_take n (drop 64 bytes) (omega (arith, length-drop 64 bytes)) both.1 in
    let past : 64 * suc n ≡ 64 + 64 * n = omega arith in
    record {
      whole = ap (λ (k : ℕ). suc k) rest.whole;
      rows = All-cons RowFits (slot_in (take 64 bytes)) (slots_in n (drop 64 bytes)) first.0 rest.rows;
      spelt = ap (λ (k : ℕ). take k bytes) past
          ∙ take-add 64 (64 * n) bytes
          ∙ ap (λ (l : List ℕ). l ++ take (64 * n) (drop 64 bytes)) first.1
          ∙ ap (λ (l : List ℕ). slot_bytes (slot_in (take 64 bytes)) ++ l) rest.spelt;
    }

pub slots_again : (slots : List (Option Row)) (rest : List ℕ) → All RowFits slots → are_slots (length slots) (slots_bytes slots ++ rest) ≡ true
unfolding are_slots slots_bytes
slots_again [] rest all = refl
slots_again (s ∷ slots) rest all =
    let parts : flat_map slot_bytes (s ∷ slots) ++ rest ≡ slot_bytes s ++ (slots_bytes slots ++ rest) = append_assoc (slot_bytes s) (flat_map slot_bytes slots) rest in
    let long = length-slot_bytes s (All-head RowFits s slots all) in
    let front : take 64 (slot_bytes s ++ (slots_bytes slots ++ rest)) ≡ slot_bytes s = take_at (slot_bytes s) (slots_bytes slots ++ rest) 64 long in
    let behind : drop 64 (slot_bytes s ++ (slots_bytes slots ++ rest)) ≡ slots_bytes slots ++ rest = drop_at (slot_bytes s) (slots_bytes slots ++ rest) 64 long in
    rw (parts, front, behind) (and_from (is_slot (slot_bytes s)) (are_slots (length slots) (slots_bytes slots ++ rest)) (slot_again s (All-head RowFits s slots all)) (slots_again slots rest (All-tail RowFits s slots all)))

-- a loop over them
pub goes_on : (i : ℕ) (bytes : List ℕ) (total : Bool) → i < 31 → is_slot (take 64 bytes) ≡ true → are_slots (31 - i) bytes ≡ total → are_slots (31 - (i + 1)) (drop 64 bytes) ≡ total
unfolding are_slots
goes_on i bytes total lt good so_far =
    let k : 31 - i ≡ suc (31 - (i + 1)) = omega arith in
    let one : are_slots (31 - i) bytes ≡ are_slots (31 - (i + 1)) (drop 64 bytes) = rw (k, good) refl in
    sym one ∙ so_far

pub stops : (i : ℕ) (bytes : List ℕ) (total : Bool) → i < 31 → is_slot (take 64 bytes) ≡ false → are_slots (31 - i) bytes ≡ total → false ≡ total
unfolding are_slots
stops i bytes total lt bad so_far =
    let k : 31 - i ≡ suc (31 - (i + 1)) = omega arith in
    let one : are_slots (31 - i) bytes ≡ false = rw (k, bad) refl in
    sym one ∙ so_far

pub ends : (i : ℕ) (bytes : List ℕ) (total : Bool) → 31 ≤ i → are_slots (31 - i) bytes ≡ total → true ≡ total
unfolding are_slots
ends i bytes total le so_far =
    let k : 31 - i ≡ 0 = omega arith in
    let one : are_slots (31 - i) bytes ≡ true = rw k refl in
    sym one ∙ so_far

-- ---- the image

abbrev pub IsBytes : List ℕ → Type 0
IsBytes bytes = (i : ℕ) → get_or bytes i 0 < 256

bytes_taken : (n : ℕ) (bytes : List ℕ) → IsBytes bytes → IsBytes (take n bytes)
bytes_taken n bytes fits i =
    elim (cases_lt i n) [
      | inl lt ↦ rw (get_or-take n bytes i 0 lt) (fits i)
      | inr le ↦ rw (get_or_past (take n bytes) i 0 (omega (arith, length-take n bytes))) (omega arith)
    ]

-- a page of zeros is the blank one
zeros_blank : page_in (replicate 2048 0) ≡ blank
unfolding slots_in
zeros_blank = refl

zeros_where : (a z : Bool) → a ≡ true → (not a || z) ≡ true → z ≡ true
zeros_where a z is e = subst (λ (b : Bool). (not b || z) ≡ true) is e

-- a list in its parts of 8, 24, 1984, 24 and 8 bytes
five_parts : (b : List ℕ) → length b ≡ 2048
    → b ≡ take 8 b ++ take 24 (drop 8 b) ++ take 1984 (drop 32 b) ++ take 24 (drop 2016 b) ++ drop 2040 b
five_parts b long =
    let one = sym (take-append-drop 8 b) in
    let two = sym (take-append-drop 24 (drop 8 b)) in
    let three = sym (take-append-drop 1984 (drop 32 b)) in
    let four = sym (take-append-drop 24 (drop 2016 b)) in
    let d2 : drop 24 (drop 8 b) ≡ drop 32 b = drop-drop 24 8 b in
    let d3 : drop 1984 (drop 32 b) ≡ drop 2016 b = drop-drop 1984 32 b in
    let d4 : drop 24 (drop 2016 b) ≡ drop 2040 b = drop-drop 24 2016 b in
    one
    ∙ ap (λ (l : List ℕ). take 8 b ++ l) (two ∙ ap (λ (l : List ℕ). take 24 (drop 8 b) ++ l) (d2 ∙ three ∙ ap (λ (l : List ℕ). take 1984 (drop 32 b) ++ l) (d3 ∙ four ∙ ap (λ (l : List ℕ). take 24 (drop 2016 b) ++ l) d4)))
    ∙ simp append_assoc

pub page_takes : (b : List ℕ) → length b ≡ 2048 → IsBytes b → is_data_page b ≡ true → IsDataPage (page_in b) × (b ≡ page_bytes (page_in b))
unfolding has_stamp has_gaps is_stamped
page_takes b long fits e =
    let d = and_parts (has_stamp b && has_gaps b && are_slots 31 (drop 32 b)) (is_stamped b) e in
    let c = and_parts (has_stamp b && has_gaps b) (are_slots 31 (drop 32 b)) d.0 in
    let a = and_parts (has_stamp b) (has_gaps b) c.0 in
    let stamps = and_parts (bytes_eq (take 8 b) (drop 2040 b)) (leb (from_be_bytes w64 (take 8 b)) (2 ^ 62)) a.0 in
    let gaps = and_parts (are_zeros (take 24 (drop 8 b))) (are_zeros (take 24 (drop 2016 b))) a.1 in
    let same : take 8 b ≡ drop 2040 b = (bytes_eq-Decides (take 8 b) (drop 2040 b)).0 stamps.0 in
    let front : to_be_bytes w64 (from_be_bytes w64 (take 8 b)) ≡ take 8 b = be_bytes_8 (take 8 b) _ (omega (arith, length-take 8 b)) (bytes_taken 8 b fits) refl in
    let first_gap : take 24 (drop 8 b) ≡ replicate 24 0 = zeros_from _ gaps.0 ∙ ap (λ (n : ℕ). replicate n 0) (let n : length (take 24 (drop 8 b)) ≡ 24 = omega (arith, length-take 24 (drop 8 b), length-drop 8 b) in n) in
    let last_gap : take 24 (drop 2016 b) ≡ replicate 24 0 = zeros_from _ gaps.1 ∙ ap (λ (n : ℕ). replicate n 0) (let n : length (take 24 (drop 2016 b)) ≡ 24 = omega (arith, length-take 24 (drop 2016 b), length-drop 2016 b) in n) in
    let slots = slots_take 31 (drop 32 b) (omega (arith, length-drop 32 b)) c.1 in
    let spelt : b ≡ page_bytes (page_in b) =
    five_parts b long
    ∙ ap (λ (l : List ℕ). take 8 b ++ l ++ take 1984 (drop 32 b) ++ take 24 (drop 2016 b) ++ drop 2040 b) first_gap
    ∙ ap (λ (l : List ℕ). take 8 b ++ replicate 24 0 ++ l ++ take 24 (drop 2016 b) ++ drop 2040 b) slots.spelt
    ∙ ap (λ (l : List ℕ). take 8 b ++ replicate 24 0 ++ slots_bytes (slots_in 31 (drop 32 b)) ++ l ++ drop 2040 b) last_gap
    ∙ ap (λ (l : List ℕ). take 8 b ++ replicate 24 0 ++ slots_bytes (slots_in 31 (drop 32 b)) ++ replicate 24 0 ++ l) (sym same)
    ∙ ap (λ (l : List ℕ). l ++ replicate 24 0 ++ slots_bytes (slots_in 31 (drop 32 b)) ++ replicate 24 0 ++ l) (sym front) in
    let small : from_be_bytes w64 (take 8 b) ≤ 2 ^ 62 = leb-true _ _ stamps.1 in
    let is : IsDataPage (page_in b) = record {
      page = record { whole = slots.whole; rows = slots.rows; stamp = omega (arith, small) };
      stamp = small;
      unchanged = λ zero_stamp.
          ap (λ (l : List ℕ). page_in l) (zeros_from b (zeros_where (eqb (from_be_bytes w64 (take 8 b)) 0) (are_zeros b) (eq-eqb _ 0 zero_stamp) d.1) ∙ ap (λ (n : ℕ). replicate n 0) long) ∙ zeros_blank;
    } in
    (is, spelt)

-- the parts of an image, each found again
pub record Parts (p : Page) (b : List ℕ) : Type 0 where
  pub front : take 8 b ≡ to_be_bytes w64 p.stamp
  pub gap : take 24 (drop 8 b) ≡ replicate 24 0
  pub slots : drop 32 b ≡ slots_bytes p.slots ++ (replicate 24 0 ++ to_be_bytes w64 p.stamp)
  pub last_gap : take 24 (drop 2016 b) ≡ replicate 24 0
  pub back : drop 2040 b ≡ to_be_bytes w64 p.stamp

pub parts_of : (p : Page) (b : List ℕ) → IsPage p → b ≡ page_bytes p → Parts p b
parts_of p b is e =
    let s = to_be_bytes w64 p.stamp in
    let g : List ℕ = replicate 24 0 in
    let l = slots_bytes p.slots in
    let wide : length l ≡ 1984 = length-slots_bytes p.slots is.rows ∙ ap (λ (n : ℕ). 64 * n) is.whole in
    let nested : b ≡ s ++ (g ++ (l ++ (g ++ s))) = e ∙ simp append_assoc in
    let d8 : drop 8 b ≡ g ++ (l ++ (g ++ s)) = ap (λ (x : List ℕ). drop 8 x) nested ∙ drop_at s (g ++ (l ++ (g ++ s))) 8 refl in
    let d32 : drop 32 b ≡ l ++ (g ++ s) = sym (drop-drop 24 8 b) ∙ ap (λ (x : List ℕ). drop 24 x) d8 ∙ drop_at g (l ++ (g ++ s)) 24 refl in
    let d2016 : drop 2016 b ≡ g ++ s = sym (drop-drop 1984 32 b) ∙ ap (λ (x : List ℕ). drop 1984 x) d32 ∙ drop_at l (g ++ s) 1984 wide in
    let d2040 : drop 2040 b ≡ s = sym (drop-drop 24 2016 b) ∙ ap (λ (x : List ℕ). drop 24 x) d2016 ∙ drop_at g s 24 refl in
    record {
      front = ap (λ (x : List ℕ). take 8 x) nested ∙ take_at s (g ++ (l ++ (g ++ s))) 8 refl;
      gap = ap (λ (x : List ℕ). take 24 x) d8 ∙ take_at g (l ++ (g ++ s)) 24 refl;
      slots = d32;
      last_gap = ap (λ (x : List ℕ). take 24 x) d2016 ∙ take_at g s 24 refl;
      back = d2040;
    }

stamped : (p : Page) (b : List ℕ) → IsDataPage p → b ≡ page_bytes p → (t : Bool) → (p.stamp == 0) ≡ t → (not t || are_zeros b) ≡ true
stamped p b is e true t = ap are_zeros (e ∙ ap page_bytes (is.unchanged (eqb-true p.stamp 0 t)) ∙ blank_bytes) ∙ zeros_again 2048
stamped p b is e false t = refl

pub page_again : (p : Page) (b : List ℕ) → IsDataPage p → b ≡ page_bytes p → is_data_page b ≡ true
unfolding has_stamp has_gaps is_stamped
page_again p b is e =
    let parts = parts_of p b is.page e in
    let number : from_be_bytes w64 (take 8 b) ≡ p.stamp = ap (λ (l : List ℕ). from_be_bytes w64 l) parts.front ∙ from_be_bytes-to_be_bytes_8 p.stamp is.page.stamp in
    let one : has_stamp b ≡ true = and_from (bytes_eq (take 8 b) (drop 2040 b)) (leb (from_be_bytes w64 (take 8 b)) (2 ^ 62))
    ((bytes_eq-Decides (take 8 b) (drop 2040 b)).1 (parts.front ∙ sym parts.back)) (le-leb _ _ (omega (arith, number, is.stamp))) in
    let two : has_gaps b ≡ true = and_from (are_zeros (take 24 (drop 8 b))) (are_zeros (take 24 (drop 2016 b)))
    (ap are_zeros parts.gap ∙ zeros_again 24) (ap are_zeros parts.last_gap ∙ zeros_again 24) in
    let three : are_slots 31 (drop 32 b) ≡ true =
    ap (λ (l : List ℕ). are_slots 31 l) parts.slots
    ∙ subst (λ (n : ℕ). are_slots n (slots_bytes p.slots ++ (replicate 24 0 ++ to_be_bytes w64 p.stamp)) ≡ true) is.page.whole (slots_again p.slots (replicate 24 0 ++ to_be_bytes w64 p.stamp) is.page.rows) in
    let four : is_stamped b ≡ true = stamped p b is e (from_be_bytes w64 (take 8 b) == 0) (ap (λ (n : ℕ). n == 0) (sym number)) in
    and_from (has_stamp b && has_gaps b && are_slots 31 (drop 32 b)) (is_stamped b)
    (and_from (has_stamp b && has_gaps b) (are_slots 31 (drop 32 b)) (and_from (has_stamp b) (has_gaps b) one two) three) four

-- what the bytes of a slot of an image are
pub slot_bytes_at : (p : Page) (b : List ℕ) (k : ℕ) → IsPage p → b ≡ page_bytes p → k < 31 → take 64 (drop (32 + 64 * k) b) ≡ slot_bytes (get_or p.slots k None)
unfolding slots_bytes
slot_bytes_at p b k is e lt =
    let parts = parts_of p b is e in
    let behind : List ℕ = replicate 24 0 ++ to_be_bytes w64 p.stamp in
    let wide : length (slots_bytes p.slots) ≡ 1984 = length-slots_bytes p.slots is.rows ∙ ap (λ (n : ℕ). 64 * n) is.whole in
    let here : k < length p.slots = omega (arith, is.whole) in
    let cut : drop (64 * k) (slots_bytes p.slots ++ behind) ≡ slots_bytes (drop k p.slots) ++ behind =
    drop-append-le (64 * k) (slots_bytes p.slots) behind (omega (arith, wide)) ∙ ap (λ (l : List ℕ). l ++ behind) (drop-slots_bytes k p.slots is.rows) in
    let one : slots_bytes (drop k p.slots) ≡ slot_bytes (get_or p.slots k None) ++ slots_bytes (drop (suc k) p.slots) = ap (λ (l : List (Option Row)). flat_map slot_bytes l) (drop-cons p.slots k None here) in
    sym (ap (λ (l : List ℕ). take 64 l) (drop-drop (64 * k) 32 b))
    ∙ ap (λ (l : List ℕ). take 64 (drop (64 * k) l)) parts.slots
    ∙ ap (λ (l : List ℕ). take 64 l) (cut ∙ ap (λ (l : List ℕ). l ++ behind) one ∙ append_assoc (slot_bytes (get_or p.slots k None)) (slots_bytes (drop (suc k) p.slots)) behind)
    ∙ take_at (slot_bytes (get_or p.slots k None)) (slots_bytes (drop (suc k) p.slots) ++ behind) 64 (length-slot_bytes (get_or p.slots k None) (is.rows k None here))
