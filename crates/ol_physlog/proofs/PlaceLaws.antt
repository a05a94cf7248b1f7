-- What stands at an entry, by its bytes.
use Rattle.std.proofs.Common.{◌≡◌, ◌≢◌, ◌⊎◌, inl, inr, ℕ, zero, suc, ◌+◌, ◌<◌, ◌^◌, Bool, true, false, ◌==◌, if◌then◌else◌, List, ◌++◌, get_or, drop, take, length, refl, sym, ◌∙◌, ap, subst, arith, map}
use Rattle.std.specs.Int.{from_be_bytes, to_be_bytes, w16, w64}
use Rattle.std.specs.Prelude.{◌&&◌}
use Rattle.std.specs.List.{range_with_len}
use Rattle.std.proofs.lemmas.Bool.Decides.{nat_tests}
use Rattle.std.proofs.lemmas.List.{ext_get_or, get_or-drop, get_or-take, length-drop, length-take, take-append-drop}
use Rattle.std.proofs.lemmas.Nat.{from_be_bytes-to_be_bytes_2, from_be_bytes-to_be_bytes_8}
use Rattle.ol_values.specs.Config.{Config}
use Rattle.ol_chunks.specs.declared.table.Area.{Area}
use Rattle.ol_ports.specs.Disk.{Bytes, is_within, page_list}
use Rattle.ol_ports.specs.Frames.{SameBut}
use Rattle.ol_ports.proofs.DiskLaws.{length-page_list, page_list-at, page_list-is, within-behind, within-elsewhere, within-front}
use Rattle.ol_physlog.specs.Heads.{IsPage, body_bytes, gate_in, generation_in, head_bytes, head_in, is_spelled, place_in}
use Rattle.ol_physlog.specs.Places.{Counts, HasBody, Idle, entry_at, entry_of, gate_at, generation_at, head_list, head_page, image_list, is_open_at}
use Rattle.ol_physlog.specs.declared.head.Head.{Head}
use Rattle.ol_physlog.specs.declared.head.Head.TheVariants.{Bad as BadHead, Counts as CountsHead, Idle as IdleHead}
use Rattle.ol_physlog.specs.declared.place.Place.{Place}

-- ---- heads

abbrev by_tests : Bool → Bool → Head → Head
by_tests opened spelled whole = if opened then (if spelled then whole else BadHead) else IdleHead

pub head_shut : (c : Config) (g : ℕ) (head : List ℕ) → gate_in head ≢ 1 → head_in c g head ≡ IdleHead
unfolding head_in
head_shut c g head shut = let gate : (gate_in head == 1) ≡ false = grind (arith, nat_tests) in rw gate refl

pub head_other : (c : Config) (g : ℕ) (head : List ℕ) → generation_in head ≢ g → head_in c g head ≡ IdleHead
unfolding head_in
head_other c g head other = by (gate_in head == 1) (generation_in head == g) (grind (arith, nat_tests))
  where
    by : (a b : Bool) → b ≡ false → by_tests (a && b) (is_spelled c head) (CountsHead (place_in head)) ≡ IdleHead
    by true b is = rw is refl
    by false b is = refl

never_idle : (b : Bool) (place : Place) → (if b then CountsHead place else BadHead) ≡ IdleHead → ⊥
never_idle true place e = cc
never_idle false place e = cc

pub idle_head : (c : Config) (g : ℕ) (head : List ℕ) → head_in c g head ≡ IdleHead → gate_in head ≡ 1 → generation_in head ≢ g
unfolding head_in
idle_head c g head is gate same =
    let opened : (gate_in head == 1) ≡ true = grind (arith, nat_tests) in
    let here : (generation_in head == g) ≡ true = grind (arith, nat_tests) in
    never_idle (is_spelled c head) (place_in head) (rw (opened, here) at is)

counts_is : (a b s : Bool) (p q : Place) → by_tests (a && b) s (CountsHead q) ≡ CountsHead p → (a ≡ true) × (b ≡ true) × (s ≡ true) × (q ≡ p)
counts_is false b s p q e = absurd (cc)
counts_is true false s p q e = absurd (cc)
counts_is true true false p q e = absurd (cc)
counts_is true true true p q e = (refl, refl, refl, cc)

pub counting_head : (c : Config) (g : ℕ) (head : List ℕ) (place : Place) → head_in c g head ≡ CountsHead place → (gate_in head ≡ 1) × (generation_in head ≡ g) × (is_spelled c head ≡ true) × (place_in head ≡ place)
unfolding head_in
counting_head c g head place is =
    let parts = counts_is (gate_in head == 1) (generation_in head == g) (is_spelled c head) place (place_in head) is in
    let first = parts.0 in
    let second = parts.1 in
    (grind (arith, nat_tests), grind (arith, nat_tests), parts.2, parts.3)

-- a head that was written is read again
pub head_back : (c : Config) (g : ℕ) (place : Place) (rest : List ℕ) → IsPage c place → g < 2 ^ 64 → head_in c g (head_bytes 1 place g ++ rest) ≡ CountsHead place
unfolding head_in generation_in place_in is_spelled body_bytes
head_back c g place rest is small =
    let number : from_be_bytes w64 (to_be_bytes w64 g) ≡ g = from_be_bytes-to_be_bytes_8 g small in
    let page : from_be_bytes w16 (to_be_bytes w16 place.page) ≡ place.page = from_be_bytes-to_be_bytes_2 place.page is.1 in
    let same : (g == g) ≡ true = grind (arith, nat_tests) in
    rw (number, page, same, is.0) refl

-- ---- two disks with the same bytes of an entry

pub record SameEntry (a : Area) (d e : Bytes) (k : ℕ) : Type 0 where
  pub of_head : (i : ℕ) → d a.chunk (head_page a k) i ≡ e a.chunk (head_page a k) i
  pub of_image : (i : ℕ) → d a.chunk (head_page a k + 1) i ≡ e a.chunk (head_page a k + 1) i

page_same : (d e : Bytes) (chunk page : ℕ) → ((i : ℕ) → d chunk page i ≡ e chunk page i) → page_list d chunk page ≡ page_list e chunk page
unfolding page_list
page_same d e chunk page same = ap (λ (b : ℕ → ℕ). map b (range_with_len 0 2048)) (λ t i. same i t)

pub first_of : (a : Area) (d : Bytes) (k : ℕ) → gate_in (head_list a d k) ≡ gate_at a d k
first_of a d k = page_list-at d a.chunk (head_page a k) 0 (omega arith)

module _ (a : Area) (d e : Bytes) (k : ℕ) (same : SameEntry a d e k) where
  pub entry_same : (c : Config) (g : ℕ) → entry_at c a g d k ≡ entry_at c a g e k
  unfolding entry_at
  entry_same c g =
      ap (λ (l : List ℕ). entry_of (head_in c g l) (image_list a d k)) (page_same d e a.chunk (head_page a k) same.of_head)
      ∙ ap (λ (l : List ℕ). entry_of (head_in c g (head_list a e k)) l) (page_same d e a.chunk (head_page a k + 1) same.of_image)

  pub gate_same : gate_at a d k ≡ gate_at a e k
  gate_same = same.of_head 0

  pub open_same : is_open_at a d k ≡ is_open_at a e k
  open_same = ap (λ (b : ℕ). b == 1) gate_same

  pub generation_same : generation_at a d k ≡ generation_at a e k
  generation_same = ap (λ (l : List ℕ). generation_in l) (page_same d e a.chunk (head_page a k) same.of_head)

  pub body_same : (g : ℕ) (place : Place) (image : List ℕ) → HasBody a g e k place image → HasBody a g d k place image
  body_same g place image has = record {
    behind_gate = λ i lt. same.of_head (1 + i) ∙ has.behind_gate i lt;
    next_page = λ i lt. same.of_image i ∙ has.next_page i lt;
    long = has.long;
  }

-- ---- what an entry is

pub open_gate : (a : Area) (d : Bytes) (k : ℕ) → is_open_at a d k ≡ true → gate_at a d k ≡ 1
open_gate a d k is = grind (arith, nat_tests)

pub shut_gate : (a : Area) (d : Bytes) (k : ℕ) → is_open_at a d k ≡ false → gate_at a d k ≢ 1
shut_gate a d k is opened = grind (arith, nat_tests)

pub gate_shut : (a : Area) (d : Bytes) (k : ℕ) → gate_at a d k ≢ 1 → is_open_at a d k ≡ false
gate_shut a d k shut = grind (arith, nat_tests)

pub gate_open : (a : Area) (d : Bytes) (k : ℕ) → gate_at a d k ≡ 1 → is_open_at a d k ≡ true
gate_open a d k opened = grind (arith, nat_tests)

pub entry_shut : (c : Config) (a : Area) (g : ℕ) (d : Bytes) (k : ℕ) → gate_at a d k ≢ 1 → entry_at c a g d k ≡ Idle
unfolding entry_at
entry_shut c a g d k shut = ap (λ (h : Head). entry_of h (image_list a d k)) (head_shut c g (head_list a d k) (λ is. shut (sym (first_of a d k) ∙ is)))

pub entry_other : (c : Config) (a : Area) (g : ℕ) (d : Bytes) (k : ℕ) → generation_at a d k ≢ g → entry_at c a g d k ≡ Idle
unfolding entry_at
entry_other c a g d k other = ap (λ (h : Head). entry_of h (image_list a d k)) (head_other c g (head_list a d k) other)

idle_of : (h : Head) (image : List ℕ) → entry_of h image ≡ Idle → h ≡ IdleHead
idle_of IdleHead image e = refl
idle_of BadHead image e = absurd (cc)
idle_of (CountsHead place) image e = absurd (cc)

pub idle_entry : (c : Config) (a : Area) (g : ℕ) (d : Bytes) (k : ℕ) → entry_at c a g d k ≡ Idle → gate_at a d k ≡ 1 → generation_at a d k ≢ g
unfolding entry_at
idle_entry c a g d k is opened = idle_head c g (head_list a d k) (idle_of _ _ is) (first_of a d k ∙ opened)

counts_of : (h : Head) (image : List ℕ) (place : Place) (wanted : List ℕ) → entry_of h image ≡ Counts place wanted → (h ≡ CountsHead place) × (image ≡ wanted)
counts_of IdleHead image place wanted e = absurd (cc)
counts_of BadHead image place wanted e = absurd (cc)
counts_of (CountsHead q) image place wanted e = (cc, cc)

-- a counting entry is open, of this generation, and of a page of the configuration
pub counting_entry : (c : Config) (a : Area) (g : ℕ) (d : Bytes) (k : ℕ) (place : Place) (image : List ℕ) → entry_at c a g d k ≡ Counts place image → (gate_at a d k ≡ 1) × (generation_at a d k ≡ g)
unfolding entry_at
counting_entry c a g d k place image is =
    let parts = counting_head c g (head_list a d k) place (counts_of _ _ place image is).0 in
    (sym (first_of a d k) ∙ parts.0, parts.1)

-- ---- an entry that was written

module _ (a : Area) (g : ℕ) (d : Bytes) (k : ℕ) (place : Place) (image : List ℕ) (has : HasBody a g d k place image) where
  front : take 16 (head_list a d k) ≡ head_bytes (gate_at a d k) place g
  unfolding body_bytes
  front = ext_get_or 0 (take 16 (head_list a d k)) (head_bytes (gate_at a d k) place g) (omega (arith, size, length-take 16 (head_list a d k))) (λ i lt. each i (omega (arith, lt, size, length-take 16 (head_list a d k))))
    where
      size : length (head_list a d k) ≡ 2048
      size = length-page_list d a.chunk (head_page a k)

      each : (i : ℕ) → i < 16 → get_or (take 16 (head_list a d k)) i 0 ≡ get_or (head_bytes (gate_at a d k) place g) i 0
      each zero lt = get_or-take 16 (head_list a d k) 0 0 lt ∙ page_list-at d a.chunk (head_page a k) 0 (omega arith)
      each (suc i) lt =
          let at : 1 + i ≡ suc i = omega arith in
          get_or-take 16 (head_list a d k) (suc i) 0 lt
          ∙ page_list-at d a.chunk (head_page a k) (suc i) (omega (arith, lt))
          ∙ subst (λ (n : ℕ). d a.chunk (head_page a k) n ≡ get_or (body_bytes place g) i 0) at (has.behind_gate i (omega (arith, lt)))

  whole : head_list a d k ≡ head_bytes (gate_at a d k) place g ++ drop 16 (head_list a d k)
  whole = sym (take-append-drop 16 (head_list a d k)) ∙ ap (λ (l : List ℕ). l ++ drop 16 (head_list a d k)) front

  pub generation_whole : g < 2 ^ 64 → generation_at a d k ≡ g
  unfolding generation_in body_bytes
  generation_whole small = ap (λ (l : List ℕ). generation_in l) whole ∙ from_be_bytes-to_be_bytes_8 g small

  pub counts_whole : (c : Config) → IsPage c place → g < 2 ^ 64 → gate_at a d k ≡ 1 → entry_at c a g d k ≡ Counts place image
  unfolding entry_at
  counts_whole c is small opened =
      ap (λ (l : List ℕ). entry_of (head_in c g l) (image_list a d k)) (whole ∙ ap (λ (b : ℕ). head_bytes b place g ++ drop 16 (head_list a d k)) opened)
      ∙ ap (λ (h : Head). entry_of h (image_list a d k)) (head_back c g place (drop 16 (head_list a d k)) is small)
      ∙ ap (λ (l : List ℕ). Counts place l) (sym (page_list-is d a.chunk (head_page a k + 1) image has.long (λ i lt. sym (has.next_page i lt))))

-- ---- a write to the pages of one entry

-- the page is one of the two of an entry
abbrev pub IsOf : Area → ℕ → ℕ → Type 0
IsOf a k page = (page ≡ head_page a k) ⊎ (page ≡ head_page a k + 1)

-- the other entries stay
pub other_entry : (a : Area) (k j page at n : ℕ) (e d : Bytes) → IsOf a k page → SameBut (is_within a.chunk page at n) e d → j ≢ k → SameEntry a d e j
other_entry a k j page at n e d here same other = record {
  of_head = λ i. same a.chunk (head_page a j) i (within-elsewhere a.chunk page at n a.chunk (head_page a j) i (λ _ is. not_head here is));
  of_image = λ i. same a.chunk (head_page a j + 1) i (within-elsewhere a.chunk page at n a.chunk (head_page a j + 1) i (λ _ is. not_image here is));
}
  where
    not_head : IsOf a k page → head_page a j ≡ page → ⊥
    not_head (inl h) is = other (omega (arith, h, is))
    not_head (inr h) is = omega (arith, h, is)

    not_image : IsOf a k page → head_page a j + 1 ≡ page → ⊥
    not_image (inl h) is = omega (arith, h, is)
    not_image (inr h) is = other (omega (arith, h, is))

-- a write to a gate leaves the generation and the body
pub generation_torn : (a : Area) (k : ℕ) (e d : Bytes) → SameBut (is_within a.chunk (head_page a k) 0 1) e d → generation_at a d k ≡ generation_at a e k
unfolding generation_in
generation_torn a k e d same = ap (λ (l : List ℕ). from_be_bytes w64 l) (ext_get_or 0 (part d) (part e) (long d ∙ sym (long e)) (λ i lt. each i (omega (arith, lt, long d))))
  where
    part : Bytes → List ℕ
    part b = take 8 (drop 8 (head_list a b k))

    long : (b : Bytes) → length (part b) ≡ 8
    long b = omega (arith, length-take 8 (drop 8 (head_list a b k)), length-drop 8 (head_list a b k), length-page_list b a.chunk (head_page a k))

    byte : (b : Bytes) (i : ℕ) → i < 8 → get_or (part b) i 0 ≡ b a.chunk (head_page a k) (8 + i)
    byte b i lt = get_or-take 8 (drop 8 (head_list a b k)) i 0 lt ∙ get_or-drop 8 (head_list a b k) i 0 ∙ page_list-at b a.chunk (head_page a k) (8 + i) (omega (arith, lt))

    each : (i : ℕ) → i < 8 → get_or (part d) i 0 ≡ get_or (part e) i 0
    each i lt = byte d i lt ∙ same a.chunk (head_page a k) (8 + i) (within-behind a.chunk (head_page a k) 0 1 (8 + i) (omega arith)) ∙ sym (byte e i lt)

pub body_torn : (a : Area) (g k : ℕ) (e d : Bytes) (place : Place) (image : List ℕ) → SameBut (is_within a.chunk (head_page a k) 0 1) e d → HasBody a g e k place image → HasBody a g d k place image
body_torn a g k e d place image same has = record {
  behind_gate = λ i lt. same a.chunk (head_page a k) (1 + i) (within-behind a.chunk (head_page a k) 0 1 (1 + i) (omega arith)) ∙ has.behind_gate i lt;
  next_page = λ i lt. same a.chunk (head_page a k + 1) i (within-elsewhere a.chunk (head_page a k) 0 1 a.chunk (head_page a k + 1) i (λ _ is. omega (arith, is))) ∙ has.next_page i lt;
  long = has.long;
}

-- a write behind a gate, or to the image, leaves the gate
abbrev pub IsBehind : Area → ℕ → ℕ → ℕ → Type 0
IsBehind a k page at = ((page ≡ head_page a k) × (0 < at)) ⊎ (page ≡ head_page a k + 1)

pub of_behind : (a : Area) (k page at : ℕ) → IsBehind a k page at → IsOf a k page
of_behind a k page at (inl h) = inl h.0
of_behind a k page at (inr h) = inr h

pub gate_behind : (a : Area) (k page at n : ℕ) (e d : Bytes) → IsBehind a k page at → SameBut (is_within a.chunk page at n) e d → gate_at a d k ≡ gate_at a e k
gate_behind a k page at n e d (inl h) same = same a.chunk (head_page a k) 0 (subst (λ (p : ℕ). is_within a.chunk p at n a.chunk (head_page a k) 0 ≡ false) (sym h.0) (within-front a.chunk (head_page a k) at n 0 h.1))
gate_behind a k page at n e d (inr h) same = same a.chunk (head_page a k) 0 (within-elsewhere a.chunk page at n a.chunk (head_page a k) 0 (λ _ is. omega (arith, is, h)))
