-- The log that begins with what was read of a settled disk.
use Rattle.std.proofs.Common.{◌≡◌, ◌⊎◌, ⊎_elim, ℕ, suc, ◌+◌, ◌-◌, ◌*◌, ◌<◌, ◌≤◌, ◌^◌, Bool, true, false, List, [], ◌∷◌, ◌++◌, length, refl, sym, ◌∙◌, ap, subst, take, arith}
use Rattle.std.specs.List.{list_any}
use Rattle.std.specs.Prelude.{slice_index}
use Rattle.std.proofs.Math.Seq.{take-suc}
use Rattle.std.proofs.lemmas.Bool.Decides.{nat_tests}
use Rattle.std.proofs.lemmas.List.{get_or-append_right, get_or-take, get_or_append_left, length-append, length-take}
use Rattle.ol_values.specs.Config.{Config}
use Rattle.ol_chunks.specs.Places.{physical_area}
use Rattle.ol_chunks.specs.declared.table.Area.{Area}
use Rattle.ol_ports.specs.Disk.{Bytes, Past, Rest, seen}
use Rattle.ol_ports.specs.Frames.{IsSettledIn}
use Rattle.ol_physlog.specs.Places.{Idle, entry_at, head_page, in_physical}
use Rattle.ol_physlog.specs.Reading.{Found, IsFound, Tells, found_place, log_of}
use Rattle.ol_physlog.specs.States.{IsFree, IsLaid, IsLog, NoneLater, no_place, same_page}
use Rattle.ol_physlog.specs.declared.place.Place.{Place}
use Rattle.ol_physlog.proofs.Lists.{all_false}
use Rattle.ol_physlog.proofs.PlaceLaws.{SameEntry, entry_same, gate_same, generation_same, open_same}

-- ---- the order

split : (j n : ℕ) → (j < n) ⊎ (n ≤ j)
split j n = grind arith

sides : (i j : ℕ) → (i < j) ⊎ ((i ≡ j) ⊎ (j < i))
sides i j = grind arith

front_at : (f : Found) (j : ℕ) → j < length f.numbers → slice_index (f.numbers ++ f.others) j ≡ slice_index f.numbers j
front_at f j lt = get_or_append_left f.numbers f.others 0 j lt

back_at : (f : Found) (j : ℕ) → length f.numbers ≤ j → slice_index (f.numbers ++ f.others) j ≡ slice_index f.others (j - length f.numbers)
back_at f j le = get_or-append_right f.numbers f.others (length f.numbers) j 0 refl le

rising : (l : List ℕ) → ((i j : ℕ) → i < j → j < length l → slice_index l i < slice_index l j) → (i j : ℕ) → i < length l → j < length l → slice_index l i ≡ slice_index l j → i ≡ j
rising l ascend i j lt below same = ⊎_elim (λ before. omega (arith, same, ascend i j before below)) (λ rest. ⊎_elim (λ e. e) (λ behind. omega (arith, same, ascend j i behind lt)) rest) (sides i j)

pub log_begun : (c : Config) (g : ℕ) (f : Found) → IsFound f → length f.gates ≡ (physical_area c).count → 1 ≤ (physical_area c).count → (physical_area c).pages ≡ 2 → (physical_area c).first + 2 * (physical_area c).count < 2 ^ 16 → g < 2 ^ 64 → IsLog (log_of c g f)
log_begun c g f is size some pages fits small = record {
  some = some;
  pages = pages;
  fits = fits;
  generation = small;
  order = whole;
  below = λ j lt. ⊎_elim (λ before. omega (arith, front_at f j before, is.numbers j before, size)) (λ le. let back = behind j lt le in omega (arith, back_at f j le, is.others (j - length f.numbers) back, size)) (split j (length f.numbers));
  apart = λ i j lt below same.
      ⊎_elim
      (λ a. ⊎_elim (λ b. rising f.numbers is.ascend i j a b (sym (front_at f i a) ∙ same ∙ front_at f j b)) (λ b. absurd (is.apart i (j - length f.numbers) a (behind j below b) (sym (front_at f i a) ∙ same ∙ back_at f j b))) (split j (length f.numbers)))
      (λ a. ⊎_elim (λ b. absurd (is.apart j (i - length f.numbers) b (behind i lt a) (sym (front_at f j b) ∙ sym same ∙ back_at f i a)))
      (λ b. let e = rising f.others is.others_ascend (i - length f.numbers) (j - length f.numbers) (behind i lt a) (behind j below b) (sym (back_at f i a) ∙ same ∙ back_at f j b) in omega (arith, e, a, b)) (split j (length f.numbers)))
      (split i (length f.numbers));
  gates = size;
  places = omega (arith, is.paired, is.size, size);
  settled = omega (arith, is.paired);
  once = is.pages;
}
  where
    whole : length (f.numbers ++ f.others) ≡ (physical_area c).count
    whole = omega (arith, length-append f.numbers f.others, is.size, size)

    behind : (j : ℕ) → j < (physical_area c).count → length f.numbers ≤ j → j - length f.numbers < length f.others
    behind j lt le = omega (arith, is.size, size, lt, le)

-- ---- the disk

-- whatever a stop leaves has the entries that are read
pub settled_entry : (c : Config) (past : Past) (k : ℕ) → (physical_area c).pages ≡ 2 → k < (physical_area c).count → IsSettledIn past (in_physical c) → (d : Bytes) → Rest past d → SameEntry (physical_area c) d (seen past) k
settled_entry c past k two lt settled d rest = record {
  of_head = λ i. settled d rest (physical_area c).chunk (head_page (physical_area c) k) i (inside (head_page (physical_area c) k) (omega arith) (omega (arith, size, lt)));
  of_image = λ i. settled d rest (physical_area c).chunk (head_page (physical_area c) k + 1) i (inside (head_page (physical_area c) k + 1) (omega arith) (omega (arith, size, lt)));
}
  where
    size : (physical_area c).count * (physical_area c).pages ≡ 2 * (physical_area c).count
    size = ap (λ (n : ℕ). (physical_area c).count * n) two ∙ omega arith

    inside : (p : ℕ) → (physical_area c).first ≤ p → p < (physical_area c).first + (physical_area c).count * (physical_area c).pages → in_physical c (physical_area c).chunk p ≡ true
    inside p low high = grind (arith, nat_tests)

pub begun_laid : (c : Config) (g : ℕ) (past : Past) (f : Found) → IsFound f → IsLog (log_of c g f) → Tells c (physical_area c) g (seen past) f → IsSettledIn past (in_physical c) → NoneLater (physical_area c) (seen past) g → IsLaid c past (log_of c g f) f.images
begun_laid c g past f is log tells settled older = record {
  is = log;
  paired = is.imaged ∙ sym is.paired;
  pages = λ j le lt. absurd (omega (arith, le, lt, is.paired));
  each = λ d rest. record {
    gates = λ k lt. open_same (physical_area c) d (seen past) k (same k lt d rest) ∙ tells.gates k (omega (arith, lt, log.gates));
    settled = λ j lt.
        ap (λ (n : ℕ). entry_at c (physical_area c) g d n) (front_at f j lt)
        ∙ entry_same (physical_area c) d (seen past) (slice_index f.numbers j) (same (slice_index f.numbers j) (omega (arith, is.numbers j lt, log.gates)) d rest) c g
        ∙ tells.counts j lt;
    others = λ k lt free. entry_same (physical_area c) d (seen past) k (same k lt d rest) c g ∙ idle k lt free;
    older = λ k lt gate. subst (λ (n : ℕ). n ≤ g) (sym (generation_same (physical_area c) d (seen past) k (same k lt d rest))) (older k lt (sym (gate_same (physical_area c) d (seen past) k (same k lt d rest)) ∙ gate));
  };
  body = λ j le lt. absurd (omega (arith, le, lt, is.paired));
  shut = λ j le lt. absurd (omega (arith, le, lt, is.paired));
}
  where
    same : (k : ℕ) → k < (physical_area c).count → (d : Bytes) → Rest past d → SameEntry (physical_area c) d (seen past) k
    same k lt d rest = settled_entry c past k log.pages lt settled d rest

    idle : (k : ℕ) → k < (physical_area c).count → IsFree (log_of c g f) k → entry_at c (physical_area c) g (seen past) k ≡ Idle
    idle k lt free =
        ⊎_elim (λ h. absurd (free h.0 (omega (arith, h.1, is.paired)) (front_at f h.0 h.1 ∙ h.2))) (λ h. ap (λ (n : ℕ). entry_at c (physical_area c) g (seen past) n) (sym h.2) ∙ tells.idle h.0 h.1) (is.all k (omega (arith, lt, log.gates)))

-- ---- the pages, one after the other

-- no earlier entry is of the page
pub none_earlier : (f : Found) (i : ℕ) → IsFound f → i < length f.numbers → list_any (same_page (found_place f i)) (take i f.places) ≡ false
none_earlier f i is lt =
    all_false (same_page (found_place f i)) (take i f.places) no_place
    (λ j below. let earlier : j < i = omega (arith, below, length-take i f.places) in ap (λ (p : Place). same_page (found_place f i) p) (get_or-take i f.places j no_place earlier) ∙ is.pages j i earlier (omega (arith, lt, is.paired)))

pub pages_more : (f : Found) (i : ℕ) → IsFound f → i < length f.numbers → take i f.places ++ found_place f i ∷ [] ≡ take (i + 1) f.places
pages_more f i is lt = let at : suc i ≡ i + 1 = omega arith in sym (take-suc f.places i no_place (omega (arith, lt, is.paired))) ∙ ap (λ (n : ℕ). take n f.places) at

-- the fields of the log are those that were read
pub begun_is : (c : Config) (g : ℕ) (f : Found) (a : Area) (order : List ℕ) (places : List Place) (settled : ℕ) (gates : List Bool) → a ≡ physical_area c → order ≡ f.numbers ++ f.others → places ≡ f.places → settled ≡ length f.numbers → gates ≡ f.gates
    → record { area = a; generation = g; order = order; places = places; settled = settled; gates = gates } ≡ log_of c g f
begun_is c g f a order places settled gates one two three four five i = record { area = one i; generation = g; order = two i; places = three i; settled = four i; gates = five i }

pub log_begun_by : (c : Config) (g : ℕ) (f : Found) (a : Area) → a ≡ physical_area c → IsFound f → length f.gates ≡ (physical_area c).count → 1 ≤ a.count → a.pages ≡ 2 → a.first + 2 * a.count < 2 ^ 16 → g < 2 ^ 64 → IsLog (log_of c g f)
log_begun_by c g f a is_area is size some pages fits small =
    log_begun c g f is size (subst (λ (x : Area). 1 ≤ x.count) is_area some) (subst (λ (x : Area). x.pages ≡ 2) is_area pages) (subst (λ (x : Area). x.first + 2 * x.count < 2 ^ 16) is_area fits) small
