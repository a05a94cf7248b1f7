-- What was found, an entry further.
use Rattle.std.proofs.Common.{◌≡◌, ◌⊎◌, inl, inr, ⊎_elim, ℕ, ◌+◌, ◌<◌, Bool, true, false, List, [], ◌∷◌, ◌++◌, get_or, length, refl, sym, ◌∙◌, ap, arith}
use Rattle.std.specs.Prelude.{slice_index}
use Rattle.ol_physlog.specs.Reading.{Entry, Found, IsFound, entries_of, has_found, nothing_found, with_counting, with_other}
use Rattle.ol_physlog.specs.States.{no_place, same_page}
use Rattle.ol_physlog.specs.declared.place.Place.{Place}
use Rattle.ol_physlog.proofs.Lists.{at_old, grown, last_item, none_at, place_of_index}

-- ---- the parts

module _ (l : List ℕ) (n : ℕ) (below : (i : ℕ) → i < length l → slice_index l i < n) where
  pub more_below : (i : ℕ) → i < length (l ++ n ∷ []) → slice_index (l ++ n ∷ []) i < n + 1
  more_below i lt = ⊎_elim (λ old. omega (arith, at_old l n 0 i old, below i old)) (λ at. omega (arith, ap (λ (k : ℕ). get_or (l ++ n ∷ []) k 0) at, last_item l n 0)) (place_of_index l n i lt)

  pub more_ascend : ((i j : ℕ) → i < j → j < length l → slice_index l i < slice_index l j) → (i j : ℕ) → i < j → j < length (l ++ n ∷ []) → slice_index (l ++ n ∷ []) i < slice_index (l ++ n ∷ []) j
  more_ascend ascend i j lt under =
      ⊎_elim (λ old. omega (arith, at_old l n 0 j old, at_old l n 0 i (omega (arith, lt, old)), ascend i j lt old))
      (λ at. let earlier : i < length l = omega (arith, lt, at) in omega (arith, ap (λ (k : ℕ). get_or (l ++ n ∷ []) k 0) at, last_item l n 0, at_old l n 0 i earlier, below i earlier))
      (place_of_index l n j under)

  pub more_apart : (m : List ℕ) → ((j : ℕ) → j < length m → slice_index m j < n) → ((i j : ℕ) → i < length l → j < length m → slice_index l i ≡ slice_index m j → ⊥) → (i j : ℕ) → i < length (l ++ n ∷ []) → j < length m → slice_index (l ++ n ∷ []) i ≡ slice_index m j → ⊥
  more_apart m under apart i j lt inside same =
      ⊎_elim (λ old. apart i j old inside (sym (at_old l n 0 i old) ∙ same)) (λ at. omega (arith, same, ap (λ (k : ℕ). get_or (l ++ n ∷ []) k 0) at, last_item l n 0, under j inside)) (place_of_index l n i lt)

  pub Has : List ℕ → ℕ → Type 0
  Has m k = (i : ℕ) × (i < length m) × (slice_index m i ≡ k)

  pub has_new : (k : ℕ) → k ≡ n → (i : ℕ) × (i < length (l ++ n ∷ [])) × (slice_index (l ++ n ∷ []) i ≡ k)
  has_new k at = (length l, omega (arith, grown l n), last_item l n 0 ∙ sym at)

  pub has_old : (k : ℕ) → (i : ℕ) × (i < length l) × (slice_index l i ≡ k) → (i : ℕ) × (i < length (l ++ n ∷ [])) × (slice_index (l ++ n ∷ []) i ≡ k)
  has_old k h = (h.0, omega (arith, h.1, grown l n), at_old l n 0 h.0 h.1 ∙ h.2)

split_last : (k n : ℕ) → k < n + 1 → (k < n) ⊎ (k ≡ n)
split_last k n lt = grind (arith, lt)

pub found_none : IsFound nothing_found
found_none = record {
  paired = refl;
  imaged = refl;
  size = refl;
  numbers = λ i lt. absurd (omega (arith, lt));
  others = λ i lt. absurd (omega (arith, lt));
  ascend = λ i j lt under. absurd (omega (arith, under));
  others_ascend = λ i j lt under. absurd (omega (arith, under));
  apart = λ i j lt under same. omega (arith, lt);
  all = λ k lt. absurd (omega (arith, lt));
  pages = λ i j lt under. absurd (omega (arith, under));
}

pub found_other : (f : Found) (is_open : Bool) → IsFound f → IsFound (with_other f is_open)
found_other f is_open is = record {
  paired = is.paired;
  imaged = is.imaged;
  size = omega (arith, is.size, gates, grown f.others (length f.gates));
  numbers = λ i lt. omega (arith, is.numbers i lt, gates);
  others = λ i lt. omega (arith, more_below f.others (length f.gates) is.others i lt, gates);
  ascend = is.ascend;
  others_ascend = more_ascend f.others (length f.gates) is.others is.others_ascend;
  apart = λ i j lt under same. more_apart f.others (length f.gates) is.others f.numbers is.numbers (λ a b below inside e. is.apart b a inside below (sym e)) j i under lt (sym same);
  all = λ k lt. ⊎_elim (λ old. ⊎_elim (λ h. inl h) (λ h. inr (has_old f.others (length f.gates) is.others k h)) (is.all k old)) (λ at. inr (has_new f.others (length f.gates) is.others k at)) (split_last k (length f.gates) (omega (arith, lt, gates)));
  pages = is.pages;
}
  where
    gates : length (f.gates ++ is_open ∷ []) ≡ length f.gates + 1
    gates = grown f.gates is_open

pub found_counting : (f : Found) (place : Place) (image : List ℕ) → has_found f place ≡ false → IsFound f → IsFound (with_counting f place image)
found_counting f place image fresh is = record {
  paired = omega (arith, is.paired, grown f.places place, grown f.numbers (length f.gates));
  imaged = omega (arith, is.imaged, grown f.images image, grown f.numbers (length f.gates));
  size = omega (arith, is.size, gates, grown f.numbers (length f.gates));
  numbers = λ i lt. omega (arith, more_below f.numbers (length f.gates) is.numbers i lt, gates);
  others = λ i lt. omega (arith, is.others i lt, gates);
  ascend = more_ascend f.numbers (length f.gates) is.numbers is.ascend;
  others_ascend = is.others_ascend;
  apart = more_apart f.numbers (length f.gates) is.numbers f.others is.others is.apart;
  all = λ k lt. ⊎_elim (λ old. ⊎_elim (λ h. inl (has_old f.numbers (length f.gates) is.numbers k h)) (λ h. inr h) (is.all k old)) (λ at. inl (has_new f.numbers (length f.gates) is.numbers k at)) (split_last k (length f.gates) (omega (arith, lt, gates)));
  pages = pages;
}
  where
    gates : length (f.gates ++ true ∷ []) ≡ length f.gates + 1
    gates = grown f.gates true

    both : (p q r s : Place) → p ≡ r → q ≡ s → same_page r s ≡ false → same_page p q ≡ false
    both p q r s one two e = ap (λ (x : Place). same_page x q) one ∙ ap (λ (x : Place). same_page r x) two ∙ e

    pages : (i j : ℕ) → i < j → j < length (f.places ++ place ∷ []) → same_page (get_or (f.places ++ place ∷ []) j no_place) (get_or (f.places ++ place ∷ []) i no_place) ≡ false
    pages i j lt under =
        ⊎_elim (λ old. both _ _ _ _ (at_old f.places place no_place j old) (at_old f.places place no_place i (omega (arith, lt, old))) (is.pages i j lt old))
        (λ at. let earlier : i < length f.places = omega (arith, lt, at) in both _ _ _ _ (ap (λ (k : ℕ). get_or (f.places ++ place ∷ []) k no_place) at ∙ last_item f.places place no_place) (at_old f.places place no_place i earlier) (none_at (same_page place) f.places i no_place fresh earlier))
        (place_of_index f.places place j under)

-- the counting entries, one more
pub entries_more : (numbers : List ℕ) (places : List Place) (images : List (List ℕ)) (k : ℕ) (p : Place) (i : List ℕ) → length places ≡ length numbers → length images ≡ length numbers
    → entries_of (numbers ++ k ∷ []) (places ++ p ∷ []) (images ++ i ∷ []) ≡ entries_of numbers places images ++ record { number = k; place = p; image = i } ∷ []
unfolding entries_of
entries_more [] [] [] k p i one two = refl
entries_more [] (q ∷ places) images k p i one two = absurd (omega (arith, one))
entries_more [] [] (l ∷ images) k p i one two = absurd (omega (arith, two))
entries_more (n ∷ numbers) [] images k p i one two = absurd (omega (arith, one))
entries_more (n ∷ numbers) (q ∷ places) [] k p i one two = absurd (omega (arith, two))
entries_more (n ∷ numbers) (q ∷ places) (l ∷ images) k p i one two = ap (λ (rest : List Entry). record { number = n; place = q; image = l } ∷ rest) (entries_more numbers places images k p i (omega (arith, one)) (omega (arith, two)))
