-- The state of the log, step by step.
use Rattle.std.proofs.Common.{◌≡◌, ◌≢◌, inl, ⊎_elim, ℕ, ◌<◌, ◌≤◌, Bool, true, false, List, [], ◌∷◌, ◌++◌, drop, length, refl, replicate, sym, ◌∙◌, ap, subst, take, arith, set, Result, Ok, Err}
use Rattle.std.specs.List.{range_with_len}
use Rattle.std.specs.Prelude.{IfOk, IsOk, if◌then◌else◌, slice_index_or}
use Rattle.std.proofs.lemmas.List.{get_or-set_other, get_or-set_same, get_or_append_left, length-append, length-set, set-get_or, take_at}
use Rattle.ol_values.specs.Config.{Config}
use Rattle.ol_ports.specs.Disk.{Bytes, Past, Rest}
use Rattle.ol_physlog.specs.States.{HoldsEntries, IsFree, IsLaid, IsLaidOn, IsLog, Log, emptied, entry_number, gate_of, has_entry, image_at, next_entry, no_place, place_at, same_page, with_place, with_shut}
use Rattle.ol_physlog.specs.declared.place.Place.{Place}
use Rattle.ol_physlog.proofs.Lists.{at_old, last_item, none_at, place_of_index}
use Rattle.ol_physlog.proofs.PlaceLaws.{entry_shut, shut_gate}

-- ---- what is always so

-- the next entry is free
pub next_free : (s : Log) → IsLog s → length s.places < s.area.count → IsFree s (next_entry s)
next_free s is room j lt same =
    let at : j ≡ length s.places = is.apart j (length s.places) (omega (arith, lt, room)) room same in
    omega (arith, at, lt)

pub next_below : (s : Log) → IsLog s → length s.places < s.area.count → next_entry s < s.area.count
next_below s is room = is.below (length s.places) room

pub entry_below : (s : Log) → IsLog s → (j : ℕ) → j < length s.places → entry_number s j < s.area.count
entry_below s is j lt = is.below j (omega (arith, lt, is.places))

-- entries of two turns differ
pub turns_differ : (s : Log) → IsLog s → (i j : ℕ) → i < length s.places → j < length s.places → i ≢ j → entry_number s i ≢ entry_number s j
turns_differ s is i j below under differs same = differs (is.apart i j (omega (arith, below, is.places)) (omega (arith, under, is.places)) same)

pub log_shut : (s : Log) (k : ℕ) → IsLog s → IsLog (with_shut s k)
log_shut s k is = record {
  some = is.some;
  pages = is.pages;
  fits = is.fits;
  generation = is.generation;
  order = is.order;
  below = is.below;
  apart = is.apart;
  gates = length-set s.gates k false ∙ is.gates;
  places = is.places;
  settled = is.settled;
  once = is.once;
}

pub log_placed : (s : Log) (place : Place) → IsLog s → length s.places < s.area.count → has_entry s place ≡ false → IsLog (with_place s place)
log_placed s place is room fresh = record {
  some = is.some;
  pages = is.pages;
  fits = is.fits;
  generation = is.generation;
  order = is.order;
  below = is.below;
  apart = is.apart;
  gates = is.gates;
  places = omega (arith, length-append s.places (place ∷ []), room);
  settled = omega (arith, length-append s.places (place ∷ []), is.settled);
  once = once;
}
  where
    both : (p q r t : Place) → p ≡ r → q ≡ t → same_page r t ≡ false → same_page p q ≡ false
    both p q r t one two e = ap (λ (x : Place). same_page x q) one ∙ ap (λ (x : Place). same_page r x) two ∙ e

    once : (i j : ℕ) → i < j → j < length (s.places ++ place ∷ []) → same_page (place_at (with_place s place) j) (place_at (with_place s place) i) ≡ false
    once i j lt under =
        ⊎_elim (λ old. both _ _ _ _ (at_old s.places place no_place j old) (at_old s.places place no_place i (omega (arith, lt, old))) (is.once i j lt old))
        (λ at. let earlier : i < length s.places = omega (arith, lt, at) in both _ _ _ _ (ap (λ (k : ℕ). slice_index_or (s.places ++ place ∷ []) k no_place) at ∙ last_item s.places place no_place) (at_old s.places place no_place i earlier) (none_at (same_page place) s.places i no_place fresh earlier))
        (place_of_index s.places place j under)

-- ---- gates

-- a closed gate that is closed stays
pub shut_same : (s : Log) (k : ℕ) → gate_of s k ≡ false → with_shut s k ≡ s
shut_same s k shut i = record {
  area = s.area;
  generation = s.generation;
  order = s.order;
  places = s.places;
  settled = s.settled;
  gates = (ap (λ (b : Bool). set s.gates k b) (sym shut) ∙ set-get_or s.gates k false) i;
}

pub gate_now_shut : (s : Log) (k : ℕ) → IsLog s → k < s.area.count → gate_of (with_shut s k) k ≡ false
gate_now_shut s k is lt = get_or-set_same s.gates k false false (omega (arith, lt, is.gates))

pub gate_elsewhere : (s : Log) (k j : ℕ) → j ≢ k → gate_of (with_shut s k) j ≡ gate_of s j
gate_elsewhere s k j other = get_or-set_other s.gates k j false false other

-- ---- one more at the end

pub old_place : (s : Log) (place : Place) (j : ℕ) → j < length s.places → place_at (with_place s place) j ≡ place_at s j
old_place s place j lt = get_or_append_left s.places (place ∷ []) no_place j lt

pub old_image : (images : List (List ℕ)) (image : List ℕ) (j : ℕ) → j < length images → image_at (images ++ image ∷ []) j ≡ image_at images j
old_image images image j lt = get_or_append_left images (image ∷ []) [] j lt

-- ---- what is laid is held

pub laid_holds_on : (c : Config) (s : Log) (images : List (List ℕ)) (d : Bytes) → IsLog s → ((j : ℕ) → s.settled ≤ j → j < length s.places → gate_of s (entry_number s j) ≡ false) → IsLaidOn c s images d → HoldsEntries c s images d
laid_holds_on c s images d is shut on = record {
  settled = on.settled;
  added = λ j le lt. inl (entry_shut c s.area s.generation d (entry_number s j) (shut_gate s.area d (entry_number s j) (on.gates (entry_number s j) (entry_below s is j lt) ∙ shut j le lt)));
  others = on.others;
  older = on.older;
}

pub laid_holds : (c : Config) (past : Past) (s : Log) (images : List (List ℕ)) → IsLaid c past s images → (d : Bytes) → Rest past d → HoldsEntries c s images d
laid_holds c past s images laid d rest = laid_holds_on c s images d laid.is laid.shut (laid.each d rest)

-- what is held does not depend on the gates
pub holds_shut : (c : Config) (s : Log) (k : ℕ) (images : List (List ℕ)) (d : Bytes) → HoldsEntries c (with_shut s k) images d → HoldsEntries c s images d
holds_shut c s k images d holds = record { settled = holds.settled; added = holds.added; others = holds.others; older = holds.older }

-- ---- as the fields of the log tell

pub log_inserted : (s : Log) (place : Place) (keys : List Place) → IsLog s → length s.places < s.area.count → has_entry s place ≡ false → keys ≡ s.places ++ place ∷ [] → IsLog (record { area = s.area; generation = s.generation; order = s.order; places = keys; settled = s.settled; gates = s.gates })
log_inserted s place keys is room fresh e =
    subst (λ (l : List Place). IsLog (record { area = s.area; generation = s.generation; order = s.order; places = l; settled = s.settled; gates = s.gates })) (sym e) (log_placed s place is room fresh)

pub inserted_is : (s now : Log) (place : Place) (keys : List Place) → keys ≡ s.places ++ place ∷ [] → s ≡ now → record { area = s.area; generation = s.generation; order = s.order; places = keys; settled = s.settled; gates = s.gates } ≡ with_place now place
inserted_is s now place keys e same = (λ i. record { area = s.area; generation = s.generation; order = s.order; places = e i; settled = s.settled; gates = s.gates }) ∙ ap (λ (t : Log). with_place t place) same

pub if_ok : {T E A : Type 0} (r : Result T E) → IsOk r → IfOk r (λ x. A) → A
if_ok (Ok x) is a = a
if_ok (Err e) is a = absurd (cc)

pub by_false : {A : Type 0} (b : Bool) (x y : A) → b ≡ false → (if b then x else y) ≡ y
by_false true x y e = absurd (cc)
by_false false x y e = refl

-- a list that was written over whole
pub written_over : (l m : List ℕ) (n : ℕ) → length l ≡ n → take n (l ++ drop (length l) m) ≡ l
written_over l m n long = take_at l (drop (length l) m) n long

pub renewed_is : (s : Log) (generation : ℕ) (order : List ℕ) (places : List Place) (gates : List Bool) → order ≡ range_with_len 0 s.area.count → places ≡ [] → gates ≡ replicate s.area.count false
    → record { area = s.area; generation = generation; order = order; places = places; settled = 0; gates = gates } ≡ emptied s generation
renewed_is s generation order places gates o p q i = record { area = s.area; generation = generation; order = o i; places = p i; settled = 0; gates = q i }
