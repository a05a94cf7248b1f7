-- What a stop leaves is read again.
use Rattle.std.proofs.Common.{◌≡◌, ◌≢◌, ◌⊎◌, inl, inr, ⊎_elim, ℕ, zero, suc, ◌<◌, ◌≤◌, true, false, List, length, sym, ◌∙◌, ap, subst, arith}
use Rattle.std.proofs.lemmas.Bool.{cases_eq}
use Rattle.std.proofs.lemmas.Bool.Decides.{nat_tests}
use Rattle.ol_values.specs.Config.{Config}
use Rattle.ol_ports.specs.Disk.{Bytes, Past, Rest}
use Rattle.ol_physlog.specs.Places.{Bad, Counts, EntryPlace, Idle, entry_at}
use Rattle.ol_physlog.specs.Reading.{IsRefused}
use Rattle.ol_physlog.specs.States.{HoldsEntries, IsLaid, IsLog, Log, entry_number, image_at, place_at, same_page}
use Rattle.ol_physlog.specs.declared.place.Place.{Place}

-- an entry was added at one of the first turns, or not
turn_of : (s : Log) (k n : ℕ) → ((j : ℕ) × (j < n) × (entry_number s j ≡ k)) ⊎ ((j : ℕ) → j < n → entry_number s j ≢ k)
turn_of s k zero = inr (λ j lt. absurd (omega (arith, lt)))
turn_of s k (suc n) = by (turn_of s k n)
  where
    by : ((j : ℕ) × (j < n) × (entry_number s j ≡ k)) ⊎ ((j : ℕ) → j < n → entry_number s j ≢ k) → ((j : ℕ) × (j < suc n) × (entry_number s j ≡ k)) ⊎ ((j : ℕ) → j < suc n → entry_number s j ≢ k)
    by (inl h) = inl (h.0, omega (arith, h.1), h.2)
    by (inr none) = elim (cases_eq (entry_number s n) k) [
      | inl is ↦ inl (n, omega arith, is)
      | inr differs ↦ inr (λ j lt. elim (cases_eq j n) [
        | inl at ↦ subst (λ (i : ℕ). entry_number s i ≢ k) (sym at) differs
        | inr other ↦ none j (omega (arith, lt, other))
      ])
    ]

module _ (c : Config) (s : Log) (images : List (List ℕ)) (d : Bytes) (holds : HoldsEntries c s images d) where
  -- an entry does not count, or was added, and counts as it was
  abbrev pub IsAdded : ℕ → Type 0
  IsAdded k = (j : ℕ) × (j < length s.places) × (entry_number s j ≡ k) × (entry_at c s.area s.generation d k ≡ Counts (place_at s j) (image_at images j))

  split : (j n : ℕ) → (j < n) ⊎ (n ≤ j)
  split j n = grind arith

  here : (k j : ℕ) → entry_number s j ≡ k → (e : EntryPlace) → entry_at c s.area s.generation d (entry_number s j) ≡ e → entry_at c s.area s.generation d k ≡ e
  here k j at e is = ap (λ (n : ℕ). entry_at c s.area s.generation d n) (sym at) ∙ is

  pub idle_or_added : (k : ℕ) → k < s.area.count → (entry_at c s.area s.generation d k ≡ Idle) ⊎ IsAdded k
  idle_or_added k lt =
      ⊎_elim
      (λ h.
      ⊎_elim (λ settled. inr (h.0, h.1, h.2, here k h.0 h.2 _ (holds.settled h.0 settled)))
      (λ le. ⊎_elim (λ idle. inl (here k h.0 h.2 _ idle)) (λ counts. inr (h.0, h.1, h.2, here k h.0 h.2 _ counts)) (holds.added h.0 le h.1))
      (split h.0 s.settled))
      (λ free. inl (holds.others k lt free)) (turn_of s k (length s.places))

  counts_parts : (p q : Place) (l m : List ℕ) → Counts p l ≡ Counts q m → (p ≡ q) × (l ≡ m)
  counts_parts p q l m e = (cc, cc)

  -- what counts was added
  pub counts_added : (k : ℕ) (place : Place) (image : List ℕ) → k < s.area.count → entry_at c s.area s.generation d k ≡ Counts place image → (j : ℕ) × (j < length s.places) × (entry_number s j ≡ k) × (place_at s j ≡ place) × (image_at images j ≡ image)
  counts_added k place image lt counts =
      ⊎_elim (λ idle. absurd (let e : Idle ≡ Counts place image = sym idle ∙ counts in cc))
      (λ h. let same = counts_parts (place_at s h.0) place (image_at images h.0) image (sym h.3 ∙ counts) in (h.0, h.1, h.2, same.0, same.1)) (idle_or_added k lt)

  itself : (p q : Place) → p ≡ q → same_page p q ≡ false → ⊥
  itself p q e none =
      let is_same : same_page p p ≡ true = grind (arith, nat_tests) in
      let clash : true ≡ false = sym is_same ∙ ap (λ (x : Place). same_page p x) e ∙ none in
      cc

  sides : (i j : ℕ) → (i < j) ⊎ ((i ≡ j) ⊎ (j < i))
  sides i j = grind arith

  -- no entry is refused
  pub none_refused : IsLog s → (k : ℕ) → k < s.area.count → IsRefused c s.area s.generation d k → ⊥
  none_refused is k lt (inl bad) = ⊎_elim (λ idle. let e : Idle ≡ Bad = sym idle ∙ bad in cc) (λ h. let e : Counts (place_at s h.0) (image_at images h.0) ≡ Bad = sym h.3 ∙ bad in cc) (idle_or_added k lt)
  none_refused is k lt (inr (earlier, place, old, new, before, first, second)) =
      let a = counts_added earlier place old (omega (arith, before, lt)) first in
      let b = counts_added k place new lt second in
      let one : place_at s a.0 ≡ place_at s b.0 = a.3 ∙ sym b.3 in
      ⊎_elim (λ l. itself _ _ (sym one) (is.once a.0 b.0 l b.1))
      (λ rest. ⊎_elim (λ e. let same : earlier ≡ k = sym a.2 ∙ ap (λ (n : ℕ). entry_number s n) e ∙ b.2 in omega (arith, same, before)) (λ l. itself _ _ one (is.once b.0 a.0 l a.1)) rest) (sides a.0 b.0)

pub settled_count : (c : Config) (past : Past) (s : Log) (images : List (List ℕ)) → IsLaid c past s images → s.settled ≡ length s.places → (d : Bytes) → Rest past d → (j : ℕ) → j < length s.places → entry_at c s.area s.generation d (entry_number s j) ≡ Counts (place_at s j) (image_at images j)
settled_count c past s images laid all d rest j lt = (laid.each d rest).settled j (omega (arith, lt, all))
