-- Heads in another order.
use Rattle.std.proofs.Common.{◌≡◌, ◌≢◌, ◌⊎◌, inl, inr, ℕ, ◌+◌, ◌<◌, ◌≤◌, true, false, ◌==◌, if◌then◌else◌, List, [], ◌∷◌, drop, suc, zero, length, refl, sym, ◌∙◌, ap, subst, arith}
use Rattle.std.specs.List.{swap}
use Rattle.std.specs.List.Sorted.{IsNonDecreasingBy, IsPermutation}
use Rattle.std.proofs.lemmas.Bool.{cases_eq}
use Rattle.std.proofs.lemmas.Bool.Decides.{nat_tests}
use Rattle.std.proofs.lemmas.List.{length-drop}
use Rattle.std.proofs.lemmas.List.Edits.{length-swap, swapped_from_swap}
use Rattle.std.proofs.lemmas.List.Sorted.{IsPermutation-keeps}
use Rattle.ol_values.specs.Config.{Config}
use Rattle.ol_log_places.specs.declared.heads.Stood.{Stood}
use Rattle.ol_log_places.specs.Heads.{AreInLog, AreInRun, AreLow, IsInLog, IsLastRun, IsLow, IsNotApart, Overlap, SharesAt, no_stood, stood_at}

-- each of the new list stood in the old one, no two of them at one index
pub record Moved (old new : List Stood) : Type 0 where
  pub size : length new ≡ length old
  pub from : ℕ → ℕ
  pub within : (k : ℕ) → k < length new → from k < length old
  pub same : (k : ℕ) → k < length new → stood_at new k ≡ stood_at old (from k)
  pub apart : (a b : ℕ) → a < length new → b < length new → from a ≡ from b → a ≡ b

turn : ℕ → ℕ → ℕ → ℕ
turn i j k = if k == i then j else (if k == j then i else k)

turn_cases : (i j k : ℕ) → ((k ≡ i) × (turn i j k ≡ j)) ⊎ (((k ≡ j) × (turn i j k ≡ i)) ⊎ ((k ≢ i) × (k ≢ j) × (turn i j k ≡ k)))
unfolding turn
turn_cases i j k = elim (cases_eq k i) [
  | inl first ↦ let t : (k == i) ≡ true = grind (arith, nat_tests) in inl (first, rw t refl)
  | inr other ↦ let t : (k == i) ≡ false = grind (arith, nat_tests) in elim (cases_eq k j) [
    | inl second ↦ let u : (k == j) ≡ true = grind (arith, nat_tests) in inr (inl (second, rw (t, u) refl))
    | inr neither ↦ let u : (k == j) ≡ false = grind (arith, nat_tests) in inr (inr (other, neither, rw (t, u) refl))
  ]
]

turn_apart : (i j a b : ℕ) → turn i j a ≡ turn i j b → a ≡ b
turn_apart i j a b same = elim (turn_cases i j a) [
  | inl ai ↦ elim (turn_cases i j b) [ inl bi ↦ ai.0 ∙ sym bi.0 | inr (inl bj) ↦ ai.0 ∙ sym bj.1 ∙ sym same ∙ ai.1 ∙ sym bj.0 | inr (inr bo) ↦ absurd (bo.1 (sym bo.2 ∙ sym same ∙ ai.1)) ]
  | inr (inl aj) ↦ elim (turn_cases i j b) [ inl bi ↦ aj.0 ∙ sym bi.1 ∙ sym same ∙ aj.1 ∙ sym bi.0 | inr (inl bj) ↦ aj.0 ∙ sym bj.0 | inr (inr bo) ↦ absurd (bo.0 (sym bo.2 ∙ sym same ∙ aj.1)) ]
  | inr (inr ao) ↦ elim (turn_cases i j b) [ inl bi ↦ absurd (ao.1 (sym ao.2 ∙ same ∙ bi.1)) | inr (inl bj) ↦ absurd (ao.0 (sym ao.2 ∙ same ∙ bj.1)) | inr (inr bo) ↦ sym ao.2 ∙ same ∙ bo.2 ]
]

turn_within : (i j n k : ℕ) → i < n → j < n → k < n → turn i j k < n
turn_within i j n k li lj lk = elim (turn_cases i j k) [ inl first ↦ omega (arith, first.1) | inr (inl second) ↦ omega (arith, second.1) | inr (inr other) ↦ omega (arith, other.2) ]

turned : (l : List Stood) (i j : ℕ) → i < length l → j < length l → (k : ℕ) → stood_at (swap l i j) k ≡ stood_at l (turn i j k)
turned l i j li lj k =
    let s = swapped_from_swap l (swap l i j) i j no_stood li lj refl in
    elim (turn_cases i j k) [
      | inl first ↦ ap (stood_at (swap l i j)) first.0 ∙ s.0 ∙ ap (stood_at l) (sym first.1)
      | inr (inl second) ↦ ap (stood_at (swap l i j)) second.0 ∙ s.1 ∙ ap (stood_at l) (sym second.1)
      | inr (inr other) ↦ s.2 k other.0 other.1 ∙ ap (stood_at l) (sym other.2)
    ]

moved_swap : (old l : List Stood) (i j : ℕ) → i < length l → j < length l → Moved old l → Moved old (swap l i j)
moved_swap old l i j li lj m = record {
  size = length-swap l i j ∙ m.size;
  from = λ k. m.from (turn i j k);
  within = λ k lt. m.within (turn i j k) (turn_within i j (length l) k li lj (omega (arith, length-swap l i j)));
  same = λ k lt. turned l i j li lj k ∙ m.same (turn i j k) (turn_within i j (length l) k li lj (omega (arith, length-swap l i j)));
  apart = λ a b la lb e. turn_apart i j a b (m.apart (turn i j a) (turn i j b) (turn_within i j (length l) a li lj (omega (arith, length-swap l i j))) (turn_within i j (length l) b li lj (omega (arith, length-swap l i j))) e);
}

pub moved_by : (old new : List Stood) → IsPermutation old new → Moved old new
moved_by old new p = IsPermutation-keeps old (Moved old) (record { size = refl; from = λ k. k; within = λ k lt. lt; same = λ k lt. refl; apart = λ a b la lb e. e }) (moved_swap old) new p

pub moved_low : (old new : List Stood) → Moved old new → AreLow old → AreLow new
moved_low old new m low k lt = subst IsLow (sym (m.same k lt)) (low (m.from k) (m.within k lt))

moved_in_log : (c : Config) (old new : List Stood) → Moved old new → AreInLog c old → AreInLog c new
moved_in_log c old new m inside k lt = subst (IsInLog c) (sym (m.same k lt)) (inside (m.from k) (m.within k lt))

all_in_run : (c : Config) (heads : List Stood) → AreInLog c heads → AreInRun c.log_file_pages heads
all_in_run c [] inside = tt
all_in_run c (s ∷ heads) inside = ((inside 0 (omega arith)).2, all_in_run c heads (λ k lt. inside (suc k) (omega (arith, lt))))

dropped_in_run : (pages n : ℕ) (heads : List Stood) → AreInRun pages heads → AreInRun pages (drop n heads)
dropped_in_run pages zero heads all = all
dropped_in_run pages (suc n) [] all = tt
dropped_in_run pages (suc n) (s ∷ heads) all = dropped_in_run pages n heads all.1

-- the pages of the run are among the others, and no more
pub last_in_run : (c : Config) (heads run : List Stood) → AreInLog c heads → IsLastRun heads run → AreInRun c.log_file_pages run
last_in_run c heads run inside l = subst (AreInRun c.log_file_pages) (sym l.is) (dropped_in_run c.log_file_pages l.start l.sorted (all_in_run c l.sorted (moved_in_log c heads l.sorted (moved_by heads l.sorted l.moved) inside)))

pub last_few : (heads run : List Stood) → IsLastRun heads run → length run ≤ length heads
last_few heads run l = omega (arith, ap length l.is ∙ length-drop l.start l.sorted, (moved_by heads l.sorted l.moved).size)

-- pages that stand side by side by position and share one stand somewhere in the old list, one behind the other
pub some_shares : (old new : List Stood) → Moved old new → AreLow new → IsNonDecreasingBy (λ (s : Stood). s.head.first) new → IsNotApart new → (k : ℕ) × (k < length old) × SharesAt old k
some_shares old new m low rising (k, lt, over) =
    let here : k < length new = omega arith in
    let behind = low (k + 1) lt in
    let le = rising k (k + 1) no_stood (omega arith) lt in
    let ef = m.same k here in
    let eg = m.same (k + 1) lt in
    let pair : Overlap (stood_at old (m.from k)) (stood_at old (m.from (k + 1))) = subst (λ (x : Stood). Overlap x (stood_at old (m.from (k + 1)))) ef (subst (λ (x : Stood). Overlap (stood_at new k) x) eg (omega (arith, le, behind.0), over)) in
    elim (three (m.from k) (m.from (k + 1))) [
      | inl before ↦ (m.from (k + 1), m.within (k + 1) lt, (m.from k, before, pair))
      | inr (inl same) ↦ absurd (let clash = m.apart k (k + 1) here lt same in omega (arith, clash))
      | inr (inr after) ↦ (m.from k, m.within k here, (m.from (k + 1), after, (pair.1, pair.0)))
    ]
  where
    three : (a b : ℕ) → (a < b) ⊎ ((a ≡ b) ⊎ (b < a))
    three a b = grind arith

-- ---- the first that shares a position

pub none_more : (heads : List Stood) (k : ℕ) → ((i : ℕ) → i < k → SharesAt heads i → ⊥) → (SharesAt heads k → ⊥) → (i : ℕ) → i < k + 1 → SharesAt heads i → ⊥
none_more heads k none here i lt shares = elim (cases_eq i k) [ inl same ↦ here (subst (SharesAt heads) same shares) | inr other ↦ none i (omega arith) shares ]

pub further : (heads : List Stood) (k : ℕ) → ((i : ℕ) → i < k → SharesAt heads i → ⊥) → (SharesAt heads k → ⊥) → (m : ℕ) × (m < length heads) × SharesAt heads m → k + 1 < length heads
further heads k none here some = elim (order (k + 1) some.0) [ inl le ↦ omega (arith, le, some.1) | inr lt ↦ absurd (none_more heads k none here some.0 lt some.2) ]
  where
    order : (a b : ℕ) → (a ≤ b) ⊎ (b < a)
    order a b = grind arith
