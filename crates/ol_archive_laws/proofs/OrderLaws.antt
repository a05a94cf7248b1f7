-- The pages of an archive stand in order of space and page, and each is of one of its spaces.
use Rattle.std.proofs.Common.{◌≡◌, ℕ, ◌+◌, ◌*◌, ◌<◌, ◌≤◌, ◌++◌, ◌⊎◌, ◌∙◌, ◌^◌, Bool, Some, Option, List, [], ◌∷◌, ap, arith, cond, eq-eqb, flat_map, inl, inr, length, map, refl, subst, suc, sym, true, false, zero}
use Rattle.std.specs.List.{All, filter, range_with_len}
use Rattle.std.proofs.lemmas.Bool.{cases_lt, ne_eqb}
use Rattle.std.proofs.lemmas.List.{length-append}
use Rattle.std.proofs.lemmas.List.Elements.{All-append, All-cons, All-head, All-nil, All-tail}
use Rattle.ol_values.specs.Blocks.{Saved, SavedPage}
use Rattle.ol_rules.specs.Shelf.{saved_in}
use Rattle.ol_block_reading.specs.Grammar.{AreAscending}
use Rattle.ol_catalog.specs.Written.{AreInOrder}

-- ---- pages of a space

-- these pages of a space
abbrev pub of_space : ℕ → List ℕ → List (ℕ × ℕ)
of_space space pages = map (λ p. let r : ℕ × ℕ = (space, p) in r) pages

-- places that ascend by space and page, the first not before this one
abbrev pub Ascend : ℕ → ℕ → List (ℕ × ℕ) → Type 0
Ascend space page [] = Unit {0}
Ascend space page (p ∷ rest) = ((space < p.0) ⊎ ((space ≡ p.0) × (page ≤ p.1))) × Ascend p.0 (p.1 + 1) rest

-- they ascend from any place before, too
from_before : (s n t k : ℕ) (l : List (ℕ × ℕ)) → (s < t) ⊎ ((s ≡ t) × (n ≤ k)) → Ascend t k l → Ascend s n l
from_before s n t k [] before a = tt
from_before s n t k (p ∷ l) (inl less) (inl more, a) = (inl (omega (arith, less, more)), a)
from_before s n t k (p ∷ l) (inl less) (inr (same, from), a) = (inl (omega (arith, less, same)), a)
from_before s n t k (p ∷ l) (inr (equal, low)) (inl more, a) = (inl (omega (arith, equal, more)), a)
from_before s n t k (p ∷ l) (inr (equal, low)) (inr (same, from), a) = (inr (omega (arith, equal, same), omega (arith, low, from)), a)

space_ascends : (space : ℕ) (test : ℕ → Bool) (from n : ℕ) (rest : List (ℕ × ℕ)) → Ascend (space + 1) 0 rest → Ascend space from (of_space space (filter test (range_with_len from n)) ++ rest)
space_ascends space test from zero rest a = from_before space from (space + 1) 0 rest (inl (omega arith)) a
space_ascends space test from (suc n) rest a =
    let behind : Ascend space (from + 1) (of_space space (filter test (range_with_len (from + 1) n)) ++ rest) = space_ascends space test (from + 1) n rest a in
    elim (test from) as (λ b. Ascend space from (of_space space (cond b (from ∷ filter test (range_with_len (from + 1) n)) (filter test (range_with_len (from + 1) n))) ++ rest)) [
      | true ↦ (inr (refl, omega arith), behind)
      | false ↦ from_before space from space (from + 1) (of_space space (filter test (range_with_len (from + 1) n)) ++ rest) (inr (refl, omega arith)) behind
    ]

at_or_after : (a b : ℕ) → a ≤ b → (a < b) ⊎ (a ≡ b)
at_or_after a b low = elim (cases_lt a b) as (λ _. (a < b) ⊎ (a ≡ b)) [ inl less ↦ inl less | inr from ↦ inr (omega (arith, low, from)) ]

-- of spaces in ascending order, with a test and a number of pages for each
pub spaces_ascend : (test : Saved → ℕ → Bool) (count : Saved → ℕ) (spaces least : ℕ) (l : List Saved) → AreAscending spaces least l
    → Ascend least 0 (flat_map (λ (v : Saved). of_space v.space (filter (test v) (range_with_len 0 (count v)))) l)
spaces_ascend test count spaces least [] a = tt
spaces_ascend test count spaces least (v ∷ l) (low, is, a) =
    let pages : List (ℕ × ℕ) = flat_map (λ (w : Saved). of_space w.space (filter (test w) (range_with_len 0 (count w)))) (v ∷ l) in
    let own : Ascend v.space 0 pages = space_ascends v.space (test v) 0 (count v) (flat_map (λ (w : Saved). of_space w.space (filter (test w) (range_with_len 0 (count w)))) l) (spaces_ascend test count spaces (v.space + 1) l a) in
    elim (at_or_after least v.space low) as (λ _. Ascend least 0 pages) [
      | inl less ↦ from_before least 0 v.space 0 pages (inl less) own
      | inr same ↦ from_before least 0 v.space 0 pages (inr (same, omega arith)) own
    ]

place_of : (saved : ℕ × ℕ → SavedPage) → ((p : ℕ × ℕ) → (saved p).space ≡ p.0) → ((p : ℕ × ℕ) → (saved p).page ≡ p.1) → (s n : ℕ) (p : ℕ × ℕ) → (s < p.0) ⊎ ((s ≡ p.0) × (n ≤ p.1))
    → (s < (saved p).space) ⊎ ((s ≡ (saved p).space) × (n ≤ (saved p).page))
place_of saved space page s n p (inl less) = inl (omega (arith, less, space p))
place_of saved space page s n p (inr (same, from)) = inr (same ∙ sym (space p), omega (arith, from, page p))

-- their saved pages are in that order
pub saved_in_order : (saved : ℕ × ℕ → SavedPage) → ((p : ℕ × ℕ) → (saved p).space ≡ p.0) → ((p : ℕ × ℕ) → (saved p).page ≡ p.1) → (s n : ℕ) (l : List (ℕ × ℕ)) → Ascend s n l → AreInOrder s n (map saved l)
saved_in_order saved space page s n [] a = tt
saved_in_order saved space page s n (p ∷ l) (from, a) = (
  place_of saved space page s n p from,
  subst (λ (t : ℕ). AreInOrder t ((saved p).page + 1) (map saved l)) (sym (space p)) (subst (λ (k : ℕ). AreInOrder p.0 (k + 1) (map saved l)) (sym (page p)) (saved_in_order saved space page p.0 (p.1 + 1) l a)),
)

-- ---- what holds of each page

pub all_of_space : (P : ℕ × ℕ → Type 0) (space : ℕ) (test : ℕ → Bool) (from n : ℕ) → ((p : ℕ) → p < from + n → test p ≡ true → P (space, p)) → All P (of_space space (filter test (range_with_len from n)))
all_of_space P space test from zero each = All-nil P
all_of_space P space test from (suc n) each =
    let rest : List ℕ = filter test (range_with_len (from + 1) n) in
    let behind : All P (of_space space rest) = all_of_space P space test (from + 1) n (λ p less t. each p (omega (arith, less)) t) in
    elim (test from) as (λ b. test from ≡ b → All P (of_space space (cond b (from ∷ rest) rest))) [
      | true ↦ λ t. All-cons P (space, from) (of_space space rest) (each from (omega arith) t) behind
      | false ↦ λ t. behind
    ] refl

pub all_of_spaces : {X Y : Type 0} (Q : X → Type 0) (P : Y → Type 0) (f : X → List Y) → ((x : X) → Q x → All P (f x)) → (xs : List X) → All Q xs → All P (flat_map f xs)
all_of_spaces Q P f each [] all = All-nil P
all_of_spaces Q P f each (x ∷ xs) all = All-append P (f x) (flat_map f xs) (each x (All-head Q x xs all)) (all_of_spaces Q P f each xs (All-tail Q x xs all))

-- ---- spaces in ascending order

-- a space is one of so many, and is found among these by its number
pub record IsOwn (spaces : ℕ) (l : List Saved) (v : Saved) : Type 0 where
  pub held : saved_in v.space l ≡ Some v
  pub known : v.space < spaces

above_all : (spaces least : ℕ) (l : List Saved) → AreAscending spaces least l → All (λ (v : Saved). least ≤ v.space) l
above_all spaces least [] a = All-nil (λ (v : Saved). least ≤ v.space)
above_all spaces least (v ∷ l) (low, is, a) =
    let rest = above_all spaces (v.space + 1) l a in
    All-cons (λ (w : Saved). least ≤ w.space) v l low (λ k d h. let after = rest k d h in omega (arith, after, low))

later : (spaces : ℕ) (v : Saved) (l : List Saved) (w : Saved) → v.space + 1 ≤ w.space → IsOwn spaces l w → IsOwn spaces (v ∷ l) w
later spaces v l w after own = record {
  held = ap (λ (t : Bool). cond t (let o : Option Saved = Some v in o) (saved_in w.space l)) (ne_eqb v.space w.space (λ e. omega (arith, e, after))) ∙ own.held;
  known = own.known;
}

pub all_own : (spaces least : ℕ) (l : List Saved) → AreAscending spaces least l → All (IsOwn spaces l) l
all_own spaces least [] a = All-nil (IsOwn spaces [])
all_own spaces least (v ∷ l) (low, is, a) =
    let own = all_own spaces (v.space + 1) l a in
    let above = above_all spaces (v.space + 1) l a in
    All-cons (IsOwn spaces (v ∷ l)) v l
    (record { held = ap (λ (t : Bool). cond t (let o : Option Saved = Some v in o) (saved_in v.space l)) (eq-eqb v.space v.space refl); known = is.space })
    (λ k d h. later spaces v l _ (above k d h) (own k d h))

from_below : (count least from : ℕ) (l : List Saved) → least ≤ from → AreAscending count from l → AreAscending count least l
from_below count least from [] low a = tt
from_below count least from (v ∷ l) low (at, is, a) = (omega (arith, low, at), is, a)

-- the spaces of a range that pass a test ascend, whatever is saved of them
pub range_ascends : (saved : ℕ → Saved) → ((s : ℕ) → (saved s).space ≡ s) → ((s : ℕ) → (saved s).parent < 2 ^ 64) → ((s : ℕ) → (saved s).base < 2 ^ 64) → (test : ℕ → Bool) (count from n : ℕ) → from + n ≤ count
    → AreAscending count from (map saved (filter test (range_with_len from n)))
range_ascends saved space parent base test count from zero inside = tt
range_ascends saved space parent base test count from (suc n) inside =
    let rest : List ℕ = filter test (range_with_len (from + 1) n) in
    let behind : AreAscending count (from + 1) (map saved rest) = range_ascends saved space parent base test count (from + 1) n (omega (arith, inside)) in
    elim (test from) as (λ b. AreAscending count from (map saved (cond b (from ∷ rest) rest))) [
      | true ↦ (
        omega (arith, space from),
        record { space = omega (arith, space from, inside); parent = parent from; base = base from },
        subst (λ (t : ℕ). AreAscending count (t + 1) (map saved rest)) (sym (space from)) behind,
      )
      | false ↦ from_below count from (from + 1) (map saved rest) (omega arith) behind
    ]

-- so there are at most that many
pub few_spaces : (spaces least : ℕ) (l : List Saved) → AreAscending spaces least l → least ≤ spaces → least + length l ≤ spaces
few_spaces spaces least [] a low = omega (arith, low)
few_spaces spaces least (v ∷ l) (from, is, a) low =
    let behind = few_spaces spaces (v.space + 1) l a (omega (arith, is.space)) in
    omega (arith, behind, from)

-- ---- how many pages

-- at most so many of each space
pub few_pages_in : {X Y : Type 0} (Q : X → Type 0) (f : X → List Y) (most : ℕ) → ((x : X) → Q x → length (f x) ≤ most) → (xs : List X) → All Q xs → length (flat_map f xs) ≤ length xs * most
few_pages_in Q f most each [] all = omega arith
few_pages_in Q f most each (x ∷ xs) all =
    let here = each x (All-head Q x xs all) in
    let rest = few_pages_in Q f most each xs (All-tail Q x xs all) in
    let product : length (x ∷ xs) * most ≡ most + length xs * most = omega arith in
    omega (arith, length-append (f x) (flat_map f xs), here, rest, product)
