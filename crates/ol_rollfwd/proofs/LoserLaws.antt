-- Finding an open transaction by its number, and what a step of it leaves of all of them.
use Rattle.std.specs.Prelude.{Bool, List, None, Option, Some, [], false, length, option_map, min, nat_lt, position, refl, remove, slice_index_or, slice_set, suc, true, zero, ℕ, ◌+◌, ◌-◌, ◌<◌, ◌==◌, ◌∷◌, ◌≡◌, ◌≤◌}
use Rattle.std.specs.List.{position_or_len}
use Rattle.std.proofs.Common.{ap, arith, inl, inr, sym}
use Rattle.std.proofs.lemmas.Bool.{cases_Bool, ltb-false}
use Rattle.std.proofs.lemmas.List.{length-drop}
use Rattle.std.proofs.lemmas.List.Quantifiers.{position-Some}
use Rattle.std.proofs.lemmas.List.Sums.{sum_by-cons}
use Rattle.ol_values.specs.declared.record.Rid.{Rid}
use Rattle.ol_values.specs.declared.row.Row.{Row}
use Rattle.ol_rollfwd.specs.Losers.{Loser, at_loser, loser_numbered, owed_by, owed_by_one, owed_of, with_change, with_undo, without_loser}

abbrev pub has_number : ℕ → Loser → Bool
has_number n t = t.txn == n

-- ---- the first of a number

-- the transaction at this index is the first of this number
abbrev pub IsFirst : ℕ → List Loser → ℕ → Type 0
IsFirst n [] i = ⊥
IsFirst n (t ∷ losers) zero = has_number n t ≡ true
IsFirst n (t ∷ losers) (suc i) = (has_number n t ≡ false) × IsFirst n losers i

first_from : (n : ℕ) (losers : List Loser) (i : ℕ) (d : Loser) → i < length losers → has_number n (slice_index_or losers i d) ≡ true → ((k : ℕ) → k < i → has_number n (slice_index_or losers k d) ≡ false) → IsFirst n losers i
first_from n [] i d within here below = absurd (omega arith)
first_from n (t ∷ losers) zero d within here below = here
first_from n (t ∷ losers) (suc i) d within here below = (below 0 (omega arith), first_from n losers i d (omega arith) here (λ k lt. below (suc k) (omega arith)))

pub first_at : (n : ℕ) (losers : List Loser) (i : ℕ) (d : Loser) → Some i ≡ position (has_number n) losers → IsFirst n losers i
first_at n losers i d e =
    let f = position-Some (has_number n) losers i d (sym e) in
    first_from n losers i d f.0 f.1 f.2

-- no transaction has this number
abbrev pub HasNone : ℕ → List Loser → Type 0
HasNone n [] = Unit {0}
HasNone n (t ∷ losers) = (has_number n t ≡ false) × HasNone n losers

none_within : (n : ℕ) (losers : List Loser) → length losers ≤ position_or_len (has_number n) losers → HasNone n losers
none_within n [] within = tt
none_within n (t ∷ losers) within =
    elim (cases_Bool (has_number n t)) [
      | inl h ↦ absurd (let e : position_or_len (has_number n) (t ∷ losers) ≡ 0 = rw (h) refl in omega (arith, e, within))
      | inr h ↦
          (let e : position_or_len (has_number n) (t ∷ losers) ≡ 1 + position_or_len (has_number n) losers = rw (h) refl in
          (h, none_within n losers (omega (arith, e, within))))
    ]

pub none_at : (n : ℕ) (losers : List Loser) → None ≡ position (has_number n) losers → HasNone n losers
none_at n losers e =
    elim (cases_Bool (nat_lt (position_or_len (has_number n) losers) (length losers))) [
      | inl h ↦ absurd (let f : None ≡ Some (position_or_len (has_number n) losers) = rw (h) at e in cc)
      | inr h ↦ none_within n losers (ltb-false _ _ h)
    ]

-- ---- found, or not

pub found : (n : ℕ) (losers : List Loser) (i : ℕ) (d : Loser) → IsFirst n losers i → loser_numbered n losers ≡ Some (slice_index_or losers i d)
found n [] i d h = absurd h
found n (t ∷ losers) zero d h = rw (h) refl
found n (t ∷ losers) (suc i) d h = rw (h.0) (found n losers i d h.1)

pub not_found : (n : ℕ) (losers : List Loser) → HasNone n losers → loser_numbered n losers ≡ None
not_found n [] h = refl
not_found n (t ∷ losers) h = rw (h.0) (not_found n losers h.1)

-- ---- one becomes another, or ends

pub set_at : (n : ℕ) (f : Loser → Loser) (losers : List Loser) (i : ℕ) (d : Loser) → IsFirst n losers i → slice_set losers i (f (slice_index_or losers i d)) ≡ at_loser n f losers
set_at n f [] i d h = absurd h
set_at n f (t ∷ losers) zero d h = rw (h) refl
set_at n f (t ∷ losers) (suc i) d h = rw (h.0) (ap (λ (l : List Loser). t ∷ l) (set_at n f losers i d h.1))

pub set_none : (n : ℕ) (f : Loser → Loser) (losers : List Loser) → HasNone n losers → losers ≡ at_loser n f losers
set_none n f [] h = refl
set_none n f (t ∷ losers) h = rw (h.0) (ap (λ (l : List Loser). t ∷ l) (set_none n f losers h.1))

pub remove_at : (n : ℕ) (losers : List Loser) (i : ℕ) → IsFirst n losers i → remove losers i ≡ without_loser n losers
remove_at n [] i h = absurd h
remove_at n (t ∷ losers) zero h = rw (h) refl
remove_at n (t ∷ losers) (suc i) h = rw (h.0) (ap (λ (l : List Loser). t ∷ l) (remove_at n losers i h.1))

pub remove_none : (n : ℕ) (losers : List Loser) → HasNone n losers → losers ≡ without_loser n losers
remove_none n [] h = refl
remove_none n (t ∷ losers) h = rw (h.0) (ap (λ (l : List Loser). t ∷ l) (remove_none n losers h.1))

-- ---- what is owed

owed_cons : (t : Loser) (losers : List Loser) → owed_of (t ∷ losers) ≡ owed_by t + owed_of losers
owed_cons t losers = sum_by-cons owed_by t losers

pub owed_at : (n : ℕ) (f : Loser → Loser) (losers : List Loser)
    → owed_of (at_loser n f losers) + owed_by_one (loser_numbered n losers) ≡ owed_of losers + owed_by_one (option_map f (loser_numbered n losers))
owed_at n f [] = refl
owed_at n f (t ∷ losers) =
    elim (cases_Bool (has_number n t)) [
      | inl h ↦ rw (h) (omega (arith, owed_cons t losers, owed_cons (f t) losers))
      | inr h ↦ rw (h) (omega (arith, owed_at n f losers, owed_cons t losers, owed_cons t (at_loser n f losers)))
    ]

pub owed_without : (n : ℕ) (losers : List Loser) → owed_of (without_loser n losers) + owed_by_one (loser_numbered n losers) ≡ owed_of losers
owed_without n [] = refl
owed_without n (t ∷ losers) =
    elim (cases_Bool (has_number n t)) [
      | inl h ↦ rw (h) (omega (arith, owed_cons t losers))
      | inr h ↦ rw (h) (omega (arith, owed_without n losers, owed_cons t losers, owed_cons t (without_loser n losers)))
    ]

pub owed_part : (n : ℕ) (losers : List Loser) → owed_by_one (loser_numbered n losers) ≤ owed_of losers
owed_part n losers = omega (arith, owed_without n losers)

change_owed : (rid : Rid) (before : Option Row) (o : Option Loser) → owed_by_one (option_map (with_change rid before) o) ≡ owed_by_one o + min (owed_by_one o) 1
change_owed rid before None = refl
change_owed rid before (Some t) = omega arith

undo_owed : (o : Option Loser) → owed_by_one (option_map with_undo o) + min (owed_by_one o - 1) 1 ≡ owed_by_one o
undo_owed None = refl
undo_owed (Some t) = omega (arith, length-drop 1 t.changes)

pub owed_change : (n : ℕ) (rid : Rid) (before : Option Row) (losers : List Loser) → owed_of losers + min (owed_by_one (loser_numbered n losers)) 1 ≡ owed_of (at_loser n (with_change rid before) losers)
owed_change n rid before losers = omega (arith, owed_at n (with_change rid before) losers, change_owed rid before (loser_numbered n losers))

pub owed_undo : (n : ℕ) (losers : List Loser) → owed_of losers - min (owed_by_one (loser_numbered n losers) - 1) 1 ≡ owed_of (at_loser n with_undo losers)
owed_undo n losers = omega (arith, owed_at n with_undo losers, undo_owed (loser_numbered n losers), owed_part n losers)

pub owed_end : (n : ℕ) (losers : List Loser) → owed_of losers - owed_by_one (loser_numbered n losers) ≡ owed_of (without_loser n losers)
owed_end n losers = omega (arith, owed_without n losers)
