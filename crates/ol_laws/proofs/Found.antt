-- Finding an open transaction by its number, before and after a record.
use Rattle.std.specs.List.{list_any}
use Rattle.std.specs.Prelude.{All, List, None, Option, Some, [], false, refl, true, ℕ, ◌++◌, ◌==◌, ◌∷◌, ◌≡◌, ◌≤◌, ◌⊎◌}
use Rattle.std.proofs.Common.{arith, inl, inr}
use Rattle.std.proofs.lemmas.Bool.{cases_Bool}
use Rattle.std.proofs.lemmas.Bool.Decides.{eqb_tells}
use Rattle.std.proofs.lemmas.List.Elements.{All-head, All-tail}
use Rattle.ol_rules.specs.Sound.{IsOne}
use Rattle.ol_rules.specs.Transactions.{Txn, at_txn, begun, txn_numbered, without_txn}
use Rattle.ol_laws.proofs.TxnLaws.{KeepsNumber, at_one, number_kept}

-- ---- what is found

pub some_is : {P : Txn → Type 0} {Q : Type 0} (o : Option Txn) → IsOne o P → ((t : Txn) → P t → Q) → Q
some_is None h f = absurd h
some_is (Some t) h f = f t h

-- what holds of a transaction may be weakened
pub one_as : (P Q : Txn → Type 0) (o : Option Txn) → ((t : Txn) → P t → Q t) → IsOne o P → IsOne o Q
one_as P Q None f h = h
one_as P Q (Some t) f h = f t h

-- a transaction that is found has the number
pub found_number : (n : ℕ) (P : Txn → Type 0) (txns : List Txn) → IsOne (txn_numbered n txns) P → IsOne (txn_numbered n txns) (λ t. P t × (t.number ≡ n))
found_number n P [] h = h
found_number n P (t ∷ txns) h =
    elim (eqb_tells t.number n) [ inl e ↦ rw (e.0) ((rw (e.0) at h), e.1) | inr e ↦ rw (e.0) (found_number n P txns (rw (e.0) at h)) ]

pub found_any : (n : ℕ) (P : Txn → Type 0) (txns : List Txn) → IsOne (txn_numbered n txns) P → list_any (λ (t : Txn). t.number == n) txns ≡ true
found_any n P [] h = absurd h
found_any n P (t ∷ txns) h = elim (cases_Bool (t.number == n)) [ inl e ↦ rw (e) refl | inr e ↦ rw (e) (found_any n P txns (rw (e) at h)) ]

pub found_within : (n last : ℕ) (P : Txn → Type 0) (txns : List Txn) → All (λ (t : Txn). t.number ≤ last) txns → IsOne (txn_numbered n txns) P → n ≤ last
found_within n last P [] w h = absurd h
found_within n last P (t ∷ txns) w h =
    elim (eqb_tells t.number n) [
      | inl e ↦ omega (arith, e.1, All-head (λ (u : Txn). u.number ≤ last) t txns w)
      | inr e ↦ found_within n last P txns (All-tail (λ (u : Txn). u.number ≤ last) t txns w) (rw (e.0) at h)
    ]

-- ---- finding a transaction after a step

pub find_at : (n m : ℕ) (f : Txn → Txn) (P : Txn → Type 0) (txns : List Txn) → KeepsNumber f → IsOne (txn_numbered n (at_txn m f txns)) P → IsOne (txn_numbered n txns) (λ t. P (at_one m f t))
find_at n m f P [] keeps h = h
find_at n m f P (t ∷ txns) keeps h =
    let same = number_kept m f t keeps in
    elim (cases_Bool (t.number == n)) [
      | inl e ↦ rw (e) (let g : ((at_one m f t).number == n) ≡ true = rw (same) e in rw (g) at h)
      | inr e ↦ rw (e) (find_at n m f P txns keeps (let g : ((at_one m f t).number == n) ≡ false = rw (same) e in rw (g) at h))
    ]

pub find_new : (n m : ℕ) (P : Txn → Type 0) (txns : List Txn) → (P (begun m) → ⊥) → IsOne (txn_numbered n (txns ++ begun m ∷ [])) P → IsOne (txn_numbered n txns) P
find_new n m P [] never h = elim (cases_Bool (m == n)) [ inl e ↦ never (rw (e) at h) | inr e ↦ (rw (e) at h) ]
find_new n m P (t ∷ txns) never h =
    elim (cases_Bool (t.number == n)) [ inl e ↦ rw (e) (rw (e) at h) | inr e ↦ rw (e) (find_new n m P txns never (rw (e) at h)) ]

pub none_without : (n : ℕ) (P : Txn → Type 0) (txns : List Txn) → IsOne (txn_numbered n (without_txn n txns)) P → ⊥
none_without n P [] h = h
none_without n P (t ∷ txns) h =
    elim (cases_Bool (t.number == n)) [
      | inl e ↦ none_without n P txns (rw (e) at h)
      | inr e ↦ none_without n P txns (let g : txn_numbered n (without_txn n (t ∷ txns)) ≡ txn_numbered n (without_txn n txns) = rw (e, e) refl in rw (g) at h)
    ]

pub find_without : (n m : ℕ) (P : Txn → Type 0) (txns : List Txn) → (m == n) ≡ false → IsOne (txn_numbered n (without_txn m txns)) P → IsOne (txn_numbered n txns) P
find_without n m P [] d h = h
find_without n m P (t ∷ txns) d h =
    elim (eqb_tells t.number m) [
      | inl e ↦ (let f : (t.number == n) ≡ false = rw (e.1) d in rw (f) (find_without n m P txns d (rw (e.0) at h)))
      | inr e ↦ elim (cases_Bool (t.number == n)) [
        | inl f ↦ rw (f) (let g : txn_numbered n (without_txn m (t ∷ txns)) ≡ Some t = rw (e.0, f) refl in rw (g) at h)
        | inr f ↦ rw (f) (find_without n m P txns d (let g : txn_numbered n (without_txn m (t ∷ txns)) ≡ txn_numbered n (without_txn m txns) = rw (e.0, f) refl in rw (g) at h))
      ]
    ]

pub find_or_new : (n m : ℕ) (P : Txn → Type 0) (txns : List Txn) → IsOne (txn_numbered n (txns ++ begun m ∷ [])) P → IsOne (txn_numbered n txns) P ⊎ (m ≡ n)
find_or_new n m P [] h = elim (eqb_tells m n) [ inl e ↦ inr e.1 | inr e ↦ absurd (rw (e.0) at h) ]
find_or_new n m P (t ∷ txns) h =
    elim (cases_Bool (t.number == n)) [ inl e ↦ inl (rw (e) (rw (e) at h)) | inr e ↦ rw (e) (find_or_new n m P txns (rw (e) at h)) ]
