-- The open transactions of a journal from a number on, as a roll forward keeps them.
use Rattle.std.specs.Prelude.{All, Bool, List, None, Option, Some, [], false, if◌then◌else◌, length, nat_le, option_map, refl, true, ℕ, ◌++◌, ◌+◌, ◌<◌, ◌==◌, ◌∷◌, ◌≡◌, ◌≤◌}
use Rattle.std.proofs.Common.{ap, arith, inl, inr, subst, sym, ◌∙◌}
use Rattle.std.proofs.lemmas.Bool.{cases_Bool, le-leb, leb-false, leb-true, lt-leb}
use Rattle.std.proofs.lemmas.Bool.Decides.{eqb_tells}
use Rattle.std.proofs.lemmas.List.Elements.{All-cons, All-filter, All-head, All-nil, All-tail, All-weaker}
use Rattle.std.proofs.lemmas.List.Sums.{sum_by-cons}
use Rattle.ol_values.specs.declared.record.Record.{Record}
use Rattle.ol_values.specs.declared.record.Record.TheVariants.{Begin as BeginRecord, Change, Commit as CommitRecord, Rolled, Undo}
use Rattle.ol_rules.specs.Sound.{IsOne}
use Rattle.ol_rules.specs.Transactions.{Ascending, Txn, at_txn, begun, low_of, numbered_from, owed, owed_by, txn_numbered, txns_after, with_change, with_undo, without_txn}
use Rattle.ol_laws.proofs.TxnLaws.{Distinct, IsNew, at_txn-other, differ, without_txn-other}
use Rattle.ol_rollfwd.specs.Journals.{loser_of, losers_of}
use Rattle.ol_rollfwd.specs.Losers.{Loser, at_loser, is_one, loser_numbered, losers_after, owed_of, without_loser}
use Rattle.ol_rollfwd.specs.Rolls.{is_begin, txn_of}
use Rattle.ol_rollfwd.specs.Losers.{owed_by as loser_owed, with_change as loser_change, with_undo as loser_undo}

-- ---- one found

pub find_kept : (low n : ℕ) (txns : List Txn) → low ≤ n → loser_numbered n (losers_of (numbered_from low txns)) ≡ option_map loser_of (txn_numbered n txns)
find_kept low n [] le = refl
find_kept low n (t ∷ txns) le =
    let rest = find_kept low n txns le in
    elim (cases_Bool (nat_le low t.number)) [
      | inl e ↦ elim (cases_Bool (t.number == n)) [ inl f ↦ rw (e, f) refl | inr f ↦ rw (e, f) rest ]
      | inr e ↦
          (let f : (t.number == n) ≡ false = elim (eqb_tells t.number n) [ inl g ↦ absurd (omega (arith, g.1, leb-false low t.number e, le)) | inr g ↦ g.0 ] in
          rw (e, f) rest)
    ]

pub one_kept : (P : Txn → Type 0) (test : Loser → Bool) (o : Option Txn) → ((t : Txn) → P t → test (loser_of t) ≡ true) → IsOne o P → is_one (option_map loser_of o) test ≡ true
one_kept P test None passes one = absurd one
one_kept P test (Some t) passes one = passes t one

-- ---- numbers

pub ascending_from : (low : ℕ) (txns : List Txn) → Ascending txns → Ascending (numbered_from low txns)
ascending_from low [] h = tt
ascending_from low (t ∷ txns) h =
    let rest = ascending_from low txns h.1 in
    elim (nat_le low t.number) as (λ b. Ascending (if b then t ∷ numbered_from low txns else numbered_from low txns)) [
      | true ↦ (All-filter (λ (u : Txn). nat_le low u.number) (λ (u : Txn). t.number < u.number) txns h.0, rest)
      | false ↦ rest
    ]

-- none from a number on has a lesser one
pub new_from : (low n : ℕ) (txns : List Txn) → n < low → IsNew n (numbered_from low txns)
new_from low n [] lt = refl
new_from low n (t ∷ txns) lt =
    elim (cases_Bool (nat_le low t.number)) [
      | inl e ↦ rw (e) (rw (differ n t.number (omega (arith, lt, leb-true low t.number e))) (new_from low n txns lt))
      | inr e ↦ rw (e) (new_from low n txns lt)
    ]

-- ---- a step

losers_push : (txns : List Txn) (n : ℕ) → losers_of (txns ++ begun n ∷ []) ≡ losers_of txns ++ loser_of (begun n) ∷ []
losers_push [] n = refl
losers_push (t ∷ txns) n = ap (λ (l : List Loser). loser_of t ∷ l) (losers_push txns n)

losers_at : (n : ℕ) (f : Txn → Txn) (g : Loser → Loser) (txns : List Txn) → ((t : Txn) → loser_of (f t) ≡ g (loser_of t)) → Distinct txns → losers_of (at_txn n f txns) ≡ at_loser n g (losers_of txns)
losers_at n f g [] same d = refl
losers_at n f g (t ∷ txns) same d =
    elim (eqb_tells t.number n) [
      | inl e ↦
          (let new : IsNew n txns = subst (λ (k : ℕ). IsNew k txns) e.1 d.0 in
          rw (e.0) (ap (λ (u : Loser). u ∷ losers_of (at_txn n f txns)) (same t) ∙ ap (λ (l : List Txn). g (loser_of t) ∷ losers_of l) (at_txn-other n f txns new)))
      | inr e ↦ rw (e.0) (ap (λ (l : List Loser). loser_of t ∷ l) (losers_at n f g txns same d.1))
    ]

losers_without : (n : ℕ) (txns : List Txn) → Distinct txns → losers_of (without_txn n txns) ≡ without_loser n (losers_of txns)
losers_without n [] d = refl
losers_without n (t ∷ txns) d =
    elim (eqb_tells t.number n) [
      | inl e ↦ rw (e.0) (ap losers_of (without_txn-other n txns (subst (λ (k : ℕ). IsNew k txns) e.1 d.0)))
      | inr e ↦ rw (e.0) (ap (λ (l : List Loser). loser_of t ∷ l) (losers_without n txns d.1))
    ]

pub losers_step : (txns : List Txn) (r : Record) → Distinct txns → losers_of (txns_after txns r) ≡ losers_after (losers_of txns) r
losers_step txns (BeginRecord n) d = losers_push txns n
losers_step txns (Change n rid before after) d = losers_at n (with_change rid before) (loser_change rid before) txns (λ t. refl) d
losers_step txns (Undo n rid value) d = losers_at n with_undo loser_undo txns (λ t. refl) d
losers_step txns (CommitRecord n) d = losers_without n txns d
losers_step txns (Rolled n) d = losers_without n txns d

-- ---- what is owed

pub owed_kept : (low : ℕ) (txns : List Txn) → owed_of (losers_of (numbered_from low txns)) ≤ owed txns
owed_kept low [] = omega arith
owed_kept low (t ∷ txns) =
    let rest = owed_kept low txns in
    let all : owed (t ∷ txns) ≡ owed_by t + owed txns = sum_by-cons owed_by t txns in
    elim (cases_Bool (nat_le low t.number)) [
      | inl e ↦ rw (e) (omega (arith, rest, all, loser_cons t (losers_of (numbered_from low txns))))
      | inr e ↦ rw (e) (omega (arith, rest, all))
    ]
  where
    loser_cons : (t : Txn) (losers : List Loser) → owed_of (loser_of t ∷ losers) ≡ owed_by t + owed_of losers
    loser_cons t losers = sum_by-cons loser_owed (loser_of t) losers

pub owed_same : (txns : List Txn) → owed_of (losers_of txns) ≡ owed txns
owed_same [] = refl
owed_same (t ∷ txns) = sum_by-cons loser_owed (loser_of t) (losers_of txns) ∙ ap (λ n. owed_by t + n) (owed_same txns) ∙ sym (sum_by-cons owed_by t txns)

-- there are no more of them
pub fewer : (low : ℕ) (txns : List Txn) → length (losers_of (numbered_from low txns)) ≤ length txns
fewer low [] = omega arith
fewer low (t ∷ txns) =
    let rest = fewer low txns in
    elim (nat_le low t.number) as (λ b. length (losers_of (if b then t ∷ numbered_from low txns else numbered_from low txns)) ≤ length (t ∷ txns)) [ true ↦ omega (arith, rest) | false ↦ omega (arith, rest) ]

-- ---- from a number on

abbrev pub IsFrom : ℕ → Txn → Type 0
IsFrom low t = low ≤ t.number

-- the least number of an open transaction is at most each
pub from_low : (txns : List Txn) (last low : ℕ) → Ascending txns → low ≤ low_of txns last → All (IsFrom low) txns
from_low [] last low h le = All-nil (IsFrom low)
from_low (t ∷ txns) last low h le = All-cons (IsFrom low) t txns le (All-weaker (λ (u : Txn). t.number < u.number) (IsFrom low) (λ u lt. omega (arith, lt, le)) txns h.0)

pub none_from : (low : ℕ) (txns : List Txn) → All (λ (t : Txn). t.number < low) txns → numbered_from low txns ≡ []
none_from low [] h = refl
none_from low (t ∷ txns) h =
    rw (lt-leb low t.number (All-head (λ (u : Txn). u.number < low) t txns h)) (none_from low txns (All-tail (λ (u : Txn). u.number < low) t txns h))

-- one that is found has such a number
pub found_from : (low n : ℕ) (P : Txn → Type 0) (txns : List Txn) → All (IsFrom low) txns → IsOne (txn_numbered n txns) P → low ≤ n
found_from low n P [] all h = absurd h
found_from low n P (t ∷ txns) all h =
    elim (eqb_tells t.number n) [
      | inl e ↦ omega (arith, e.1, All-head (IsFrom low) t txns all)
      | inr e ↦ found_from low n P txns (All-tail (IsFrom low) t txns all) (rw (e.0) at h)
    ]

-- where all have one
pub from_all : (low : ℕ) (txns : List Txn) → All (IsFrom low) txns → numbered_from low txns ≡ txns
from_all low [] h = refl
from_all low (t ∷ txns) h =
    rw (le-leb low t.number (All-head (IsFrom low) t txns h)) (ap (λ (l : List Txn). t ∷ l) (from_all low txns (All-tail (IsFrom low) t txns h)))

-- a step of a transaction that is not among them changes nothing
pub nothing_new : (txns : List Txn) (r : Record) → is_begin r ≡ false → IsNew (txn_of r) txns → txns_after txns r ≡ txns
nothing_new txns (BeginRecord n) e new = absurd (let clash : true ≡ false = e in cc)
nothing_new txns (Change n rid before after) e new = at_txn-other n (with_change rid before) txns new
nothing_new txns (Undo n rid value) e new = at_txn-other n with_undo txns new
nothing_new txns (CommitRecord n) e new = without_txn-other n txns new
nothing_new txns (Rolled n) e new = without_txn-other n txns new
