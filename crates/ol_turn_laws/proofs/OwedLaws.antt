-- What open transactions owe after a record.
use Rattle.std.specs.Prelude.{List, None, Option, Some, [], length, refl, slice_get, ℕ, ◌++◌, ◌+◌, ◌<◌, ◌∷◌, ◌≡◌}
use Rattle.std.proofs.Common.{ap, arith, inl, inr, length-drop, subst, sym}
use Rattle.std.proofs.lemmas.Bool.Decides.{eqb_tells}
use Rattle.std.proofs.lemmas.List.Sums.{fold-append, sum_by-cons, sum_by_push}
use Rattle.ol_values.specs.declared.record.Record.{Record}
use Rattle.ol_values.specs.declared.record.Record.TheVariants.{Begin as BeginRecord, Change, Commit as CommitRecord, Rolled, Undo}
use Rattle.ol_values.specs.declared.record.Rid.{Rid}
use Rattle.ol_values.specs.declared.row.Row.{Row}
use Rattle.ol_values.specs.Config.{Config}
use Rattle.ol_rules.specs.Sound.{Before, IsOne, Meets, Sound, afterwards, start}
use Rattle.ol_rules.specs.Transactions.{Ascending, Txn, at_txn, begun, open_at, owed, owed_by, txn_numbered, txns_after, with_change, with_undo, without_txn}
use Rattle.ol_laws.proofs.SoundLaws.{fine, sound_split, txns_of}
use Rattle.ol_laws.proofs.TxnLaws.{Distinct, IsNew, at_txn-other, distinct, without_txn-other}

owed-cons : (t : Txn) (txns : List Txn) → owed (t ∷ txns) ≡ owed_by t + owed txns
owed-cons t txns = sum_by-cons owed_by t txns

-- a transaction that is the first, or stands behind it
owed_at : (n : ℕ) (f : Txn → Txn) (txns : List Txn) (t : Txn) → Distinct txns → txn_numbered n txns ≡ Some t
    → owed (at_txn n f txns) + owed_by t ≡ owed txns + owed_by (f t)
owed_at n f [] t d is = absurd (let h : None ≡ Some t = is in cc)
owed_at n f (u ∷ txns) t d is =
    elim (eqb_tells u.number n) [
      | inl e ↦
          (let found : Some u ≡ Some t = rw (e.0) at is in
          let same : u ≡ t = cc in
          let new : IsNew n txns = rw (e.1) at d.0 in
          let whole : at_txn n f (u ∷ txns) ≡ f u ∷ txns = rw (e.0, at_txn-other n f txns new) refl in
          omega (arith, ap owed whole, owed-cons (f u) txns, owed-cons u txns, ap owed_by same, ap (λ (v : Txn). owed_by (f v)) same))
      | inr e ↦
          (let whole : at_txn n f (u ∷ txns) ≡ u ∷ at_txn n f txns = rw (e.0) refl in
          let rest : owed (at_txn n f txns) + owed_by t ≡ owed txns + owed_by (f t) = owed_at n f txns t d.1 (rw (e.0) at is) in
          omega (arith, ap owed whole, owed-cons u (at_txn n f txns), owed-cons u txns, rest))
    ]

owed_without : (n : ℕ) (txns : List Txn) (t : Txn) → Distinct txns → txn_numbered n txns ≡ Some t → owed (without_txn n txns) + owed_by t ≡ owed txns
owed_without n [] t d is = absurd (let h : None ≡ Some t = is in cc)
owed_without n (u ∷ txns) t d is =
    elim (eqb_tells u.number n) [
      | inl e ↦
          (let found : Some u ≡ Some t = rw (e.0) at is in
          let same : u ≡ t = cc in
          let new : IsNew n txns = rw (e.1) at d.0 in
          let whole : without_txn n (u ∷ txns) ≡ txns = rw (e.0, without_txn-other n txns new) refl in
          omega (arith, ap owed whole, owed-cons u txns, ap owed_by same))
      | inr e ↦
          (let whole : without_txn n (u ∷ txns) ≡ u ∷ without_txn n txns = rw (e.0) refl in
          let rest : owed (without_txn n txns) + owed_by t ≡ owed txns = owed_without n txns t d.1 (rw (e.0) at is) in
          omega (arith, ap owed whole, owed-cons u (without_txn n txns), owed-cons u txns, rest))
    ]

-- ---- by the record's kind

pub after_begin : (txns : List Txn) (n : ℕ) → owed (txns_after txns (BeginRecord n)) ≡ owed txns + 1
after_begin txns n = sum_by_push owed_by txns (begun n)

pub after_change : (txns : List Txn) (n : ℕ) (rid : Rid) (before after : Option Row) (t : Txn) → Ascending txns → txn_numbered n txns ≡ Some t
    → owed (txns_after txns (Change n rid before after)) ≡ owed txns + 1
after_change txns n rid before after t order is =
    let pair : Rid × Option Row = (rid, before) in
    omega (arith, owed_at n (with_change rid before) txns t (distinct txns order) is)

pub after_undo : (txns : List Txn) (n : ℕ) (rid : Rid) (value : Option Row) (t : Txn) → Ascending txns → txn_numbered n txns ≡ Some t → 0 < length t.pending
    → owed (txns_after txns (Undo n rid value)) + 1 ≡ owed txns
after_undo txns n rid value t order is some = omega (arith, owed_at n with_undo txns t (distinct txns order) is, length-drop 1 t.pending)

pub after_commit : (txns : List Txn) (n : ℕ) (t : Txn) → Ascending txns → txn_numbered n txns ≡ Some t
    → owed (txns_after txns (CommitRecord n)) + (1 + length t.pending) ≡ owed txns
after_commit txns n t order is = owed_without n txns t (distinct txns order) is

pub after_rolled : (txns : List Txn) (n : ℕ) (t : Txn) → Ascending txns → txn_numbered n txns ≡ Some t → t.pending ≡ []
    → owed (txns_after txns (Rolled n)) + 1 ≡ owed txns
after_rolled txns n t order is none =
    let count : length t.pending ≡ 0 = ap (λ (l : List (Rid × Option Row)). length l) none in
    omega (arith, owed_without n txns t (distinct txns order) is, count)

-- ---- before a record of a sound journal

-- what a rule says of an open transaction, with how it is found
found : {P : Txn → Type 0} {Q : Type 0} (o : Option Txn) → IsOne o P → ((t : Txn) → o ≡ Some t → P t → Q) → Q
found None h f = absurd h
found (Some t) h f = f t refl h

some_pending : (pending : List (Rid × Option Row)) (p : Rid × Option Row) → slice_get pending 0 ≡ Some p → 0 < length pending
some_pending [] p h = absurd (let e : None ≡ Some p = h in cc)
some_pending (q ∷ pending) p h = omega arith

meets_change : (c : Config) (b : Before) (n : ℕ) (rid : Rid) (before after : Option Row) → Ascending b.txns → Meets c b (Change n rid before after)
    → owed (txns_after b.txns (Change n rid before after)) ≡ owed b.txns + 1
meets_change c b n rid before after order m = found (txn_numbered n b.txns) m (λ t is h. after_change b.txns n rid before after t order is)

meets_undo : (c : Config) (b : Before) (n : ℕ) (rid : Rid) (value : Option Row) → Ascending b.txns → Meets c b (Undo n rid value)
    → owed (txns_after b.txns (Undo n rid value)) + 1 ≡ owed b.txns
meets_undo c b n rid value order m =
    found (txn_numbered n b.txns) m (λ t is h. after_undo b.txns n rid value t order is (some_pending t.pending (let p : Rid × Option Row = (rid, value) in p) h.newest))

meets_rolled : (c : Config) (b : Before) (n : ℕ) → Ascending b.txns → Meets c b (Rolled n) → owed (txns_after b.txns (Rolled n)) + 1 ≡ owed b.txns
meets_rolled c b n order m = found (txn_numbered n b.txns) m (λ t is h. after_rolled b.txns n t order is h)

-- a relation of what is owed after and before a record that holds of states holds of sound journals
next_of : (c : Config) (journal : List Record) (r : Record) (P : ℕ → ℕ → Type 0)
    → ((b : Before) → Ascending b.txns → Meets c b r → P (owed (txns_after b.txns r)) (owed b.txns))
    → Sound c (journal ++ r ∷ []) → P (owed (open_at (journal ++ r ∷ []))) (owed (open_at journal))
next_of c journal r P f s =
    let parts = sound_split c start journal (r ∷ []) s in
    let b = afterwards start journal in
    let h : P (owed (txns_after b.txns r)) (owed b.txns) = f b (fine c journal parts.0).order.ascending parts.1.0 in
    let there : P (owed (txns_after (open_at journal) r)) (owed (open_at journal)) =
    subst (λ (l : List Txn). P (owed (txns_after l r)) (owed l)) (txns_of start journal) h in
    subst (λ (l : List Txn). P (owed l) (owed (open_at journal))) (sym (fold-append txns_after [] journal (r ∷ []))) there

pub sound_begin : (c : Config) (journal : List Record) (n : ℕ) → Sound c (journal ++ BeginRecord n ∷ []) → owed (open_at (journal ++ BeginRecord n ∷ [])) ≡ owed (open_at journal) + 1
sound_begin c journal n s = next_of c journal (BeginRecord n) (λ a b. a ≡ b + 1) (λ b order m. after_begin b.txns n) s

pub sound_change : (c : Config) (journal : List Record) (n : ℕ) (rid : Rid) (before after : Option Row) → Sound c (journal ++ Change n rid before after ∷ [])
    → owed (open_at (journal ++ Change n rid before after ∷ [])) ≡ owed (open_at journal) + 1
sound_change c journal n rid before after s = next_of c journal (Change n rid before after) (λ a b. a ≡ b + 1) (λ b order m. meets_change c b n rid before after order m) s

pub sound_undo : (c : Config) (journal : List Record) (n : ℕ) (rid : Rid) (value : Option Row) → Sound c (journal ++ Undo n rid value ∷ [])
    → owed (open_at (journal ++ Undo n rid value ∷ [])) + 1 ≡ owed (open_at journal)
sound_undo c journal n rid value s = next_of c journal (Undo n rid value) (λ a b. a + 1 ≡ b) (λ b order m. meets_undo c b n rid value order m) s

pub sound_rolled : (c : Config) (journal : List Record) (n : ℕ) → Sound c (journal ++ Rolled n ∷ []) → owed (open_at (journal ++ Rolled n ∷ [])) + 1 ≡ owed (open_at journal)
sound_rolled c journal n s = next_of c journal (Rolled n) (λ a b. a + 1 ≡ b) (λ b order m. meets_rolled c b n order m) s

pub sound_commit : (c : Config) (journal : List Record) (n : ℕ) (t : Txn) → Sound c (journal ++ CommitRecord n ∷ []) → txn_numbered n (open_at journal) ≡ Some t
    → owed (open_at (journal ++ CommitRecord n ∷ [])) + (1 + length t.pending) ≡ owed (open_at journal)
sound_commit c journal n t s is =
    let parts = sound_split c start journal (CommitRecord n ∷ []) s in
    let order : Ascending (open_at journal) = subst (λ (l : List Txn). Ascending l) (txns_of start journal) (fine c journal parts.0).order.ascending in
    subst (λ (l : List Txn). owed l + (1 + length t.pending) ≡ owed (open_at journal)) (sym (fold-append txns_after [] journal (CommitRecord n ∷ []))) (after_commit (open_at journal) n t order is)
