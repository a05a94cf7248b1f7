-- Open transactions of a sound journal hold different places.
use Rattle.std.specs.List.{list_all, list_any}
use Rattle.std.specs.Prelude.{All, Bool, List, Option, [], drop, false, if◌then◌else◌, not, refl, true, ℕ, ◌&&◌, ◌++◌, ◌==◌, ◌||◌, ◌∷◌, ◌≡◌, ◌⊎◌}
use Rattle.std.proofs.Common.{ap, inl, inr, sym, ◌∙◌}
use Rattle.std.proofs.lemmas.Bool.{and_parts, cases_Bool, eqb-true, not-true, or_parts, or_right}
use Rattle.std.proofs.lemmas.Bool.Decides.{eqb_tells}
use Rattle.std.proofs.lemmas.List.Elements.{All-head, All-tail}
use Rattle.ol_values.specs.declared.record.Record.{Record}
use Rattle.ol_values.specs.declared.record.Record.TheVariants.{Begin as BeginRecord, Change, Commit as CommitRecord, Rolled, Undo}
use Rattle.ol_values.specs.declared.record.Rid.{Rid}
use Rattle.ol_values.specs.declared.row.Row.{Row}
use Rattle.ol_values.specs.Pages.{rid_of}
use Rattle.ol_rules.specs.Journal.{same_place}
use Rattle.ol_rules.specs.Sound.{IsOne}
use Rattle.ol_rules.specs.Transactions.{Txn, at_txn, begun, txn_numbered, txns_after, with_change, with_undo, without_txn}
use Rattle.ol_laws.proofs.Found.{find_at, find_new, find_without, found_number, none_without, one_as}
use Rattle.ol_laws.proofs.JournalLaws.{same_self}
use Rattle.ol_laws.proofs.TxnLaws.{Gives, KeepsNumber, all_after, at_one}

pub eq_turn : (a b : ℕ) → (a == b) ≡ (b == a)
eq_turn a b = elim (eqb_tells a b) [ inl e ↦ e.0 ∙ sym (rw (e.1) (same_self b)) | inr e ↦ elim (eqb_tells b a) [ inl f ↦ absurd (e.1 (sym f.1)) | inr f ↦ e.0 ∙ sym f.0 ] ]

same_place_turn : (a b : Rid) → same_place a b ≡ same_place b a
same_place_turn a b = rw (eq_turn a.space b.space, eq_turn a.page b.page, eq_turn a.slot b.slot) refl

pub same_place_is : (a b : Rid) → same_place a b ≡ true → a ≡ b
same_place_is a b h =
    let q = and_parts (a.space == b.space) ((a.page == b.page) && (a.slot == b.slot)) h in
    let r = and_parts (a.page == b.page) (a.slot == b.slot) q.1 in
    ap (λ (s : ℕ). rid_of s a.page a.slot) (eqb-true a.space b.space q.0) ∙ ap (λ (p : ℕ). rid_of b.space p a.slot) (eqb-true a.page b.page r.0) ∙ ap (λ (k : ℕ). rid_of b.space b.page k) (eqb-true a.slot b.slot r.1)

-- whether a change at the place is pending, and whether one was made there
abbrev pub pends : Rid → List (Rid × Option Row) → Bool
pends place pending = list_any (λ (p : Rid × Option Row). same_place p.0 place) pending

abbrev pub made : Rid → Txn → Bool
made place t = list_any (same_place place) t.changed

abbrev pub Covers : Txn → Type 0
Covers t = (place : Rid) → made place t ≡ false → pends place t.pending ≡ false

abbrev pub AllCover : List Txn → Type 0
AllCover txns = All Covers txns

abbrev pub FreeBut : ℕ → Rid → List Txn → Type 0
FreeBut n place txns = list_all (λ (t : Txn). (t.number == n) || not (made place t)) txns ≡ true

-- where a transaction has a change pending no other made one
abbrev pub Locks : List Txn → Type 0
Locks txns = (n : ℕ) (place : Rid) → IsOne (txn_numbered n txns) (λ t. pends place t.pending ≡ true) → FreeBut n place txns

-- ---- each has made what it has pending

covers_change : (rid : Rid) (before : Option Row) (t : Txn) → Covers t → Covers (with_change rid before t)
covers_change rid before t h place m =
    let q = or_parts (same_place place rid) (made place t) m in
    rw (same_place_turn rid place, q.0) (h place q.1)

pends_less : (place : Rid) (pending : List (Rid × Option Row)) → pends place pending ≡ false → pends place (drop 1 pending) ≡ false
pends_less place [] h = h
pends_less place (p ∷ pending) h = (or_parts (same_place p.0 place) (pends place pending) h).1

gives_covers : (r : Record) → Gives Covers r
gives_covers (BeginRecord n) = λ place m. refl
gives_covers (Change n rid before after) = covers_change rid before
gives_covers (Undo n rid value) = λ t h place m. pends_less place t.pending (h place m)
gives_covers (CommitRecord n) = tt
gives_covers (Rolled n) = tt

pub all_cover_after : (txns : List Txn) (r : Record) → AllCover txns → AllCover (txns_after txns r)
all_cover_after txns r h = all_after Covers txns r (gives_covers r) h

-- ---- others hold nothing there

free_new : (n m : ℕ) (place : Rid) (txns : List Txn) → FreeBut n place txns → FreeBut n place (txns ++ begun m ∷ [])
free_new n m place [] h = rw (or_right (m == n) true refl) refl
free_new n m place (t ∷ txns) h =
    let q = and_parts ((t.number == n) || not (made place t)) (list_all (λ (u : Txn). (u.number == n) || not (made place u)) txns) h in
    rw (q.0) (free_new n m place txns q.1)

free_without : (n m : ℕ) (place : Rid) (txns : List Txn) → FreeBut n place txns → FreeBut n place (without_txn m txns)
free_without n m place [] h = refl
free_without n m place (t ∷ txns) h =
    let q = and_parts ((t.number == n) || not (made place t)) (list_all (λ (u : Txn). (u.number == n) || not (made place u)) txns) h in
    elim (not (t.number == m)) as (λ b. FreeBut n place (if b then t ∷ without_txn m txns else without_txn m txns)) [ true ↦ rw (q.0) (free_without n m place txns q.1) | false ↦ free_without n m place txns q.1 ]

-- a step of transaction m that keeps numbers, and of which the others see no change there
free_at : (n m : ℕ) (f : Txn → Txn) (place : Rid) (txns : List Txn) → KeepsNumber f → ((m == n) ≡ true ⊎ ((t : Txn) → made place (f t) ≡ made place t)) → FreeBut n place txns → FreeBut n place (at_txn m f txns)
free_at n m f place [] keeps same h = refl
free_at n m f place (t ∷ txns) keeps same h =
    let q = and_parts ((t.number == n) || not (made place t)) (list_all (λ (u : Txn). (u.number == n) || not (made place u)) txns) h in
    let rest = free_at n m f place txns keeps same q.1 in
    elim (eqb_tells t.number m) [
      | inl e ↦ (let g : (((f t).number == n) || not (made place (f t))) ≡ true =
          elim same [ inl k ↦ (let l : ((f t).number == n) ≡ true = rw (keeps t, e.1) k in rw (l) refl) | inr k ↦ rw (keeps t, k t) (q.0) ] in rw (e.0, g) rest)
      | inr e ↦ rw (e.0, q.0) rest
    ]

-- ---- locks after each record

pends_more : (place : Rid) (pending : List (Rid × Option Row)) → pends place (drop 1 pending) ≡ true → pends place pending ≡ true
pends_more place [] h = h
pends_more place (p ∷ pending) h = rw (h, or_right (same_place p.0 place) true refl) refl

undone_more : (m : ℕ) (place : Rid) (t : Txn) → ((t.number == m) ≡ true) ⊎ ((t.number == m) ≡ false) → pends place (at_one m with_undo t).pending ≡ true → pends place t.pending ≡ true
undone_more m place t (inl e) h = pends_more place t.pending (rw (e) at h)
undone_more m place t (inr e) h = rw (e) at h

one_more : (n : ℕ) (txns : List Txn) (m : ℕ) (place : Rid) → IsOne (txn_numbered n txns) (λ t. pends place (at_one m with_undo t).pending ≡ true) → IsOne (txn_numbered n txns) (λ t. pends place t.pending ≡ true)
one_more n txns m place h =
    one_as (λ t. pends place (at_one m with_undo t).pending ≡ true) (λ t. pends place t.pending ≡ true) (txn_numbered n txns)
    (λ t k. undone_more m place t (cases_Bool (t.number == m)) k) h

own_pends : (m : ℕ) (rid : Rid) (before : Option Row) (place : Rid) (t : Txn) → (t.number == m) ≡ true → pends place (at_one m (with_change rid before) t).pending ≡ true → (same_place rid place ≡ true) ⊎ (pends place t.pending ≡ true)
own_pends m rid before place t e h =
    let g : (same_place rid place || pends place t.pending) ≡ true = (rw (e) at h) in
    elim (cases_Bool (same_place rid place)) [ inl k ↦ inl k | inr k ↦ inr (rw (k) at g) ]

own_less : (m n : ℕ) (rid : Rid) (before : Option Row) (place : Rid) (t : Txn) → (m == n) ≡ true → same_place rid place ≡ false → t.number ≡ n → pends place (at_one m (with_change rid before) t).pending ≡ true → pends place t.pending ≡ true
own_less m n rid before place t e k is h =
    elim (own_pends m rid before place t (rw (is, eq_turn n m) e) h) [ inl l ↦ absurd (let d : true ≡ false = sym l ∙ k in cc) | inr l ↦ l ]

-- the transaction's own places
own_place : (m n : ℕ) (rid : Rid) (before : Option Row) (place : Rid) (txns : List Txn) → (m == n) ≡ true → FreeBut m rid txns → Locks txns
    → IsOne (txn_numbered n txns) (λ t. pends place (at_one m (with_change rid before) t).pending ≡ true) → FreeBut n place txns
own_place m n rid before place txns e free locks h =
    elim (cases_Bool (same_place rid place)) [
      | inl k ↦ rw (← eqb-true m n e, ← same_place_is rid place k) free
      | inr k ↦ locks n place (one_as (λ t. pends place (at_one m (with_change rid before) t).pending ≡ true × (t.number ≡ n)) (λ t. pends place t.pending ≡ true) (txn_numbered n txns)
          (λ t q. own_less m n rid before place t e k q.1 q.0)
          (found_number n (λ t. pends place (at_one m (with_change rid before) t).pending ≡ true) txns h))
    ]

not_own : (n m : ℕ) (f : Txn → Txn) (place : Rid) (txns : List Txn) → (m == n) ≡ false → IsOne (txn_numbered n txns) (λ t. pends place (at_one m f t).pending ≡ true) → IsOne (txn_numbered n txns) (λ t. pends place t.pending ≡ true)
not_own n m f place txns e h =
    one_as (λ t. pends place (at_one m f t).pending ≡ true × (t.number ≡ n)) (λ t. pends place t.pending ≡ true) (txn_numbered n txns)
    (λ t q. let g : (t.number == m) ≡ false = rw (q.1, eq_turn n m) e in let k : pends place (at_one m f t).pending ≡ true = q.0 in (rw (g) at k))
    (found_number n (λ t. pends place (at_one m f t).pending ≡ true) txns h)

-- another transaction has nothing pending where this one may change
other_place : (m n : ℕ) (rid place : Rid) (txns : List Txn) → AllCover txns → FreeBut m rid txns → (m == n) ≡ false → IsOne (txn_numbered n txns) (λ t. pends place t.pending ≡ true) → same_place rid place ≡ false
other_place m n rid place [] covers free e h = absurd h
other_place m n rid place (t ∷ txns) covers free e h =
    let q = and_parts ((t.number == m) || not (made rid t)) (list_all (λ (u : Txn). (u.number == m) || not (made rid u)) txns) free in
    elim (eqb_tells t.number n) [
      | inl k ↦ (let g : (t.number == m) ≡ false = rw (k.1, eq_turn n m) e in
          let a : not (made rid t) ≡ true = (rw (g) at (q.0)) in
          let b : pends rid t.pending ≡ false = All-head Covers t txns covers rid (not-true (made rid t) a) in
          elim (cases_Bool (same_place rid place)) [ inl l ↦ absurd (let c : pends rid t.pending ≡ true = rw (same_place_is rid place l) (rw (k.0) at h) in let d : true ≡ false = sym c ∙ b in cc) | inr l ↦ l ])
      | inr k ↦ other_place m n rid place txns (All-tail Covers t txns covers) q.1 e (rw (k.0) at h)
    ]

pub locks_undo : (m : ℕ) (txns : List Txn) → Locks txns → Locks (at_txn m with_undo txns)
locks_undo m txns locks n place h =
    free_at n m with_undo place txns (λ t. refl) (inr (λ t. refl))
    (locks n place (one_more n txns m place (find_at n m with_undo (λ t. pends place t.pending ≡ true) txns (λ t. refl) h)))

pub locks_without : (m : ℕ) (txns : List Txn) → Locks txns → Locks (without_txn m txns)
locks_without m txns locks n place h =
    elim (eqb_tells m n) [
      | inl e ↦ absurd (none_without n (λ t. pends place t.pending ≡ true) txns (rw (e.1) at h))
      | inr e ↦ free_without n m place txns (locks n place (find_without n m (λ t. pends place t.pending ≡ true) txns e.0 h))
    ]

pub locks_new : (m : ℕ) (txns : List Txn) → Locks txns → Locks (txns ++ begun m ∷ [])
locks_new m txns locks n place h =
    free_new n m place txns (locks n place (find_new n m (λ t. pends place t.pending ≡ true) txns (λ e. let f : false ≡ true = e in absurd (let g : false ≡ true = f in cc)) h))

-- a change that no other transaction has made: where another has a change pending, this is another place
pub locks_change : (m : ℕ) (rid : Rid) (before : Option Row) (txns : List Txn) → AllCover txns → FreeBut m rid txns → Locks txns → Locks (at_txn m (with_change rid before) txns)
locks_change m rid before txns covers free locks n place h =
    let found = find_at n m (with_change rid before) (λ t. pends place t.pending ≡ true) txns (λ t. refl) h in
    elim (cases_Bool (m == n)) [
      | inl e ↦ free_at n m (with_change rid before) place txns (λ t. refl) (inl e) (own_place m n rid before place txns e free locks found)
      | inr e ↦ (let old = not_own n m (with_change rid before) place txns e found in
          let other = other_place m n rid place txns covers free e old in
          free_at n m (with_change rid before) place txns (λ t. refl) (inr (λ t. rw (same_place_turn place rid, other) refl)) (locks n place old))
    ]
