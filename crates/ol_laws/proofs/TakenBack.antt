-- Taking back what is open, seen from one place.
use Rattle.std.specs.List.{list_all, list_any}
use Rattle.std.specs.Prelude.{Bool, List, None, Option, Some, [], drop, false, if◌then◌else◌, map, not, refl, slice_get, true, ℕ, ◌++◌, ◌==◌, ◌||◌, ◌∷◌, ◌≡◌}
use Rattle.std.proofs.Common.{ap, inl, inr, sym, ◌∙◌}
use Rattle.std.proofs.lemmas.Bool.{and_parts, cases_Bool, not-true, or_parts, or_right}
use Rattle.std.proofs.lemmas.Bool.Decides.{eqb_tells}
use Rattle.std.proofs.lemmas.List.Elements.{All-head, All-tail}
use Rattle.std.proofs.lemmas.List.Sums.{fold-append}
use Rattle.ol_values.specs.declared.record.Record.TheVariants.{Rolled, Undo}
use Rattle.ol_values.specs.declared.record.Rid.{Rid}
use Rattle.ol_values.specs.declared.row.Row.{Row}
use Rattle.ol_rules.specs.Journal.{row_after, row_from, same_place}
use Rattle.ol_rules.specs.Sound.{IsOne}
use Rattle.ol_rules.specs.Transactions.{Txn, at_txn, back, back_of, begun, txn_numbered, with_change, with_undo, without_txn}
use Rattle.ol_laws.proofs.LockLaws.{AllCover, Covers, FreeBut, made, pends}
use Rattle.ol_laws.proofs.TxnLaws.{Distinct, IsNew, KeepsNumber, at_txn-other}

-- a place once these pending changes were taken back, the newest first
abbrev pub undo_list : Rid → Option Row → List (Rid × Option Row) → Option Row
undo_list place held [] = held
undo_list place held (p ∷ pending) = undo_list place (if same_place p.0 place then p.1 else held) pending

-- and once all transactions but those kept were
abbrev pub undo_all : (ℕ → Bool) → Rid → Option Row → List Txn → Option Row
undo_all keeps place held [] = held
undo_all keeps place held (t ∷ txns) = undo_all keeps place (if keeps t.number then held else undo_list place held t.pending) txns

undo_of : (n : ℕ) (pending : List (Rid × Option Row)) (held : Option Row) (place : Rid)
    → row_from held (map (λ (p : Rid × Option Row). Undo n p.0 p.1) pending ++ Rolled n ∷ []) place ≡ undo_list place held pending
undo_of n [] held place = refl
undo_of n (p ∷ pending) held place = undo_of n pending (if same_place p.0 place then p.1 else held) place

-- the roll back, as seen from one place
pub undo_back : (txns : List Txn) (held : Option Row) (place : Rid) → row_from held (back txns) place ≡ undo_all (λ n. false) place held txns
undo_back [] held place = refl
undo_back (t ∷ txns) held place =
    fold-append (row_after place) held (back_of t) (back txns)
    ∙ ap (λ (h : Option Row). row_from h (back txns) place) (undo_of t.number t.pending held place)
    ∙ undo_back txns (undo_list place held t.pending) place

cond_same : {A : Type 0} (b : Bool) (x : A) → (if b then x else x) ≡ x
cond_same true x = refl
cond_same false x = refl

-- ---- a begin

pub undo_new : (keeps : ℕ → Bool) (place : Rid) (held : Option Row) (n : ℕ) (txns : List Txn) → undo_all keeps place held (txns ++ begun n ∷ []) ≡ undo_all keeps place held txns
undo_new keeps place held n [] = cond_same (keeps n) held
undo_new keeps place held n (t ∷ txns) = undo_new keeps place (if keeps t.number then held else undo_list place held t.pending) n txns

-- ---- an end

-- this holds of each transaction of the number
abbrev pub AllAt : ℕ → (Txn → Type 0) → List Txn → Type 0
AllAt n P [] = Unit {0}
AllAt n P (t ∷ txns) = ((t.number == n) ≡ true → P t) × AllAt n P txns

all_of_new : (n : ℕ) (P : Txn → Type 0) (txns : List Txn) → IsNew n txns → AllAt n P txns
all_of_new n P [] h = tt
all_of_new n P (t ∷ txns) h =
    let q = or_parts (t.number == n) (list_any (λ (u : Txn). u.number == n) txns) h in
    ((λ e. absurd (let f : true ≡ false = sym e ∙ q.0 in cc)), all_of_new n P txns q.1)

pub all_of : (n : ℕ) (P : Txn → Type 0) (txns : List Txn) → Distinct txns → IsOne (txn_numbered n txns) P → AllAt n P txns
all_of n P [] d h = tt
all_of n P (t ∷ txns) d h =
    elim (eqb_tells t.number n) [
      | inl e ↦ (let p : P t = (rw (e.0) at h) in ((λ q. p), all_of_new n P txns (rw (e.1) at (d.0))))
      | inr e ↦ ((λ q. absurd (let f : true ≡ false = sym q ∙ e.0 in cc)), all_of n P txns d.1 (rw (e.0) at h))
    ]

-- a transaction that has nothing pending may go
pub undo_rolled : (keeps : ℕ → Bool) (place : Rid) (held : Option Row) (n : ℕ) (txns : List Txn) → AllAt n (λ t. t.pending ≡ []) txns → undo_all keeps place held (without_txn n txns) ≡ undo_all keeps place held txns
undo_rolled keeps place held n [] h = refl
undo_rolled keeps place held n (t ∷ txns) h =
    elim (cases_Bool (t.number == n)) [
      | inl e ↦ (let f : t.pending ≡ [] = h.0 e in
          let g : (if keeps t.number then held else undo_list place held t.pending) ≡ held = rw (f) (cond_same (keeps t.number) held) in
          let rest = undo_rolled keeps place held n txns h.1 in
          let a : undo_all keeps place held (without_txn n (t ∷ txns)) ≡ undo_all keeps place held (without_txn n txns) = rw (e) refl in
          a ∙ rest ∙ ap (λ (x : Option Row). undo_all keeps place x txns) (sym g))
      | inr e ↦ (let a : undo_all keeps place held (without_txn n (t ∷ txns)) ≡ undo_all keeps place (if keeps t.number then held else undo_list place held t.pending) (without_txn n txns) = rw (e) refl in
          a ∙ undo_rolled keeps place (if keeps t.number then held else undo_list place held t.pending) n txns h.1)
    ]

abbrev pub and_one : (ℕ → Bool) → ℕ → ℕ → Bool
and_one keeps n m = keeps m || (m == n)

pub or_none : (b : Bool) → (b || false) ≡ b
or_none true = refl
or_none false = refl

-- a transaction that commits is kept from then on
pub undo_committed : (keeps : ℕ → Bool) (place : Rid) (held : Option Row) (n : ℕ) (txns : List Txn) → undo_all keeps place held (without_txn n txns) ≡ undo_all (and_one keeps n) place held txns
undo_committed keeps place held n [] = refl
undo_committed keeps place held n (t ∷ txns) =
    elim (cases_Bool (t.number == n)) [
      | inl e ↦ (let a : undo_all keeps place held (without_txn n (t ∷ txns)) ≡ undo_all keeps place held (without_txn n txns) = rw (e) refl in
          let g : (if and_one keeps n t.number then held else undo_list place held t.pending) ≡ held = rw (e, or_right (keeps t.number) true refl) refl in
          a ∙ undo_committed keeps place held n txns ∙ ap (λ (x : Option Row). undo_all (and_one keeps n) place x txns) (sym g))
      | inr e ↦ (let a : undo_all keeps place held (without_txn n (t ∷ txns)) ≡ undo_all keeps place (if keeps t.number then held else undo_list place held t.pending) (without_txn n txns) = rw (e) refl in
          let g : (if and_one keeps n t.number then held else undo_list place held t.pending) ≡ (if keeps t.number then held else undo_list place held t.pending) = rw (e, or_none (keeps t.number)) refl in
          a ∙ undo_committed keeps place (if keeps t.number then held else undo_list place held t.pending) n txns ∙ ap (λ (x : Option Row). undo_all (and_one keeps n) place x txns) (sym g))
    ]

-- ---- changes and undos

-- the others have nothing pending at the place
abbrev pub Others : ℕ → Rid → List Txn → Type 0
Others n place [] = Unit {0}
Others n place (t ∷ txns) = ((t.number == n) ≡ false → pends place t.pending ≡ false) × Others n place txns

pub others_of : (n : ℕ) (place : Rid) (txns : List Txn) → AllCover txns → FreeBut n place txns → Others n place txns
others_of n place [] c f = tt
others_of n place (t ∷ txns) c f =
    let q = and_parts ((t.number == n) || not (made place t)) (list_all (λ (u : Txn). (u.number == n) || not (made place u)) txns) f in
    ((λ e. All-head Covers t txns c place (not-true (made place t) (rw (e) at (q.0)))), others_of n place txns (All-tail Covers t txns c) q.1)

undo_quiet : (place : Rid) (held : Option Row) (pending : List (Rid × Option Row)) → pends place pending ≡ false → undo_list place held pending ≡ held
undo_quiet place held [] h = refl
undo_quiet place held (p ∷ pending) h =
    let q = or_parts (same_place p.0 place) (pends place pending) h in
    let a : (if same_place p.0 place then p.1 else held) ≡ held = rw (q.0) refl in
    ap (λ (x : Option Row). undo_list place x pending) a ∙ undo_quiet place held pending q.1

abbrev taken : (ℕ → Bool) → Rid → Option Row → Txn → Option Row
taken keeps place held t = if keeps t.number then held else undo_list place held t.pending

taken_quiet : (keeps : ℕ → Bool) (place : Rid) (held : Option Row) (t : Txn) → pends place t.pending ≡ false → taken keeps place held t ≡ held
taken_quiet keeps place held t h = ap (λ (x : Option Row). if keeps t.number then held else x) (undo_quiet place held t.pending h) ∙ cond_same (keeps t.number) held

pushed_off : (place : Rid) (held : Option Row) (rid : Rid) (before : Option Row) (pending : List (Rid × Option Row)) → same_place rid place ≡ false → undo_list place held ((rid, before) ∷ pending) ≡ undo_list place held pending
pushed_off place held rid before pending h =
    let a : (if same_place rid place then before else held) ≡ held = rw (h) refl in
    ap (λ (x : Option Row). undo_list place x pending) a

pushed_on : (place : Rid) (held : Option Row) (rid : Rid) (before : Option Row) (pending : List (Rid × Option Row)) → same_place rid place ≡ true → undo_list place held ((rid, before) ∷ pending) ≡ undo_list place before pending
pushed_on place held rid before pending h =
    let a : (if same_place rid place then before else held) ≡ before = rw (h) refl in
    ap (λ (x : Option Row). undo_list place x pending) a

-- a change elsewhere
pub change_elsewhere : (keeps : ℕ → Bool) (place : Rid) (held : Option Row) (n : ℕ) (rid : Rid) (before : Option Row) (txns : List Txn) → same_place rid place ≡ false
    → undo_all keeps place held (at_txn n (with_change rid before) txns) ≡ undo_all keeps place held txns
change_elsewhere keeps place held n rid before [] h = refl
change_elsewhere keeps place held n rid before (t ∷ txns) h =
    let same : taken keeps place held (if t.number == n then with_change rid before t else t) ≡ taken keeps place held t =
    elim (t.number == n) as (λ b. taken keeps place held (if b then with_change rid before t else t) ≡ taken keeps place held t) [ true ↦ ap (λ (x : Option Row). if keeps t.number then held else x) (pushed_off place held rid before t.pending h) | false ↦ refl ] in
    ap (λ (x : Option Row). undo_all keeps place x (at_txn n (with_change rid before) txns)) same
    ∙ change_elsewhere keeps place (taken keeps place held t) n rid before txns h

-- a change there, by a transaction that is taken back
pub change_there : (keeps : ℕ → Bool) (place : Rid) (before after : Option Row) (n : ℕ) (rid : Rid) (txns : List Txn) → same_place rid place ≡ true → keeps n ≡ false → Distinct txns → Others n place txns → list_any (λ (t : Txn). t.number == n) txns ≡ true
    → undo_all keeps place after (at_txn n (with_change rid before) txns) ≡ undo_all keeps place before txns
change_there keeps place before after n rid [] h k d o a = absurd (let e : false ≡ true = a in cc)
change_there keeps place before after n rid (t ∷ txns) h k d o a =
    elim (eqb_tells t.number n) [
      | inl e ↦ (let kept : keeps t.number ≡ false = rw (e.1) k in
          let first : undo_all keeps place after (at_txn n (with_change rid before) (t ∷ txns)) ≡ undo_all keeps place (undo_list place after ((rid, before) ∷ t.pending)) (at_txn n (with_change rid before) txns) = rw (e.0, kept) refl in
          let left = first ∙ ap (λ (x : Option Row). undo_all keeps place x (at_txn n (with_change rid before) txns)) (pushed_on place after rid before t.pending h) in
          let right : undo_all keeps place before (t ∷ txns) ≡ undo_all keeps place (undo_list place before t.pending) txns = rw (kept) refl in
          let rest : at_txn n (with_change rid before) txns ≡ txns = at_txn-other n (with_change rid before) txns (rw (e.1) at (d.0)) in
          left ∙ ap (λ (l : List Txn). undo_all keeps place (undo_list place before t.pending) l) rest ∙ sym right)
      | inr e ↦ (let quiet = o.0 e.0 in
          let left : undo_all keeps place after (at_txn n (with_change rid before) (t ∷ txns)) ≡ undo_all keeps place (taken keeps place after t) (at_txn n (with_change rid before) txns) = rw (e.0) refl in
          left ∙ ap (λ (x : Option Row). undo_all keeps place x (at_txn n (with_change rid before) txns)) (taken_quiet keeps place after t quiet)
          ∙ change_there keeps place before after n rid txns h k d.1 o.1 (rw (e.0) at a)
          ∙ ap (λ (x : Option Row). undo_all keeps place x txns) (sym (taken_quiet keeps place before t quiet)))
    ]

-- where the one transaction with changes there is kept
pub kept_there : (keeps : ℕ → Bool) (place : Rid) (held : Option Row) (n : ℕ) (f : Txn → Txn) (txns : List Txn) → keeps n ≡ true → KeepsNumber f → Others n place txns
    → undo_all keeps place held (at_txn n f txns) ≡ held
kept_there keeps place held n f [] k keep o = refl
kept_there keeps place held n f (t ∷ txns) k keep o =
    elim (eqb_tells t.number n) [
      | inl e ↦ (let g : keeps (f t).number ≡ true = rw (keep t, e.1) k in
          let left : undo_all keeps place held (at_txn n f (t ∷ txns)) ≡ undo_all keeps place held (at_txn n f txns) = rw (e.0, g) refl in
          left ∙ kept_there keeps place held n f txns k keep o.1)
      | inr e ↦ (let left : undo_all keeps place held (at_txn n f (t ∷ txns)) ≡ undo_all keeps place (taken keeps place held t) (at_txn n f txns) = rw (e.0) refl in
          left ∙ ap (λ (x : Option Row). undo_all keeps place x (at_txn n f txns)) (taken_quiet keeps place held t (o.0 e.0)) ∙ kept_there keeps place held n f txns k keep o.1)
    ]

-- where the newest change is taken back
undo_first : (place : Rid) (held : Option Row) (rid : Rid) (value : Option Row) (pending : List (Rid × Option Row)) → slice_get pending 0 ≡ Some (rid, value)
    → undo_list place held pending ≡ undo_list place (if same_place rid place then value else held) (drop 1 pending)
undo_first place held rid value [] h = absurd (let e : None ≡ Some (rid, value) = h in cc)
undo_first place held rid value (p ∷ pending) h =
    let e : p ≡ (rid, value) = cc in
    ap (λ (q : Rid × Option Row). undo_list place (if same_place q.0 place then q.1 else held) pending) e

pub undo_elsewhere : (keeps : ℕ → Bool) (place : Rid) (held : Option Row) (n : ℕ) (rid : Rid) (value : Option Row) (txns : List Txn) → same_place rid place ≡ false → AllAt n (λ t. slice_get t.pending 0 ≡ Some (rid, value)) txns
    → undo_all keeps place held (at_txn n with_undo txns) ≡ undo_all keeps place held txns
undo_elsewhere keeps place held n rid value [] h a = refl
undo_elsewhere keeps place held n rid value (t ∷ txns) h a =
    let same : taken keeps place held (if t.number == n then with_undo t else t) ≡ taken keeps place held t =
    elim (cases_Bool (t.number == n)) [
      | inl e ↦ (let one = undo_first place held rid value t.pending (a.0 e) in
          let two : undo_list place held (drop 1 t.pending) ≡ undo_list place held t.pending = (rw (h) at (sym one)) in
          rw (e) (ap (λ (x : Option Row). if keeps t.number then held else x) two))
      | inr e ↦ rw (e) refl
    ] in
    ap (λ (x : Option Row). undo_all keeps place x (at_txn n with_undo txns)) same
    ∙ undo_elsewhere keeps place (taken keeps place held t) n rid value txns h a.1

pub undo_there : (keeps : ℕ → Bool) (place : Rid) (held : Option Row) (n : ℕ) (rid : Rid) (value : Option Row) (txns : List Txn) → same_place rid place ≡ true → keeps n ≡ false → Distinct txns → Others n place txns → AllAt n (λ t. slice_get t.pending 0 ≡ Some (rid, value)) txns → list_any (λ (t : Txn). t.number == n) txns ≡ true
    → undo_all keeps place value (at_txn n with_undo txns) ≡ undo_all keeps place held txns
undo_there keeps place held n rid value [] h k d o a i = absurd (let e : false ≡ true = i in cc)
undo_there keeps place held n rid value (t ∷ txns) h k d o a i =
    elim (eqb_tells t.number n) [
      | inl e ↦ (let kept : keeps t.number ≡ false = rw (e.1) k in
          let one : undo_list place held t.pending ≡ undo_list place value (drop 1 t.pending) = (rw (h) at (undo_first place held rid value t.pending (a.0 e.0))) in
          let left : undo_all keeps place value (at_txn n with_undo (t ∷ txns)) ≡ undo_all keeps place (undo_list place value (drop 1 t.pending)) (at_txn n with_undo txns) = rw (e.0, kept) refl in
          let right : undo_all keeps place held (t ∷ txns) ≡ undo_all keeps place (undo_list place held t.pending) txns = rw (kept) refl in
          left ∙ ap (λ (l : List Txn). undo_all keeps place (undo_list place value (drop 1 t.pending)) l) (at_txn-other n with_undo txns (rw (e.1) at (d.0)))
          ∙ ap (λ (x : Option Row). undo_all keeps place x txns) (sym one) ∙ sym right)
      | inr e ↦ (let left : undo_all keeps place value (at_txn n with_undo (t ∷ txns)) ≡ undo_all keeps place (taken keeps place value t) (at_txn n with_undo txns) = rw (e.0) refl in
          left ∙ ap (λ (x : Option Row). undo_all keeps place x (at_txn n with_undo txns)) (taken_quiet keeps place value t (o.0 e.0))
          ∙ undo_there keeps place held n rid value txns h k d.1 o.1 a.1 (rw (e.0) at i)
          ∙ ap (λ (x : Option Row). undo_all keeps place x txns) (sym (taken_quiet keeps place held t (o.0 e.0))))
    ]
