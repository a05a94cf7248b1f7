-- Roll back: after each part of it the rest of it is left.
use Rattle.std.specs.Prelude.{Bool, List, Option, [], fold, length, map, refl, ℕ, ◌++◌, ◌+◌, ◌∷◌, ◌≡◌}
use Rattle.std.proofs.Common.{ap, append-nil, arith, length-append}
use Rattle.std.proofs.lemmas.List.{length-map}
use Rattle.ol_values.specs.declared.record.Record.{Record}
use Rattle.ol_values.specs.declared.record.Record.TheVariants.{Rolled, Undo}
use Rattle.ol_values.specs.declared.record.Rid.{Rid}
use Rattle.ol_values.specs.declared.row.Row.{Row}
use Rattle.ol_rules.specs.Transactions.{Txn, back, back_of, owed, owed_by, txns_after, txns_from, with_undo}
use Rattle.ol_laws.proofs.JournalLaws.{same_self}
use Rattle.ol_laws.proofs.TxnLaws.{Distinct, at_txn-other, without_txn-other}

-- ---- one record

step : (n : ℕ) (pending : List (Rid × Option Row)) (changed : List Rid) (undone : Bool) (txns : List Txn) (r : Record) (rest : List Record)
    → (let t : Txn = record { number = n; pending = pending; changed = changed; undone = undone } in
    Distinct (t ∷ txns) → back (t ∷ txns) ≡ r ∷ rest → (back (txns_after (t ∷ txns) r) ≡ rest) × Distinct (txns_after (t ∷ txns) r))
step n [] changed undone txns r rest d e =
    let f : r ≡ Rolled n = cc in
    let g : back txns ≡ rest = cc in
    rw (f, same_self n, without_txn-other n txns d.0) (g, d.1)
step n (p ∷ pending) changed undone txns r rest d e =
    let f : r ≡ Undo n p.0 p.1 = cc in
    let g : (map (λ (q : Rid × Option Row). Undo n q.0 q.1) pending ++ Rolled n ∷ []) ++ back txns ≡ rest = cc in
    rw (f, same_self n, at_txn-other n with_undo txns d.0) (g, d)

pub back_step : (txns : List Txn) (r : Record) (rest : List Record) → Distinct txns → back txns ≡ r ∷ rest → (back (txns_after txns r) ≡ rest) × Distinct (txns_after txns r)
back_step [] r rest d e = absurd (let f : [] ≡ r ∷ rest = e in cc)
back_step (t ∷ txns) r rest d e = step t.number t.pending t.changed t.undone txns r rest d e

pub back_rest : (first rest : List Record) (txns : List Txn) → Distinct txns → back txns ≡ first ++ rest → back (txns_from txns first) ≡ rest
back_rest [] rest txns d e = e
back_rest (r ∷ first) rest txns d e =
    let s = back_step txns r (first ++ rest) d e in
    back_rest first rest (txns_after txns r) s.1 s.0

-- ---- how long it is

length-back_of : (t : Txn) → length (back_of t) ≡ owed_by t
length-back_of t = rw (length-append, length-map) (omega arith)

owed_from : (n : ℕ) (txns : List Txn) → fold (λ a (t : Txn). a + owed_by t) n txns ≡ n + length (back txns)
owed_from n [] = omega arith
owed_from n (t ∷ txns) =
    let rest = owed_from (n + owed_by t) txns in
    let whole : length (back (t ∷ txns)) ≡ owed_by t + length (back txns) = rw (length-append, length-back_of t) refl in
    omega (arith, rest, whole)

-- what is owed is the number of records that take it back
pub owed_is : (txns : List Txn) → owed txns ≡ length (back txns)
owed_is txns = omega (arith, owed_from 0 txns)

-- with nothing to take back, nothing is open
pub none_left : (txns : List Txn) → back txns ≡ [] → txns ≡ []
none_left [] e = refl
none_left (t ∷ txns) e =
    let whole : length (back (t ∷ txns)) ≡ owed_by t + length (back txns) = rw (length-append, length-back_of t) refl in
    let none : length (back (t ∷ txns)) ≡ 0 = ap (λ (l : List Record). length l) e in
    absurd (omega (arith, whole, none))

-- after the whole of it nothing is open
pub all_back : (txns : List Txn) → Distinct txns → txns_from txns (back txns) ≡ []
all_back txns d =
    let whole : back txns ≡ back txns ++ [] = rw (append-nil) refl in
    none_left (txns_from txns (back txns)) (back_rest (back txns) [] txns d whole)
