-- The table and the open transactions after a turn of one session, and what one tells of the other.
use Rattle.std.specs.List.{list_all, list_any}
use Rattle.std.specs.Option.{unwrap_or}
use Rattle.std.specs.Prelude.{All, Bool, List, None, Option, Some, [], false, fold, length, min, refl, slice_set, sum_by, true, ℕ, ◌++◌, ◌+◌, ◌<◌, ◌==◌, ◌∷◌, ◌≡◌, ◌≤◌}
use Rattle.std.proofs.Common.{ap, arith, inl, inr, subst, suc, sym, zero, ◌∙◌}
use Rattle.std.proofs.lemmas.Bool.Decides.{eqb_tells}
use Rattle.std.proofs.lemmas.List.{get_or-set_other, get_or-set_same, length-set, set-get_or, set-set, set_comm}
use Rattle.std.proofs.lemmas.List.Elements.{All-head, All-tail}
use Rattle.std.proofs.lemmas.List.Sums.{sum_by-cons, sum_by-set}
use Rattle.ol_values.specs.declared.record.Rid.{Rid}
use Rattle.ol_values.specs.declared.row.Row.{Row}
use Rattle.ol_rules.specs.Locks.{Holding, lesser, low_in, owed_by_holding, owed_in}
use Rattle.ol_rules.specs.Sound.{IsOne}
use Rattle.ol_rules.specs.Transactions.{Ascending, Txn, at_txn, low_of, owed, owed_by, txn_numbered, without_txn}
use Rattle.ol_laws.proofs.Found.{found_any}
use Rattle.ol_laws.proofs.JournalLaws.{same_self}
use Rattle.ol_laws.proofs.TxnLaws.{Distinct, IsNew, at_txn-other, without_txn-other}
use Rattle.ol_txn.specs.Telling.{IsIdle, IsOf, Tells, first_number, held}

-- ---- one index of a table

pub within : (table : List (Option Holding)) (i : ℕ) (h : Holding) → held table i ≡ Some h → i < length table
within [] i h e = absurd (let g : None ≡ Some h = e in cc)
within (x ∷ table) zero h e = omega arith
within (x ∷ table) (suc i) h e = omega (arith, within table i h e)

-- an idle session is another than one that holds something
apart : (table : List (Option Holding)) (i k : ℕ) (h : Holding) → held table i ≡ Some h → held table k ≡ None → i ≡ k → ⊥
apart table i k h e f same = let g : Some h ≡ None = sym e ∙ ap (λ j. held table j) same ∙ f in cc

pub one_held : (table : List (Option Holding)) (i k : ℕ) (g h : Holding) → held table i ≡ Some g → held table k ≡ Some h → i ≡ k → g ≡ h
one_held table i k g h e f same = let both : Some g ≡ Some h = sym e ∙ ap (λ j. held table j) same ∙ f in cc

pub unchanged : (table : List (Option Holding)) (k : ℕ) (v : Option Holding) → held table k ≡ v → slice_set table k v ≡ table
unchanged table k v e = subst (λ w. slice_set table k w ≡ table) e (set-get_or table k None)

-- what is held beside an index that was emptied was held before
held_before : (table : List (Option Holding)) (i j : ℕ) (h : Holding) → i < length table → held (slice_set table i None) j ≡ Some h → held table j ≡ Some h
held_before table i j h there e =
    elim (eqb_tells j i) [
      | inl same ↦ absurd (apart (slice_set table i None) j i h e (get_or-set_same table i None None there) same.1)
      | inr other ↦ sym (get_or-set_other table i j None None other.1) ∙ e
    ]

-- ---- a transaction more

pub tells_begun : (txns : List Txn) (table : List (Option Holding)) (k : ℕ) (t : Txn) (h : Holding) → k < length table → held table k ≡ None → IsOf h t → Tells txns table
    → Tells (txns ++ t ∷ []) (slice_set table k (Some h))
tells_begun [] table k t h there idle is tells =
    let rest : IsIdle (slice_set (slice_set table k (Some h)) k None) = subst (λ (l : List (Option Holding)). IsIdle l) (sym (set-set table k (Some h) None ∙ unchanged table k None idle)) tells in
    (k, h, get_or-set_same table k (Some h) None there, is, rest)
tells_begun (u ∷ txns) table k t h there idle is (i, g, e, was, tells) =
    let other : i ≡ k → ⊥ = apart table i k g e idle in
    let left = tells_begun txns (slice_set table i None) k t h (omega (arith, there, length-set table i None)) (get_or-set_other table i k None None (λ s. other (sym s)) ∙ idle) is tells in
    (i, g, get_or-set_other table k i (Some h) None other ∙ e, was, subst (λ (l : List (Option Holding)). Tells (txns ++ t ∷ []) l) (set_comm table i k None (Some h) other) left)

-- ---- which transaction a session holds

-- what a session holds is open, and is the transaction of that number
pub held_open : (txns : List Txn) (table : List (Option Holding)) (k : ℕ) (h : Holding) → Distinct txns → held table k ≡ Some h → Tells txns table → IsOne (txn_numbered h.number txns) (IsOf h)
held_open [] table k h d e tells = absurd (let g : Some h ≡ None = sym e ∙ tells k in cc)
held_open (t ∷ txns) table k h d e (i, g, f, is, tells) =
    elim (eqb_tells i k) [
      | inl same ↦ (let of : IsOf h t = subst (λ (x : Holding). IsOf x t) (one_held table i k g h f e same.1) is in
          let here : (t.number == h.number) ≡ true = rw (of.number) (same_self t.number) in
          rw (here) of)
      | inr other ↦ (let left = held_open txns (slice_set table i None) k h d.1 (get_or-set_other table i k None None (λ s. other.1 (sym s)) ∙ e) tells in
          elim (eqb_tells t.number h.number) [
            | inl here ↦ absurd (let new : IsNew h.number txns = subst (λ n. IsNew n txns) here.1 d.0 in let clash : true ≡ false = sym (found_any h.number (IsOf h) txns left) ∙ new in cc)
            | inr off ↦ rw (off.0) left
          ])
    ]

-- a session holds none but the open transactions
held_not_new : (txns : List Txn) (table : List (Option Holding)) (k n : ℕ) (h : Holding) → Distinct txns → held table k ≡ Some h → h.number ≡ n → Tells txns table → IsNew n txns → ⊥
held_not_new txns table k n h d e is tells new =
    let found : list_any (λ (t : Txn). t.number == h.number) txns ≡ true = found_any h.number (IsOf h) txns (held_open txns table k h d e tells) in
    let none : list_any (λ (t : Txn). t.number == h.number) txns ≡ false = subst (λ m. IsNew m txns) (sym is) new in
    let clash : true ≡ false = sym found ∙ none in
    cc

-- ---- a turn of one transaction

-- the first transaction has another number where another session than this number's holds it
first_other : (t : Txn) (txns : List Txn) (table : List (Option Holding)) (i k n : ℕ) (h : Holding) → Distinct (t ∷ txns) → held table k ≡ Some h → h.number ≡ n → (i ≡ k → ⊥) → Tells txns (slice_set table i None) → (t.number == n) ≡ false
first_other t txns table i k n h d e is other tells =
    elim (eqb_tells t.number n) [
      | inl here ↦ absurd (held_not_new txns (slice_set table i None) k n h d.1 (get_or-set_other table i k None None (λ s. other (sym s)) ∙ e) is tells (subst (λ m. IsNew m txns) here.1 d.0))
      | inr off ↦ off.0
    ]

-- one transaction took a step, and its session with it
pub tells_step : (n : ℕ) (f : Txn → Txn) (txns : List Txn) (table : List (Option Holding)) (k : ℕ) (h g : Holding) → ((t : Txn) → IsOf h t → IsOf g (f t)) → Distinct txns → h.number ≡ n → held table k ≡ Some h → Tells txns table
    → Tells (at_txn n f txns) (slice_set table k (Some g))
tells_step n f [] table k h g steps d number e tells = absurd (let c : Some h ≡ None = sym e ∙ tells k in cc)
tells_step n f (t ∷ txns) table k h g steps d number e (i, o, at_i, is, tells) =
    elim (eqb_tells i k) [
      | inl same ↦ (let of : IsOf h t = subst (λ (x : Holding). IsOf x t) (one_held table i k o h at_i e same.1) is in
          let here : (t.number == n) ≡ true = rw (← of.number, number) (same_self n) in
          let new : IsNew n txns = subst (λ m. IsNew m txns) (sym of.number ∙ number) d.0 in
          let stepped : at_txn n f (t ∷ txns) ≡ f t ∷ txns = rw (here, at_txn-other n f txns new) refl in
          let left : Tells txns (slice_set (slice_set table k (Some g)) k None) = subst (λ (l : List (Option Holding)). Tells txns l) (ap (λ j. slice_set table j None) same.1 ∙ sym (set-set table k (Some g) None)) tells in
          let told : Tells (f t ∷ txns) (slice_set table k (Some g)) = (k, g, get_or-set_same table k (Some g) None (within table k h e), steps t of, left) in
          subst (λ (l : List Txn). Tells l (slice_set table k (Some g))) (sym stepped) told)
      | inr other ↦ (let off = first_other t txns table i k n h d e number other.1 tells in
          let stepped : at_txn n f (t ∷ txns) ≡ t ∷ at_txn n f txns = rw (off) refl in
          let left = tells_step n f txns (slice_set table i None) k h g steps d.1 number (get_or-set_other table i k None None (λ s. other.1 (sym s)) ∙ e) tells in
          let told : Tells (t ∷ at_txn n f txns) (slice_set table k (Some g)) =
          (i, o, get_or-set_other table k i (Some g) None other.1 ∙ at_i, is, subst (λ (l : List (Option Holding)). Tells (at_txn n f txns) l) (set_comm table i k None (Some g) other.1) left) in
          subst (λ (l : List Txn). Tells l (slice_set table k (Some g))) (sym stepped) told)
    ]

-- one transaction ended, and its session holds nothing
pub tells_ended : (n : ℕ) (txns : List Txn) (table : List (Option Holding)) (k : ℕ) (h : Holding) → Distinct txns → h.number ≡ n → held table k ≡ Some h → Tells txns table → Tells (without_txn n txns) (slice_set table k None)
tells_ended n [] table k h d number e tells = absurd (let c : Some h ≡ None = sym e ∙ tells k in cc)
tells_ended n (t ∷ txns) table k h d number e (i, o, at_i, is, tells) =
    elim (eqb_tells i k) [
      | inl same ↦ (let of : IsOf h t = subst (λ (x : Holding). IsOf x t) (one_held table i k o h at_i e same.1) is in
          let here : (t.number == n) ≡ true = rw (← of.number, number) (same_self n) in
          let new : IsNew n txns = subst (λ m. IsNew m txns) (sym of.number ∙ number) d.0 in
          let ended : without_txn n (t ∷ txns) ≡ txns = rw (here, without_txn-other n txns new) refl in
          subst (λ (l : List Txn). Tells l (slice_set table k None)) (sym ended) (subst (λ j. Tells txns (slice_set table j None)) same.1 tells))
      | inr other ↦ (let off = first_other t txns table i k n h d e number other.1 tells in
          let ended : without_txn n (t ∷ txns) ≡ t ∷ without_txn n txns = rw (off) refl in
          let left = tells_ended n txns (slice_set table i None) k h d.1 number (get_or-set_other table i k None None (λ s. other.1 (sym s)) ∙ e) tells in
          let told : Tells (t ∷ without_txn n txns) (slice_set table k None) =
          (i, o, get_or-set_other table k i None None other.1 ∙ at_i, is, subst (λ (l : List (Option Holding)). Tells (without_txn n txns) l) (set_comm table i k None None other.1) left) in
          subst (λ (l : List Txn). Tells l (slice_set table k None)) (sym ended) told)
    ]

-- a session holds otherwise what is the same transaction
pub tells_kept : (txns : List Txn) (table : List (Option Holding)) (k : ℕ) (h g : Holding) → ((t : Txn) → IsOf h t → IsOf g t) → held table k ≡ Some h → Tells txns table → Tells txns (slice_set table k (Some g))
tells_kept [] table k h g keeps e tells = absurd (let c : Some h ≡ None = sym e ∙ tells k in cc)
tells_kept (t ∷ txns) table k h g keeps e (i, o, at_i, is, tells) =
    elim (eqb_tells i k) [
      | inl same ↦ (let of : IsOf h t = subst (λ (x : Holding). IsOf x t) (one_held table i k o h at_i e same.1) is in
          let left : Tells txns (slice_set (slice_set table k (Some g)) k None) = subst (λ (l : List (Option Holding)). Tells txns l) (ap (λ j. slice_set table j None) same.1 ∙ sym (set-set table k (Some g) None)) tells in
          (k, g, get_or-set_same table k (Some g) None (within table k h e), keeps t of, left))
      | inr other ↦ (let left = tells_kept txns (slice_set table i None) k h g keeps (get_or-set_other table i k None None (λ s. other.1 (sym s)) ∙ e) tells in
          (i, o, get_or-set_other table k i (Some g) None other.1 ∙ at_i, is, subst (λ (l : List (Option Holding)). Tells txns l) (set_comm table i k None (Some g) other.1) left))
    ]

-- ---- what all sessions hold

-- what holds of each session's transaction holds of all
pub all_told : (test : Txn → Bool) (txns : List Txn) (table : List (Option Holding)) → ((j : ℕ) (h : Holding) (t : Txn) → held table j ≡ Some h → IsOf h t → test t ≡ true) → Tells txns table → list_all test txns ≡ true
all_told test [] table each tells = refl
all_told test (t ∷ txns) table each (i, h, e, is, tells) =
    rw (each i h t e is) (all_told test txns (slice_set table i None) (λ j g u f. each j g u (held_before table i j g (within table i h e) f)) tells)

-- what holds of the numbers of all holds of a session's
number_of : (P : ℕ → Type 0) (txns : List Txn) (table : List (Option Holding)) (k : ℕ) (h : Holding) → All (λ (t : Txn). P t.number) txns → held table k ≡ Some h → Tells txns table → P h.number
number_of P [] table k h each e tells = absurd (let c : Some h ≡ None = sym e ∙ tells k in cc)
number_of P (t ∷ txns) table k h each e (i, g, f, is, tells) =
    elim (eqb_tells i k) [
      | inl same ↦ subst P (sym is.number ∙ ap (λ (x : Holding). x.number) (one_held table i k g h f e same.1)) (All-head (λ (u : Txn). P u.number) t txns each)
      | inr other ↦ number_of P txns (slice_set table i None) k h (All-tail (λ (u : Txn). P u.number) t txns each) (get_or-set_other table i k None None (λ s. other.1 (sym s)) ∙ e) tells
    ]

-- ---- what is owed

idle_rest : (x : Option Holding) (table : List (Option Holding)) → IsIdle (x ∷ table) → IsIdle table
idle_rest x table idle i = idle (suc i)

idle_sum : (f : Option Holding → ℕ) (table : List (Option Holding)) → f None ≡ 0 → IsIdle table → sum_by f table ≡ 0
idle_sum f [] none idle = refl
idle_sum f (x ∷ table) none idle =
    let first : x ≡ None = idle 0 in
    omega (arith, sum_by-cons f x table, ap f first, none, idle_sum f table none (idle_rest x table idle))

pub told_owed : (txns : List Txn) (table : List (Option Holding)) → Tells txns table → owed_in table ≡ owed txns
told_owed [] table tells = idle_sum owed_by_holding table refl tells
told_owed (t ∷ txns) table (i, h, e, is, tells) =
    let part : owed_by_holding (held table i) ≡ 1 + length t.pending = ap owed_by_holding e ∙ ap (λ (l : List (Rid × Option Row)). 1 + length l) is.pending in
    let kept = sum_by-set owed_by_holding table i None None (within table i h e) in
    omega (arith, part, kept, told_owed txns (slice_set table i None) tells, sum_by-cons owed_by t txns)

-- where nothing is owed no transaction is open
pub told_closed : (txns : List Txn) (table : List (Option Holding)) → Tells txns table → owed_in table ≡ 0 → txns ≡ []
told_closed [] table tells nothing = refl
told_closed (t ∷ txns) table tells nothing = absurd (omega (arith, told_owed (t ∷ txns) table tells, sum_by-cons owed_by t txns, nothing))

-- how many transactions a session has open
abbrev pub open_in : Option Holding → ℕ
open_in None = 0
open_in (Some h) = 1

told_count : (txns : List Txn) (table : List (Option Holding)) → Tells txns table → sum_by open_in table ≡ length txns
told_count [] table tells = idle_sum open_in table refl tells
told_count (t ∷ txns) table (i, h, e, is, tells) =
    let kept = sum_by-set open_in table i None None (within table i h e) in
    omega (arith, ap open_in e, kept, told_count txns (slice_set table i None) tells)

one_open : (x : Option Holding) → open_in x ≤ 1
one_open None = omega arith
one_open (Some h) = omega arith

count_most : (table : List (Option Holding)) → sum_by open_in table ≤ length table
count_most [] = omega arith
count_most (x ∷ table) = omega (arith, sum_by-cons open_in x table, one_open x, count_most table)

count_less : (table : List (Option Holding)) (k : ℕ) → k < length table → held table k ≡ None → sum_by open_in table < length table
count_less [] k there idle = absurd (omega arith)
count_less (x ∷ table) zero there idle = let first : open_in x ≡ 0 = ap open_in idle in omega (arith, sum_by-cons open_in x table, first, count_most table)
count_less (x ∷ table) (suc k) there idle = omega (arith, sum_by-cons open_in x table, one_open x, count_less table k (omega arith) idle)

-- where a session is idle fewer transactions are open than there are sessions
pub told_room : (txns : List Txn) (table : List (Option Holding)) (k : ℕ) → k < length table → held table k ≡ None → Tells txns table → length txns < length table
told_room txns table k there idle tells = omega (arith, told_count txns table tells, count_less table k there idle)

-- ---- the least number

-- no session holds a transaction below this number
abbrev pub AllFrom : ℕ → List (Option Holding) → Type 0
AllFrom n table = (j : ℕ) (h : Holding) → held table j ≡ Some h → n ≤ h.number

-- the best so far is not below this number
abbrev pub BestFrom : ℕ → Option ℕ → Type 0
BestFrom n None = Unit {0}
BestFrom n (Some m) = n ≤ m

from_lesser : (n : ℕ) (best : Option ℕ) (x : Option Holding) → BestFrom n best → ((h : Holding) → x ≡ Some h → n ≤ h.number) → BestFrom n (lesser best x)
from_lesser n None None b f = tt
from_lesser n (Some m) None b f = b
from_lesser n None (Some h) b f = f h refl
from_lesser n (Some m) (Some h) b f = omega (arith, b, f h refl)

lesser_least : (n : ℕ) (x : Option Holding) → ((h : Holding) → x ≡ Some h → n ≤ h.number) → lesser (Some n) x ≡ Some n
lesser_least n None f = refl
lesser_least n (Some h) f = let e : min n h.number ≡ n = omega (arith, f h refl) in ap (λ m. Some m) e

lesser_is : (n : ℕ) (best : Option ℕ) (h : Holding) → BestFrom n best → h.number ≡ n → lesser best (Some h) ≡ Some n
lesser_is n None h b e = ap (λ m. Some m) e
lesser_is n (Some m) h b e = let f : min m h.number ≡ n = omega (arith, b, e) in ap (λ k. Some k) f

fold_least : (n : ℕ) (table : List (Option Holding)) → AllFrom n table → fold lesser (Some n) table ≡ Some n
fold_least n [] each = refl
fold_least n (x ∷ table) each = ap (λ (b : Option ℕ). fold lesser b table) (lesser_least n x (λ h e. each 0 h e)) ∙ fold_least n table (λ j h e. each (suc j) h e)

fold_found : (n : ℕ) (best : Option ℕ) (table : List (Option Holding)) (i : ℕ) (h : Holding) → BestFrom n best → AllFrom n table → held table i ≡ Some h → h.number ≡ n → fold lesser best table ≡ Some n
fold_found n best [] i h b each e is = absurd (let c : None ≡ Some h = e in cc)
fold_found n best (x ∷ table) zero h b each e is =
    let first : x ≡ Some h = e in
    ap (λ (y : Option Holding). fold lesser (lesser best y) table) first ∙ ap (λ (c : Option ℕ). fold lesser c table) (lesser_is n best h b is) ∙ fold_least n table (λ j g f. each (suc j) g f)
fold_found n best (x ∷ table) (suc i) h b each e is = fold_found n (lesser best x) table i h (from_lesser n best x b (λ g f. each 0 g f)) (λ j g f. each (suc j) g f) e is

idle_low : (table : List (Option Holding)) → IsIdle table → low_in table ≡ None
idle_low [] idle = refl
idle_low (x ∷ table) idle = let first : x ≡ None = idle 0 in ap (λ (y : Option Holding). fold lesser (lesser None y) table) first ∙ idle_low table (idle_rest x table idle)

all_from : (t : Txn) (txns : List Txn) (table : List (Option Holding)) (i : ℕ) (h : Holding) → held table i ≡ Some h → IsOf h t → Ascending (t ∷ txns) → Tells txns (slice_set table i None) → AllFrom t.number table
all_from t txns table i h e is asc tells j g f =
    elim (eqb_tells j i) [
      | inl same ↦ omega (arith, is.number, ap (λ (x : Holding). x.number) (one_held table j i g h f e same.1))
      | inr other ↦ (let above : t.number < g.number = number_of (λ m. t.number < m) txns (slice_set table i None) j g asc.0 (get_or-set_other table i j None None other.1 ∙ f) tells in omega (arith, above))
    ]

pub told_low : (txns : List Txn) (table : List (Option Holding)) → Ascending txns → Tells txns table → low_in table ≡ first_number txns
told_low [] table asc tells = idle_low table tells
told_low (t ∷ txns) table asc (i, h, e, is, tells) = fold_found t.number None table i h tt (all_from t txns table i h e is asc tells) e is.number

pub first_low : (txns : List Txn) (last : ℕ) → unwrap_or (first_number txns) (last + 1) ≡ low_of txns last
first_low [] last = refl
first_low (t ∷ txns) last = refl
