-- A table that tells what the sessions hold answers as the machine does: who holds a slot, and which slots are free.
use Rattle.std.specs.List.{list_any, range_with_len}
use Rattle.std.specs.Prelude.{Bool, List, None, Option, Some, [], cond, false, find, is_none, is_some, length, map, not, option_map, refl, slice_index_or, suc, true, unwrap_or, zero, ℕ, ◌&&◌, ◌+◌, ◌-◌, ◌<◌, ◌==◌, ◌||◌, ◌∷◌, ◌≡◌, ◌≤◌}
use Rattle.std.proofs.Common.{ap, arith, subst, sym, ◌∙◌}
use Rattle.std.proofs.lemmas.List.FromFn.{get_or-map-range_with_len}
use Rattle.ol_values.specs.declared.record.Rid.{Rid}
use Rattle.ol_values.specs.Pages.{rid_of}
use Rattle.ol_rules.specs.Journal.{same_place}
use Rattle.ol_rules.specs.Locks.{Holding, holder_of, holding_of, in_way, least_other, is_locked as is_locked_in, owns as owns_in, shares as shares_in}
use Rattle.ol_rules.specs.Transactions.{Txn}
use Rattle.ol_model.specs.Machine.{Machine, config_of, first_free, holder, is_locked, owns, row_in, seat_of, shares, slots_of, txn_at, txn_of}
use Rattle.ol_model.specs.SessionTurns.{page_holder}
use Rattle.ol_turn_laws.specs.Room.{Regular}
use Rattle.ol_turn_laws.specs.Tables.{IsHeld, TellsSessions, holding_with, table_in}

-- ---- tests that agree

-- two tests agree at so many numbers from one on
abbrev Agree : (ℕ → Bool) → (ℕ → Bool) → ℕ → ℕ → Type 0
Agree p q a n = (k : ℕ) → a ≤ k → k < a + n → p k ≡ q k

find_same : (p q : ℕ → Bool) (a n : ℕ) → Agree p q a n → find p (range_with_len a n) ≡ find q (range_with_len a n)
find_same p q a zero same = refl
find_same p q a (suc n) same =
    let rest : find p (range_with_len (a + 1) n) ≡ find q (range_with_len (a + 1) n) = find_same p q (a + 1) n (λ k from to. same k (omega (arith, from)) (omega (arith, to))) in
    ap (λ b. cond b (Some a) (find p (range_with_len (a + 1) n))) (same a (omega arith) (omega arith)) ∙ ap (λ r. cond (q a) (Some a) r) rest

-- a list whose entries are tested, and their numbers from one on
any_numbered : {A : Type 0} (f : A → Bool) (none : A) (q : ℕ → Bool) (l : List A) (a : ℕ) → Agree (λ k. f (slice_index_or l (k - a) none)) q a (length l)
    → list_any f l ≡ list_any q (range_with_len a (length l))
any_numbered f none q [] a same = refl
any_numbered f none q (x ∷ l) a same =
    let first : f x ≡ q a = ap (λ i. f (slice_index_or (x ∷ l) i none)) (let e : 0 ≡ a - a = omega arith in e) ∙ same a (omega arith) (omega arith) in
    let rest : list_any f l ≡ list_any q (range_with_len (a + 1) (length l)) =
    any_numbered f none q l (a + 1)
    (λ k from to. ap (λ i. f (slice_index_or (x ∷ l) i none)) (let e : suc (k - (a + 1)) ≡ k - a = omega (arith, from) in e) ∙ same k (omega (arith, from)) (omega (arith, to))) in
    ap (λ b. b || list_any f l) first ∙ ap (λ r. q a || r) rest

-- ---- one session

owns_same : (h : Option Holding) (t : Option Txn) (shares : List Rid) (rid : Rid) → IsHeld h t shares → owns_in rid h ≡ list_any (same_place rid) (unwrap_or (option_map (λ (u : Txn). u.changed) t) [])
owns_same None None shares rid e = refl
owns_same (Some h) (Some t) shares rid e = e.owned rid
owns_same None (Some t) shares rid e = absurd e
owns_same (Some h) None shares rid e = absurd e

shares_same : (h : Option Holding) (t : Option Txn) (shares : List Rid) (rid : Rid) → IsHeld h t shares → shares_in rid h ≡ list_any (same_place rid) shares
shares_same None None shares rid e = ap (λ (l : List Rid). list_any (same_place rid) l) (sym e)
shares_same (Some h) (Some t) shares rid e = e.shared rid
shares_same None (Some t) shares rid e = absurd e
shares_same (Some h) None shares rid e = absurd e

-- ---- the table and the machine

table_owns : (m : Machine) (table : List (Option Holding)) (rid : Rid) → TellsSessions m table → Agree (λ k. owns_in rid (holding_of table k)) (λ k. owns m k rid) 1 16
table_owns m table rid t = λ k from to. owns_same (holding_of table k) (txn_at m k) (seat_of m k).shares rid (t.sessions k from (omega (arith, to)))

table_shares : (m : Machine) (table : List (Option Holding)) (rid : Rid) → TellsSessions m table → Agree (λ k. shares_in rid (holding_of table k)) (λ k. shares m k rid) 1 16
table_shares m table rid t = λ k from to. shares_same (holding_of table k) (txn_at m k) (seat_of m k).shares rid (t.sessions k from (omega (arith, to)))

pub same_holder : (m : Machine) (table : List (Option Holding)) (k : ℕ) (own : Bool) (rid : Rid) → TellsSessions m table → holder_of table k rid own ≡ holder m k own rid
unfolding least_other
same_holder m table k own rid t =
    find_same (λ j. not (j == k) && in_way own rid (holding_of table j)) (λ j. not (j == k) && (owns m j rid || (own && shares m j rid))) 1 16
    (λ j from to. ap (λ b. not (j == k) && (b || (own && shares_in rid (holding_of table j)))) (table_owns m table rid t j from to)
    ∙ ap (λ b. not (j == k) && (owns m j rid || (own && b))) (table_shares m table rid t j from to))

pub same_locked : (m : Machine) (table : List (Option Holding)) (rid : Rid) → TellsSessions m table → is_locked_in table rid ≡ is_locked m rid
same_locked m table rid t =
    any_numbered (λ h. owns_in rid h || shares_in rid h) None (λ j. owns m j rid || shares m j rid) table 1
    (λ j from to. (let within : j < 1 + 16 = omega (arith, to, t.sixteen) in
    ap (λ b. b || shares_in rid (holding_of table j)) (table_owns m table rid t j from within) ∙ ap (λ b. owns m j rid || b) (table_shares m table rid t j from within)))
    ∙ ap (λ n. list_any (λ j. owns m j rid || shares m j rid) (range_with_len 1 n)) t.sixteen

-- the first empty slot that carries no lock, among these
pub same_free : (m : Machine) (table : List (Option Holding)) (l : List Rid) → TellsSessions m table
    → find (λ r. is_none (row_in m r) && not (is_locked_in table r)) l ≡ find (λ r. is_none (row_in m r) && not (is_locked m r)) l
same_free m table l t = ap (λ test. find test l) (λ i r. is_none (row_in m r) && not (same_locked m table r t i))

pub same_first_free : (m : Machine) (table : List (Option Holding)) (space : ℕ) → TellsSessions m table
    → find (λ r. is_none (row_in m r) && not (is_locked_in table r)) (slots_of (config_of m) space) ≡ first_free m space
unfolding first_free
same_first_free m table space t = same_free m table (slots_of (config_of m) space) t

pub same_page_holder : (m : Machine) (table : List (Option Holding)) (k space page : ℕ) → TellsSessions m table
    → least_other (λ j. list_any (λ rid. owns_in rid (holding_of table j)) (map (rid_of space page) (range_with_len 0 31))) k ≡ page_holder m k space page
unfolding least_other
same_page_holder m table k space page t =
    let rids = map (rid_of space page) (range_with_len 0 31) in
    find_same (λ j. not (j == k) && list_any (λ rid. owns_in rid (holding_of table j)) rids) (λ j. not (j == k) && list_any (owns m j) rids) 1 16
    (λ j from to. ap (λ test. not (j == k) && list_any test rids) (λ i rid. table_owns m table rid t j from to i))

-- ---- the table of the machine itself

held_itself : (t : Option Txn) (shares : List Rid) → (t ≡ None → shares ≡ []) → IsHeld (option_map (holding_with shares) t) t shares
held_itself None shares idle = idle refl
held_itself (Some t) shares idle = record { number = refl; pending = refl; undone = refl; owned = λ rid. refl; shared = λ rid. refl }

-- a session without an open transaction shares nothing
none_shared : (m : Machine) (k : ℕ) → Regular m → txn_at m k ≡ None → (seat_of m k).shares ≡ []
none_shared m k h none = go (seat_of m k).txn refl
  where
    go : (o : Option ℕ) → (seat_of m k).txn ≡ o → (seat_of m k).shares ≡ []
    go None is = h.idle k is
    go (Some n) is =
        let found : is_some (txn_at m k) ≡ true = ap (λ (o : Option ℕ). is_some (txn_of m o)) is ∙ h.orderly.sessions k n is in
        absurd (let never : false ≡ true = ap (λ (o : Option Txn). is_some o) (sym none) ∙ found in cc)

pub table_tells : (m : Machine) → Regular m → TellsSessions m (table_in m)
table_tells m h = record {
  sixteen = refl;
  sessions = λ k from to. subst (λ (o : Option Holding). IsHeld o (txn_at m k) (seat_of m k).shares)
      (sym (get_or-map-range_with_len (λ j. option_map (holding_with (seat_of m j).shares) (txn_at m j)) 1 16 (k - 1) k None (omega (arith, from, to)) (omega (arith, from))))
      (held_itself (txn_at m k) (seat_of m k).shares (none_shared m k h));
}
