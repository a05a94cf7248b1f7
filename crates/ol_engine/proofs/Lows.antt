-- The least number of an open transaction, by the lock table.
use Rattle.std.specs.Option.{unwrap_or}
use Rattle.std.specs.Prelude.{List, None, Option, Some, [], fold, min, suc, zero, ℕ, ◌+◌, ◌<◌, ◌∷◌, ◌≡◌, ◌≤◌}
use Rattle.std.proofs.Common.{ap, arith, refl, subst, sym, ◌∙◌}
use Rattle.ol_rules.specs.Locks.{Holding, lesser, low_in}
use Rattle.ol_rules.specs.Transactions.{Ascending}
use Rattle.ol_model.specs.Machine.{Machine, last_of, low_in as low_of_machine, txns_in}
use Rattle.ol_storage.specs.Installation.{Installation}
use Rattle.ol_txn.specs.Seats.{Seat, table_of}
use Rattle.ol_txn.specs.Telling.{held}
use Rattle.ol_txn.proofs.TellingLaws.{first_low, told_low}
use Rattle.ol_engine.specs.Parts.{HasTurns, Registers, Shows, last_in, need_of}

-- the best so far is one that is at most this
abbrev IsAtMost : Option ℕ → ℕ → Type 0
IsAtMost None n = ⊥
IsAtMost (Some l) n = l ≤ n

-- the best so far, if any, lies between these
abbrev IsWithin : ℕ → ℕ → Option ℕ → Type 0
IsWithin a b None = Unit {0}
IsWithin a b (Some n) = (a ≤ n) × (n ≤ b)

lesser_most : (best : Option ℕ) (x : Option Holding) (n : ℕ) → IsAtMost best n → IsAtMost (lesser best x) n
lesser_most None x n is = absurd is
lesser_most (Some l) None n is = is
lesser_most (Some l) (Some h) n is = omega (arith, is)

fold_most : (table : List (Option Holding)) (best : Option ℕ) (n : ℕ) → IsAtMost best n → IsAtMost (fold lesser best table) n
fold_most [] best n is = is
fold_most (x ∷ table) best n is = fold_most table (lesser best x) n (lesser_most best x n is)

lesser_held : (best : Option ℕ) (h : Holding) → IsAtMost (lesser best (Some h)) h.number
lesser_held None h = omega arith
lesser_held (Some l) h = omega arith

least_held : (table : List (Option Holding)) (best : Option ℕ) (i : ℕ) (h : Holding) → held table i ≡ Some h → IsAtMost (fold lesser best table) h.number
least_held [] best i h e = absurd (let c : None ≡ Some h = e in cc)
least_held (x ∷ table) best zero h e =
    let first : x ≡ Some h = e in
    fold_most table (lesser best x) h.number (subst (λ (y : Option Holding). IsAtMost (lesser best y) h.number) (sym first) (lesser_held best h))
least_held (x ∷ table) best (suc i) h e = least_held table (lesser best x) i h e

lesser_within : (a b : ℕ) (best : Option ℕ) (x : Option Holding) → ((h : Holding) → x ≡ Some h → (a ≤ h.number) × (h.number ≤ b)) → IsWithin a b best → IsWithin a b (lesser best x)
lesser_within a b None None each is = tt
lesser_within a b (Some n) None each is = is
lesser_within a b None (Some h) each is = each h refl
lesser_within a b (Some n) (Some h) each (from, to) = let new = each h refl in (omega (arith, from, new.0), omega (arith, to, new.1))

least_within : (a b : ℕ) (table : List (Option Holding)) (best : Option ℕ) → ((i : ℕ) (h : Holding) → held table i ≡ Some h → (a ≤ h.number) × (h.number ≤ b)) → IsWithin a b best → IsWithin a b (fold lesser best table)
least_within a b [] best each is = is
least_within a b (x ∷ table) best each is = least_within a b table (lesser best x) (λ i h e. each (suc i) h e) (lesser_within a b best x (λ h e. each 0 h e) is)

most_or : (o : Option ℕ) (n d : ℕ) → IsAtMost o n → unwrap_or o d ≤ n
most_or None n d is = absurd is
most_or (Some l) n d is = is

within_or : (o : Option ℕ) (a b d : ℕ) → IsWithin a b o → a ≤ d → b < d → (a ≤ unwrap_or o d) × (unwrap_or o d ≤ d)
within_or None a b d is low high = (low, omega arith)
within_or (Some n) a b d is low high = (is.0, omega (arith, is.1, high))

-- no open transaction is below the need
pub need_least : (v : Installation) (seats : List Seat) (i : ℕ) (h : Holding) → held (table_of seats) i ≡ Some h → need_of v seats ≤ h.number
need_least v seats i h e = most_or (low_in (table_of seats)) h.number v.ring.state.next (least_held (table_of seats) None i h e)

-- the need of the last checkpoint is not above it, and it is at most the position behind the last record
pub need_within : (opened : ℕ) (v : Installation) (seats : List Seat) → 1 ≤ v.ring.state.next → HasTurns opened v seats → (v.anchor.need ≤ need_of v seats) × (need_of v seats ≤ v.ring.state.next)
need_within opened v seats some turns =
    within_or (low_in (table_of seats)) v.anchor.need (last_in v) v.ring.state.next (least_within v.anchor.need (last_in v) (table_of seats) None turns.numbers tt) turns.need (omega (arith, some))

-- it is the machine's
pub need_is : (opened : ℕ) (v : Installation) (seats : List Seat) (registers : Registers) (m : Machine) → Shows opened v seats registers m → Ascending (txns_in m) → need_of v seats ≡ low_of_machine m
need_is opened v seats registers m shows order =
    ap (λ (n : ℕ). unwrap_or (low_in (table_of seats)) n) shows.storage.next
    ∙ ap (λ (o : Option ℕ). unwrap_or o (last_of m + 1)) (told_low (txns_in m) (table_of seats) order shows.sessions.tells)
    ∙ first_low (txns_in m) (last_of m)
