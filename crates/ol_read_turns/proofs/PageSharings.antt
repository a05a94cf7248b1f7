-- The slots of a page are shared one after the other: what the session has then, and that none is in its way.
use Rattle.std.specs.List.{range_with_len}
use Rattle.std.specs.Prelude.{Bool, IsSome, List, None, Option, Some, cond, false, find, if◌then◌else◌, length, not, suc, true, zero, ℕ, ◌&&◌, ◌+◌, ◌-◌, ◌<◌, ◌==◌, ◌≡◌, ◌≤◌}
use Rattle.std.proofs.Common.{ap, arith, inl, inr, refl, subst, sym, ◌∙◌}
use Rattle.std.proofs.lemmas.Bool.Decides.{eqb_tells}
use Rattle.std.proofs.lemmas.List.{get_or-set_other, length-set, map-set, set-get_or}
use Rattle.ol_values.specs.declared.record.Rid.{Rid}
use Rattle.ol_values.specs.Pages.{rid_of}
use Rattle.ol_rules.specs.Locks.{Holding, holder_of, holding_of, in_way, least_other, shares}
use Rattle.ol_txn.specs.Seats.{HasTxn, IsSession, Seat, empty_seat, filled, reserved_seat, seat_of, sharing, table_of, with_seat}
use Rattle.ol_txn.proofs.TellingLaws.{unchanged}
use Rattle.ol_txn.proofs.TellingSeats.{seat_again, seat_read}
use Rattle.ol_engine.proofs.Tables.{held_seat}
use Rattle.ol_read_turns.specs.PageSlots.{full_among, page_owner, shared_if}
use Rattle.ol_read_turns.specs.Sharing.{shared_all}
use Rattle.ol_read_turns.proofs.PageBits.{shared_none, shared_one_more}
use Rattle.ol_read_turns.proofs.PageOwners.{owner_apart}
use Rattle.ol_read_turns.proofs.Sharings.{more_some}

-- ---- another seat of the session leaves the others in its way

find_same : (p q : ℕ → Bool) (a n : ℕ) → ((j : ℕ) → a ≤ j → p j ≡ q j) → find p (range_with_len a n) ≡ find q (range_with_len a n)
find_same p q a zero same = refl
find_same p q a (suc n) same =
    ap (λ b. cond b (Some a) (find p (range_with_len (a + 1) n))) (same a (omega arith))
    ∙ ap (λ r. cond (q a) (Some a) r) (find_same p q (a + 1) n (λ j from. same j (omega (arith, from))))

others_held : (seats : List Seat) (k j : ℕ) (s : Seat) → 1 ≤ k → 1 ≤ j → (j ≡ k → ⊥) → holding_of (table_of (with_seat seats k s)) j ≡ holding_of (table_of seats) j
others_held seats k j s from_k from_j other =
    ap (λ (t : List (Option Holding)). holding_of t j) (map-set (λ (u : Seat). u.holding) seats (k - 1) s)
    ∙ get_or-set_other (table_of seats) (k - 1) (j - 1) s.holding None (λ same. other (omega (arith, same, from_k, from_j)))

pub same_holder : (seats : List Seat) (k : ℕ) (s : Seat) (rid : Rid) (own : Bool) → 1 ≤ k → holder_of (table_of (with_seat seats k s)) k rid own ≡ holder_of (table_of seats) k rid own
unfolding least_other
same_holder seats k s rid own from_k =
    find_same (λ j. not (j == k) && in_way own rid (holding_of (table_of (with_seat seats k s)) j)) (λ j. not (j == k) && in_way own rid (holding_of (table_of seats) j)) 1 16
    (λ j from. elim (eqb_tells j k) [
      | inl here ↦ ap (λ b. not b && in_way own rid (holding_of (table_of (with_seat seats k s)) j)) here.0 ∙ ap (λ b. not b && in_way own rid (holding_of (table_of seats) j)) (sym here.0)
      | inr other ↦ ap (λ h. not (j == k) && in_way own rid h) (others_held seats k j s from_k from other.1)
    ])

-- ---- one slot

if_some : (b : Bool) (rid : Rid) (s : Seat) → IsSome s.holding → IsSome (shared_if b rid s).holding
if_some true rid s some = more_some rid s some
if_some false rid s some = some

-- it takes at most one place
if_spare : (b : Bool) (rid : Rid) (s : Seat) → s.spare ≤ (shared_if b rid s).spare + 1
if_spare false rid s = omega arith
if_spare true rid s = elim (shares rid s.holding) as (λ b. s.spare ≤ (if b then s else filled (sharing rid) s).spare + 1) [ true ↦ omega arith | false ↦ omega arith ]

pub same_seats : (seats : List Seat) (k : ℕ) → with_seat seats k (seat_of seats k) ≡ seats
same_seats seats k = set-get_or seats (k - 1) empty_seat

-- ---- the slots of a page

-- the session has shared so many slots of the page, and has places for the others
pub record IsShared (old now : List Seat) (k space page slot : ℕ) (full : Rid → Bool) : Type 0 where
  pub some : HasTxn now k
  pub alone : (n : ℕ) → n < 31 → holder_of (table_of now) k (rid_of space page n) false ≡ None
  pub places : 30 < (seat_of now k).spare + slot
  pub shared : now ≡ with_seat old k (shared_all (full_among full space page slot) (seat_of old k))

pub shared_first : (seats : List Seat) (k space page : ℕ) (full : Rid → Bool) → HasTxn seats k → page_owner (table_of seats) k space page 31 ≡ None → 30 < (seat_of seats k).spare → IsShared seats seats k space page 0 full
shared_first seats k space page full some none places = record {
  some = some;
  alone = λ n there. owner_apart (table_of seats) k space page 31 n none there;
  places = omega (arith, places);
  shared = sym (ap (λ (s : Seat). with_seat seats k s) (shared_none full space page (seat_of seats k)) ∙ same_seats seats k);
}

pub shared_step : (old now new : List Seat) (k space page slot : ℕ) (full : Rid → Bool) (b : Bool) → length now ≡ 16 → IsSession k → b ≡ full (rid_of space page slot) → new ≡ with_seat now k (shared_if b (rid_of space page slot) (seat_of now k)) → IsShared old now k space page slot full
    → IsShared old new k space page (slot + 1) full
shared_step old now new k space page slot full b sixteen session is step before = subst (λ (l : List Seat). IsShared old l k space page (slot + 1) full) (sym step) record {
  some = subst (λ (u : Seat). IsSome u.holding) (sym read) (if_some b rid (seat_of now k) before.some);
  alone = λ n there. same_holder now k s (rid_of space page n) false session.0 ∙ before.alone n there;
  places = omega (arith, ap (λ (u : Seat). u.spare) read, if_spare b rid (seat_of now k), before.places);
  shared =
      ap (λ (l : List Seat). with_seat l k s) before.shared
      ∙ seat_again old k first s
      ∙ ap (λ (u : Seat). with_seat old k (shared_if b rid u)) (ap (λ (l : List Seat). seat_of l k) before.shared ∙ seat_read old k first long session)
      ∙ ap (λ c. with_seat old k (shared_if c rid first)) is
      ∙ ap (λ (u : Seat). with_seat old k u) (sym (shared_one_more full space page slot (seat_of old k)));
}
  where
    rid : Rid
    rid = rid_of space page slot

    s : Seat
    s = shared_if b rid (seat_of now k)

    first : Seat
    first = shared_all (full_among full space page slot) (seat_of old k)

    long : length old ≡ 16
    long = sym (length-set old (k - 1) first) ∙ sym (ap length before.shared) ∙ sixteen

    read : seat_of (with_seat now k s) k ≡ s
    read = seat_read now k s sixteen session

-- ---- room is made first

pub reserved_table : (seats : List Seat) (k n : ℕ) → table_of (with_seat seats k (reserved_seat n (seat_of seats k))) ≡ table_of seats
reserved_table seats k n = map-set (λ (u : Seat). u.holding) seats (k - 1) (reserved_seat n (seat_of seats k)) ∙ unchanged (table_of seats) (k - 1) (seat_of seats k).holding (held_seat seats k)

pub reserved_owner : (old mid : List Seat) (k n space page : ℕ) → mid ≡ with_seat old k (reserved_seat n (seat_of old k)) → page_owner (table_of old) k space page 31 ≡ None → page_owner (table_of mid) k space page 31 ≡ None
reserved_owner old mid k n space page made none = ap (λ (t : List (Option Holding)). page_owner t k space page 31) (ap table_of made ∙ reserved_table old k n) ∙ none

pub reserved_shared : (old mid new : List Seat) (k : ℕ) (s : Seat) (rids : List Rid) → length old ≡ 16 → IsSession k → mid ≡ with_seat old k s → new ≡ with_seat mid k (shared_all rids (seat_of mid k)) → new ≡ with_seat old k (shared_all rids s)
reserved_shared old mid new k s rids sixteen session made shared =
    shared
    ∙ ap (λ (l : List Seat). with_seat l k (shared_all rids (seat_of l k))) made
    ∙ ap (λ (u : Seat). with_seat (with_seat old k s) k (shared_all rids u)) (seat_read old k s sixteen session)
    ∙ seat_again old k s (shared_all rids s)
