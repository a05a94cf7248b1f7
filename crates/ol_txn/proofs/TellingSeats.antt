-- What the turns of a session make of the seats and the open transactions, and which records the seats permit.
use Rattle.std.specs.List.{list_any, range_with_len}
use Rattle.std.specs.Option.{option_map}
use Rattle.std.specs.Prelude.{Bool, List, None, Option, Some, [], drop, false, find, if◌then◌else◌, length, not, refl, replicate, slice_get, slice_set, true, ℕ, ◌&&◌, ◌++◌, ◌+◌, ◌-◌, ◌<◌, ◌==◌, ◌||◌, ◌∷◌, ◌≡◌}
use Rattle.std.proofs.Common.{ap, arith, eq-eqb, inl, inr, ne_eqb, subst, suc, sym, zero, ◌∙◌}
use Rattle.std.proofs.Math.Bool.{or_comm}
use Rattle.std.proofs.lemmas.Bool.{cases_Bool, or_parts, or_right}
use Rattle.std.proofs.lemmas.Bool.Decides.{eqb_tells}
use Rattle.std.proofs.lemmas.List.{get_or-set_same, length-map, map-set, set-set}
use Rattle.std.proofs.lemmas.List.Folds.{list_any-append}
use Rattle.ol_values.specs.declared.record.Record.{Record}
use Rattle.ol_values.specs.declared.record.Record.TheVariants.{Begin as BeginRecord, Change, Commit as CommitRecord, Rolled, Undo}
use Rattle.ol_values.specs.declared.record.Rid.{Rid}
use Rattle.ol_values.specs.declared.row.Row.{Row}
use Rattle.ol_values.specs.Config.{Config, has_place}
use Rattle.ol_rules.specs.Journal.{same_place}
use Rattle.ol_rules.specs.Locks.{Holding, holder_of, holding_of, in_way, is_among, least_other, owns, shares}
use Rattle.ol_rules.specs.Sound.{Before, IsNewChange, IsNewUndo, IsOne, Meets, Sound, is_free_for, start}
use Rattle.ol_rules.specs.Transactions.{Ascending, Txn, begun as begun_txn, open_at, txn_numbered, txns_after, with_change, with_undo, without_txn}
use Rattle.ol_laws.proofs.Found.{one_as}
use Rattle.ol_laws.proofs.LockLaws.{same_place_is}
use Rattle.ol_laws.proofs.SoundLaws.{fine, txns_of}
use Rattle.ol_laws.proofs.TxnLaws.{distinct}
use Rattle.ol_txn.specs.Seats.{IsSession, Seat, begun, begun_seat, changing, empty_seat, filled, forgotten_seat, last_of, no_locks, noted_seat, owned_more, owning, pending_of, reserved_seat, seat_of, shared_more, sharing, table_of, undoing, undone_seat, with_seat}
use Rattle.ol_txn.specs.Telling.{IsOf, MayChange, Tells, held}
use Rattle.ol_txn.proofs.SeatLaws.{holding_at}
use Rattle.ol_txn.proofs.TellingLaws.{all_told, held_open, one_held, tells_begun, tells_ended, tells_kept, tells_step, told_room, unchanged, within}

-- ---- seats and the table

-- what is told of the table with another holding is told of the seats with another seat
seat_told : (txns : List Txn) (seats : List Seat) (k : ℕ) (s : Seat) (v : Option Holding) → s.holding ≡ v → Tells txns (slice_set (table_of seats) (k - 1) v) → Tells txns (table_of (with_seat seats k s))
seat_told txns seats k s v e told =
    subst (λ (l : List (Option Holding)). Tells txns l) (ap (λ w. slice_set (table_of seats) (k - 1) w) (sym e) ∙ sym (map-set (λ (u : Seat). u.holding) seats (k - 1) s)) told

-- a seat that holds what it held leaves the table
same_table : (seats : List Seat) (k : ℕ) (s : Seat) → s.holding ≡ (seat_of seats k).holding → table_of (with_seat seats k s) ≡ table_of seats
same_table seats k s e = map-set (λ (u : Seat). u.holding) seats (k - 1) s ∙ unchanged (table_of seats) (k - 1) s.holding (holding_at seats k ∙ sym e)

same_told : (txns : List Txn) (seats : List Seat) (k : ℕ) (s : Seat) → s.holding ≡ (seat_of seats k).holding → Tells txns (table_of seats) → Tells txns (table_of (with_seat seats k s))
same_told txns seats k s e told = subst (λ (l : List (Option Holding)). Tells txns l) (sym (same_table seats k s e)) told

seat_there : (seats : List Seat) (k : ℕ) → length seats ≡ 16 → IsSession k → k - 1 < length (table_of seats)
seat_there seats k long is = omega (arith, long, is.0, is.1, length-map seats (λ (u : Seat). u.holding))

none_at : (n i : ℕ) → held (table_of (replicate n empty_seat)) i ≡ None
none_at zero i = refl
none_at (suc n) zero = refl
none_at (suc n) (suc i) = none_at n i

pub told_none : Tells [] (table_of no_locks)
told_none i = none_at 16 i

-- ---- a transaction begins and ends

of_begun : (n : ℕ) → IsOf (begun n) (begun_txn n)
of_begun n = record { number = refl; pending = refl; undone = refl; owned = λ rid. refl }

pub told_begin : (txns : List Txn) (seats : List Seat) (k n : ℕ) → length seats ≡ 16 → IsSession k → (seat_of seats k).holding ≡ None → Tells txns (table_of seats)
    → Tells (txns_after txns (BeginRecord n)) (table_of (with_seat seats k (begun_seat n (seat_of seats k))))
told_begin txns seats k n long is idle told =
    seat_told (txns ++ begun_txn n ∷ []) seats k (begun_seat n (seat_of seats k)) (Some (begun n)) refl
    (tells_begun txns (table_of seats) (k - 1) (begun_txn n) (begun n) (seat_there seats k long is) (holding_at seats k ∙ idle) (of_begun n) told)

pub told_end : (txns : List Txn) (seats : List Seat) (k n : ℕ) (h : Holding) → Ascending txns → (seat_of seats k).holding ≡ Some h → h.number ≡ n → Tells txns (table_of seats)
    → Tells (without_txn n txns) (table_of (with_seat seats k (forgotten_seat (seat_of seats k))))
told_end txns seats k n h asc e is told =
    seat_told (without_txn n txns) seats k (forgotten_seat (seat_of seats k)) None refl (tells_ended n txns (table_of seats) (k - 1) h (distinct txns asc) is (holding_at seats k ∙ e) told)

-- ---- a change and an undo

-- a place is among those changed where it is the new one or was among them
more_owned : (place rid : Rid) (rids changed : List Rid) → is_among place rids ≡ list_any (same_place place) changed → is_among place (rids ++ rid ∷ []) ≡ list_any (same_place place) (rid ∷ changed)
more_owned place rid rids changed e =
    list_any-append (same_place place) rids (rid ∷ [])
    ∙ ap (λ b. b || list_any (same_place place) (rid ∷ [])) e
    ∙ or_comm (list_any (same_place place) changed) (list_any (same_place place) (rid ∷ []))
    ∙ ap (λ b. b || list_any (same_place place) changed) (or_comm (same_place place rid) false)

-- a place that was owned stays so
owned_still : (place rid : Rid) (rids changed : List Rid) → is_among rid rids ≡ true → is_among place rids ≡ list_any (same_place place) changed → is_among place rids ≡ list_any (same_place place) (rid ∷ changed)
owned_still place rid rids changed has e =
    elim (cases_Bool (same_place place rid)) [
      | inl same ↦ rw (same) (subst (λ (r : Rid). is_among r rids ≡ true) (sym (same_place_is place rid same)) has)
      | inr other ↦ rw (other) e
    ]

of_changed : (rid : Rid) (before : Option Row) (h g : Holding) (t : Txn) → g.number ≡ h.number → g.pending ≡ h.pending → g.undone ≡ h.undone
    → ((place : Rid) → is_among place h.owned ≡ list_any (same_place place) t.changed → is_among place g.owned ≡ list_any (same_place place) (rid ∷ t.changed))
    → IsOf h t → IsOf (changing (let p : Rid × Option Row = (rid, before) in p) g) (with_change rid before t)
of_changed rid before h g t number pending undone owned is = record {
  number = number ∙ is.number;
  pending = ap (λ (l : List (Rid × Option Row)). (let p : Rid × Option Row = (rid, before) in p) ∷ l) (pending ∙ is.pending);
  undone = undone ∙ is.undone;
  owned = λ place. owned place (is.owned place);
}

pub told_change : (txns : List Txn) (seats : List Seat) (k n : ℕ) (h : Holding) (rid : Rid) (before after : Option Row) → Ascending txns → (seat_of seats k).holding ≡ Some h → h.number ≡ n → Tells txns (table_of seats)
    → Tells (txns_after txns (Change n rid before after)) (table_of (with_seat seats k (noted_seat (rid, before) (owned_more rid (seat_of seats k)))))
told_change txns seats k n h rid before after asc e is told =
    let s = seat_of seats k in
    let p : Rid × Option Row = (rid, before) in
    elim (cases_Bool (owns rid s.holding)) [
      | inl has ↦ (let g : Holding = changing p h in
          let owned : is_among rid h.owned ≡ true = subst (λ (o : Option Holding). owns rid o ≡ true) e has in
          let seat : (noted_seat p (owned_more rid s)).holding ≡ Some g = rw (has, e) refl in
          seat_told (txns_after txns (Change n rid before after)) seats k (noted_seat p (owned_more rid s)) (Some g) seat
          (tells_step n (with_change rid before) txns (table_of seats) (k - 1) h g
          (λ t of. of_changed rid before h h t refl refl refl (λ place f. owned_still place rid h.owned t.changed owned f) of) (distinct txns asc) is (holding_at seats k ∙ e) told))
      | inr new ↦ (let g : Holding = changing p (owning rid h) in
          let seat : (noted_seat p (owned_more rid s)).holding ≡ Some g = rw (new, e) refl in
          seat_told (txns_after txns (Change n rid before after)) seats k (noted_seat p (owned_more rid s)) (Some g) seat
          (tells_step n (with_change rid before) txns (table_of seats) (k - 1) h g
          (λ t of. of_changed rid before h (owning rid h) t refl refl refl (λ place f. more_owned place rid h.owned t.changed f) of) (distinct txns asc) is (holding_at seats k ∙ e) told))
    ]

of_undone : (h : Holding) (t : Txn) → IsOf h t → IsOf (undoing h) (with_undo t)
of_undone h t is = record { number = is.number; pending = ap (λ (l : List (Rid × Option Row)). drop 1 l) is.pending; undone = refl; owned = is.owned }

pub told_undo : (txns : List Txn) (seats : List Seat) (k n : ℕ) (h : Holding) (rid : Rid) (value : Option Row) → Ascending txns → (seat_of seats k).holding ≡ Some h → h.number ≡ n → Tells txns (table_of seats)
    → Tells (txns_after txns (Undo n rid value)) (table_of (with_seat seats k (undone_seat (seat_of seats k))))
told_undo txns seats k n h rid value asc e is told =
    seat_told (txns_after txns (Undo n rid value)) seats k (undone_seat (seat_of seats k)) (Some (undoing h)) (ap (λ (o : Option Holding). option_map undoing o) e)
    (tells_step n with_undo txns (table_of seats) (k - 1) h (undoing h) (of_undone h) (distinct txns asc) is (holding_at seats k ∙ e) told)

-- ---- what tells the journal nothing

of_shared : (rid : Rid) (h : Holding) (t : Txn) → IsOf h t → IsOf (sharing rid h) t
of_shared rid h t is = record { number = is.number; pending = is.pending; undone = is.undone; owned = is.owned }

filled_told : (txns : List Txn) (seats : List Seat) (k : ℕ) (rid : Rid) (held_there : Option Holding) → (seat_of seats k).holding ≡ held_there → Tells txns (table_of seats) → Tells txns (table_of (with_seat seats k (filled (sharing rid) (seat_of seats k))))
filled_told txns seats k rid None e told = same_told txns seats k (filled (sharing rid) (seat_of seats k)) (ap (λ (o : Option Holding). option_map (sharing rid) o) e ∙ sym e) told
filled_told txns seats k rid (Some h) e told =
    seat_told txns seats k (filled (sharing rid) (seat_of seats k)) (Some (sharing rid h)) (ap (λ (o : Option Holding). option_map (sharing rid) o) e)
    (tells_kept txns (table_of seats) (k - 1) h (sharing rid h) (of_shared rid h) (holding_at seats k ∙ e) told)

pub told_share : (txns : List Txn) (seats : List Seat) (k : ℕ) (rid : Rid) → Tells txns (table_of seats) → Tells txns (table_of (with_seat seats k (shared_more rid (seat_of seats k))))
told_share txns seats k rid told =
    let s = seat_of seats k in
    elim (shares rid s.holding) as (λ b. Tells txns (table_of (with_seat seats k (if b then s else filled (sharing rid) s)))) [
      | true ↦ same_told txns seats k s refl told
      | false ↦ filled_told txns seats k rid s.holding refl told
    ]

pub told_reserve : (txns : List Txn) (seats : List Seat) (k n : ℕ) → Tells txns (table_of seats) → Tells txns (table_of (with_seat seats k (reserved_seat n (seat_of seats k))))
told_reserve txns seats k n told = same_told txns seats k (reserved_seat n (seat_of seats k)) refl told

-- ---- what a session holds is open

pub told_open : (txns : List Txn) (seats : List Seat) (k : ℕ) (h : Holding) → Ascending txns → (seat_of seats k).holding ≡ Some h → Tells txns (table_of seats) → IsOne (txn_numbered h.number txns) (IsOf h)
told_open txns seats k h asc e told = held_open txns (table_of seats) (k - 1) h (distinct txns asc) (holding_at seats k ∙ e) told

-- a sound journal leaves its transactions in ascending order
pub open_ascending : (c : Config) (journal : List Record) → Sound c journal → Ascending (open_at journal)
open_ascending c journal s = subst (λ (l : List Txn). Ascending l) (txns_of start journal) (fine c journal s).order.ascending

-- ---- no other session is in the way

find_none : (test : ℕ → Bool) (a n i : ℕ) → i < n → find test (range_with_len a n) ≡ None → test (a + i) ≡ false
find_none test a zero i there e = absurd (omega arith)
find_none test a (suc n) zero there e =
    elim (cases_Bool (test a)) [ inl met ↦ absurd (let c : Some a ≡ None = (rw (met) at e) in cc) | inr off ↦ subst (λ j. test j ≡ false) (omega arith) off ]
find_none test a (suc n) (suc i) there e =
    elim (cases_Bool (test a)) [
      | inl met ↦ absurd (let c : Some a ≡ None = (rw (met) at e) in cc)
      | inr off ↦ subst (λ j. test j ≡ false) (omega arith) (find_none test (a + 1) n i (omega arith) (rw (off) at e))
    ]

not_met : (test : ℕ → Bool) (k i : ℕ) → i < 16 → (1 + i ≡ k → ⊥) → least_other test k ≡ None → test (1 + i) ≡ false
unfolding least_other
not_met test k i there other e =
    let off : (not ((1 + i) == k) && test (1 + i)) ≡ false = find_none (λ j. not (j == k) && test j) 1 16 i there e in
    rw (ne_eqb (1 + i) k other) at off

not_in_way : (table : List (Option Holding)) (k i : ℕ) (h : Holding) (rid : Rid) → i < 16 → (1 + i ≡ k → ⊥) → held table i ≡ Some h → holder_of table k rid true ≡ None → is_among rid h.owned ≡ false
not_in_way table k i h rid there other e none =
    let off : in_way true rid (holding_of table (1 + i)) ≡ false = not_met (λ j. in_way true rid (holding_of table j)) k i there other none in
    let same : holding_of table (1 + i) ≡ Some h = ap (λ j. held table j) (let j : 1 + i - 1 ≡ i = omega arith in j) ∙ e in
    let parts = or_parts (owns rid (Some h)) (shares rid (Some h)) (subst (λ (o : Option Holding). in_way true rid o ≡ false) same off) in
    parts.0

pub told_free : (b : Before) (seats : List Seat) (k n : ℕ) (h : Holding) (rid : Rid) → length seats ≡ 16 → (seat_of seats k).holding ≡ Some h → h.number ≡ n → holder_of (table_of seats) k rid true ≡ None → Tells b.txns (table_of seats)
    → is_free_for b n rid ≡ true
told_free b seats k n h rid long e is none told =
    all_told (λ (t : Txn). (t.number == n) || not (list_any (same_place rid) t.changed)) b.txns (table_of seats)
    (λ i g t f of. elim (eqb_tells i (k - 1)) [
      | inl same ↦ (let number : t.number ≡ n = sym of.number ∙ ap (λ (x : Holding). x.number) (one_held (table_of seats) i (k - 1) g h f (holding_at seats k ∙ e) same.1) ∙ is in
          rw (eq-eqb t.number n number) refl)
      | inr other ↦ (let there : i < 16 = omega (arith, within (table_of seats) i g f, length-map seats (λ (u : Seat). u.holding), long) in
          let away : 1 + i ≡ k → ⊥ = λ s. other.1 (omega (arith, s)) in
          let off : list_any (same_place rid) t.changed ≡ false = sym (of.owned rid) ∙ not_in_way (table_of seats) k i g rid there away f none in
          rw (off) (or_right (t.number == n) true refl))
    ])
    told

-- ---- which records may follow

pub may_begin : (c : Config) (b : Before) (seats : List Seat) (k n : ℕ) → length seats ≡ 16 → IsSession k → (seat_of seats k).holding ≡ None → n ≡ b.last + 1 → Tells b.txns (table_of seats) → Meets c b (BeginRecord n)
may_begin c b seats k n long is idle number told =
    (number, omega (arith, told_room b.txns (table_of seats) (k - 1) (seat_there seats k long is) (holding_at seats k ∙ idle) told, length-map seats (λ (u : Seat). u.holding), long))

-- the session's transaction is open, and this holds of it
open_as : (P : Txn → Type 0) (b : Before) (seats : List Seat) (k n : ℕ) (h : Holding) → Ascending b.txns → (seat_of seats k).holding ≡ Some h → h.number ≡ n → Tells b.txns (table_of seats) → ((t : Txn) → IsOf h t → P t) → IsOne (txn_numbered n b.txns) P
open_as P b seats k n h asc e is told gives = subst (λ m. IsOne (txn_numbered m b.txns) P) is (one_as (IsOf h) P (txn_numbered h.number b.txns) gives (told_open b.txns seats k h asc e told))

pub may_change : (c : Config) (b : Before) (seats : List Seat) (k n : ℕ) (h : Holding) (rid : Rid) (before after : Option Row) → length seats ≡ 16 → Ascending b.txns → (seat_of seats k).holding ≡ Some h → h.number ≡ n
    → MayChange c b (table_of seats) k h rid before after → Tells b.txns (table_of seats) → Meets c b (Change n rid before after)
may_change c b seats k n h rid before after long asc e is may told =
    open_as (IsNewChange c b n rid before after) b seats k n h asc e is told
    (λ t of. record {
      held = may.held;
      something = may.something;
      value = may.value;
      forward = sym of.undone ∙ may.forward;
      alone = told_free b seats k n h rid long e is may.alone told;
      there = may.there;
    })

pub may_undo : (c : Config) (b : Before) (seats : List Seat) (k n : ℕ) (h : Holding) (rid : Rid) (value : Option Row) → Ascending b.txns → (seat_of seats k).holding ≡ Some h → h.number ≡ n
    → last_of (seat_of seats k) ≡ Some (rid, value) → has_place c rid ≡ true → Tells b.txns (table_of seats) → Meets c b (Undo n rid value)
may_undo c b seats k n h rid value asc e is newest there told =
    let last : slice_get h.pending 0 ≡ Some (rid, value) = subst (λ (o : Option Holding). slice_get (pending_of o) 0 ≡ Some (rid, value)) e newest in
    open_as (IsNewUndo c rid value) b seats k n h asc e is told
    (λ t of. record { newest = ap (λ (l : List (Rid × Option Row)). slice_get l 0) (sym of.pending) ∙ last; there = there })

pub may_commit : (c : Config) (b : Before) (seats : List Seat) (k n : ℕ) (h : Holding) → Ascending b.txns → (seat_of seats k).holding ≡ Some h → h.number ≡ n → h.undone ≡ false → Tells b.txns (table_of seats) → Meets c b (CommitRecord n)
may_commit c b seats k n h asc e is forward told = open_as (λ (t : Txn). t.undone ≡ false) b seats k n h asc e is told (λ t of. sym of.undone ∙ forward)

pub may_end : (c : Config) (b : Before) (seats : List Seat) (k n : ℕ) (h : Holding) → Ascending b.txns → (seat_of seats k).holding ≡ Some h → h.number ≡ n → h.pending ≡ [] → Tells b.txns (table_of seats) → Meets c b (Rolled n)
may_end c b seats k n h asc e is none told = open_as (λ (t : Txn). t.pending ≡ []) b seats k n h asc e is told (λ t of. sym of.pending ∙ none)

-- ---- two steps of one session

pub seat_read : (seats : List Seat) (k : ℕ) (s : Seat) → length seats ≡ 16 → IsSession k → seat_of (with_seat seats k s) k ≡ s
seat_read seats k s long is = get_or-set_same seats (k - 1) s empty_seat (omega (arith, long, is.0, is.1))

pub seat_again : (seats : List Seat) (k : ℕ) (a b : Seat) → with_seat (with_seat seats k a) k b ≡ with_seat seats k b
seat_again seats k a b = set-set seats (k - 1) a b
