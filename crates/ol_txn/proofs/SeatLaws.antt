-- What a change of one seat leaves of the whole table, and how the sessions are gone through.
use Rattle.std.specs.List.{list_any, range_with_len}
use Rattle.std.specs.Option.{option_map}
use Rattle.std.specs.Prelude.{Bool, Err, List, None, Ok, OnErr, OnOk, Option, Result, Some, [], false, find, if◌then◌else◌, length, not, replicate, slice_index_or, slice_set, true, ℕ, ◌&&◌, ◌+◌, ◌-◌, ◌<◌, ◌==◌, ◌^◌, ◌||◌, ◌∷◌, ◌≡◌, ◌≤◌}
use Rattle.ol_values.specs.declared.record.Rid.{Rid}
use Rattle.ol_values.specs.declared.row.Row.{Row}
use Rattle.ol_rules.specs.Locks.{Holding, holding_of, in_way, is_locked, least_other, owed_by_holding, owed_in, owns, shares}
use Rattle.ol_txn.specs.Seats.{IsSession, Seat, changing, empty_seat, filled, no_locks, owned_more, owning, seat_of, shared_more, sharing, table_of, undoing}
use Rattle.std.proofs.Common.{ap, arith, cond, eq-eqb, ne_eqb, refl, sym, suc, zero, ◌∙◌}
use Rattle.std.proofs.lemmas.List.{length-drop, length-map, length-set, map-set}
use Rattle.std.proofs.lemmas.List.Sums.{sum_by-cons, sum_by-set}
use Rattle.std.proofs.Math.ListN.{get_or-map}

-- ---- what is owed

-- a seat of the table is what the session holds
pub holding_at : (seats : List Seat) (k : ℕ) → holding_of (table_of seats) k ≡ (seat_of seats k).holding
holding_at seats k = get_or-map (λ (s : Seat). s.holding) seats (k - 1) empty_seat

-- a table in which one seat changed owes as much more as the seat does
pub sound_set : (seats : List Seat) (k n : ℕ) (t s : Seat) → (length seats ≡ 16) × (owed_in (table_of seats) ≤ 2 ^ 62) → IsSession k
    → owed_by_holding s.holding ≤ owed_by_holding (slice_index_or seats (k - 1) t).holding + n → owed_in (table_of seats) + n ≤ 2 ^ 62
    → (length (slice_set seats (k - 1) s) ≡ 16) × (owed_in (table_of (slice_set seats (k - 1) s)) ≤ 2 ^ 62)
sound_set seats k n t s sound is more most =
    let there : k - 1 < length (table_of seats) = omega (arith, sound.0, is.0, is.1, length-map seats (λ (u : Seat). u.holding)) in
    let whole = ap owed_in (map-set (λ (u : Seat). u.holding) seats (k - 1) s) in
    let part = ap owed_by_holding (get_or-map (λ (u : Seat). u.holding) seats (k - 1) t) in
    let kept = sum_by-set owed_by_holding (table_of seats) (k - 1) s.holding t.holding there in
    (length-set seats (k - 1) s ∙ sound.0, omega (arith, whole, part, kept))

-- a seat owes no more than all do
pub owed_part : (seats : List Seat) (i : ℕ) (t : Seat) → i < length seats → owed_by_holding (slice_index_or seats i t).holding ≤ owed_in (table_of seats)
owed_part [] i t there = absurd (omega arith)
owed_part (s ∷ seats) zero t there = omega (arith, sum_by-cons owed_by_holding s.holding (table_of seats))
owed_part (s ∷ seats) (suc i) t there = omega (arith, owed_part seats i t (omega arith), sum_by-cons owed_by_holding s.holding (table_of seats))

-- there is room for one more
pub one_more : (seats now : List Seat) → seats ≡ now → owed_in (table_of now) < 2 ^ 62 → owed_in (table_of seats) + 1 ≤ 2 ^ 62
one_more seats now same room = let e = ap (λ (l : List Seat). owed_in (table_of l)) same in omega (arith, e, room)

-- a step that may fail owes no more than its success
pub owed_result : {A E : Type 0} (r : Result A E) (n : ℕ) (old step new : Seat) → OnOk r (new ≡ step) → OnErr r (new ≡ old)
    → owed_by_holding step.holding ≤ owed_by_holding old.holding + n → owed_by_holding new.holding ≤ owed_by_holding old.holding + n
owed_result (Ok x) n old step new ok err more = let e = ap (λ (s : Seat). owed_by_holding s.holding) ok in omega (arith, e, more)
owed_result (Err x) n old step new ok err more = let e = ap (λ (s : Seat). owed_by_holding s.holding) err in omega (arith, e)

-- ---- what a step of a seat owes more

owed_option : (step : Holding → Holding) (held : Option Holding) → ((h : Holding) → length (step h).pending ≡ length h.pending) → owed_by_holding (option_map step held) ≡ owed_by_holding held
owed_option step None same = refl
owed_option step (Some h) same = ap (λ n. 1 + n) (same h)

pub owed_shared : (rid : Rid) (s : Seat) → owed_by_holding (shared_more rid s).holding ≡ owed_by_holding s.holding
owed_shared rid s =
    elim (shares rid s.holding) as (λ b. owed_by_holding (if b then s else filled (sharing rid) s).holding ≡ owed_by_holding s.holding) [ true ↦ refl | false ↦ owed_option (sharing rid) s.holding (λ h. refl) ]

pub owed_owned : (rid : Rid) (s : Seat) → owed_by_holding (owned_more rid s).holding ≡ owed_by_holding s.holding
owed_owned rid s =
    elim (owns rid s.holding) as (λ b. owed_by_holding (if b then s else filled (owning rid) s).holding ≡ owed_by_holding s.holding) [ true ↦ refl | false ↦ owed_option (owning rid) s.holding (λ h. refl) ]

pub owed_changed : (change : Rid × Option Row) (held : Option Holding) → owed_by_holding (option_map (changing change) held) ≤ owed_by_holding held + 1
owed_changed change None = omega arith
owed_changed change (Some h) = omega arith

pub owed_undone : (held : Option Holding) → owed_by_holding (option_map undoing held) ≤ owed_by_holding held
owed_undone None = omega arith
owed_undone (Some h) = omega (arith, length-drop 1 h.pending)

-- ---- going through the sessions

-- the least session from j on of which this holds
unfoldable pub least_from : (ℕ → Bool) → ℕ → Option ℕ
least_from test j = find test (range_with_len j (17 - j))

pub least_first : (test : ℕ → Bool) (k : ℕ) → least_other test k ≡ least_from (λ j. not (j == k) && test j) 1
unfolding least_from least_other
least_first test k = refl

pub least_none : (test : ℕ → Bool) → least_from test 17 ≡ None
unfolding least_from
least_none test = refl

least_more : (test : ℕ → Bool) (j : ℕ) → j ≤ 16 → least_from test j ≡ cond (test j) (Some j) (least_from test (j + 1))
unfolding least_from
least_more test j here =
    let more : 17 - j ≡ suc (17 - (j + 1)) = omega arith in
    ap (λ (n : ℕ). find test (range_with_len j n)) more

pub least_found : (test : ℕ → Bool) (j : ℕ) → j ≤ 16 → test j ≡ true → least_from test j ≡ Some j
least_found test j here holds = least_more test j here ∙ ap (λ b. cond b (Some j) (least_from test (j + 1))) holds

pub least_passed : (test : ℕ → Bool) (j : ℕ) → j ≤ 16 → test j ≡ false → least_from test j ≡ least_from test (j + 1)
least_passed test j here fails = least_more test j here ∙ ap (λ b. cond b (Some j) (least_from test (j + 1))) fails

-- whether session j is another than k and stands in its way
abbrev pub is_met : List Seat → ℕ → Rid → Bool → ℕ → Bool
is_met seats k rid own j = not (j == k) && in_way own rid (holding_of (table_of seats) j)

pub met_same : (seats : List Seat) (k : ℕ) (rid : Rid) (own : Bool) (j : ℕ) → j ≡ k → is_met seats k rid own j ≡ false
met_same seats k rid own j same = rw (eq-eqb j k same) refl

pub met_other : (seats : List Seat) (k : ℕ) (rid : Rid) (own : Bool) (j : ℕ) (s : Seat) (b : Bool) → (j ≡ k → ⊥) → s ≡ seat_of seats j → b ≡ in_way own rid s.holding → is_met seats k rid own j ≡ b
met_other seats k rid own j s b other at is = rw (ne_eqb j k other, holding_at seats j, ← at) (sym is)

-- a list of which each item is one and the same
pub all_same : {A : Type 0} (item : A) (items : List A) → ((i : ℕ) → i < length items → slice_index_or items i item ≡ item) → items ≡ replicate (length items) item
all_same item [] each = refl
all_same item (x ∷ items) each =
    let first : x ≡ item = each 0 (omega arith) in
    let rest = all_same item items (λ i h. each (suc i) (omega arith)) in
    λ k. first k ∷ rest k

-- a table that is empty is sound
pub sound_none : (seats : List Seat) → seats ≡ no_locks → (length seats ≡ 16) × (owed_in (table_of seats) ≤ 2 ^ 62)
sound_none seats none = rw (none) (refl, omega arith)

-- whether one of the sessions holds the slot, asked of the seats
pub locked_seats : (rid : Rid) (seats : List Seat) → list_any (λ (s : Seat). owns rid s.holding || shares rid s.holding) seats ≡ is_locked (table_of seats) rid
locked_seats rid [] = refl
locked_seats rid (s ∷ seats) = ap (λ b. (owns rid s.holding || shares rid s.holding) || b) (locked_seats rid seats)
