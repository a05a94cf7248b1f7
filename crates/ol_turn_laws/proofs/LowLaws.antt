-- The least number of an open transaction rises with each record; a newly formatted disk is orderly.
use Rattle.std.specs.List.{range_with_len}
use Rattle.std.specs.Prelude.{All, List, None, Option, Some, [], length, map, false, not, refl, replicate, slice_index_or, suc, zero, ℕ, ◌++◌, ◌+◌, ◌-◌, ◌==◌, ◌∷◌, ◌≡◌, ◌≤◌, ◌<◌}
use Rattle.std.proofs.Common.{ap, arith, ◌∙◌}
use Rattle.std.proofs.lemmas.List.Elements.{All-cons, All-filter, All-head, All-nil, All-weaker}
use Rattle.ol_values.specs.declared.record.Record.{Record}
use Rattle.ol_values.specs.declared.record.Record.TheVariants.{Begin as BeginRecord, Change, Commit as CommitRecord, Rolled, Undo}
use Rattle.ol_values.specs.declared.record.Rid.{Rid}
use Rattle.ol_values.specs.declared.row.Row.{Row}
use Rattle.ol_values.specs.Config.{Config, data_pages}
use Rattle.ol_values.specs.Pages.{Page, blank}
use Rattle.ol_rules.specs.Sound.{is_value}
use Rattle.ol_rules.specs.Transactions.{Ascending, BeginsFrom, Txn, at_txn, low_of, txns_after, with_change, with_undo, without_txn}
use Rattle.ol_model.specs.Machine.{Machine, Seat, formatted, last_of, low_in, no_seat, row_in, seat_of, txns_in}
use Rattle.ol_model.specs.Steps.{append, change_row}
use Rattle.ol_laws.proofs.TxnLaws.{KeepsNumber, number_kept}
use Rattle.ol_turn_laws.proofs.StepLaws.{appended_last, appended_txns, changed_last, changed_txns}
use Rattle.ol_turn_laws.specs.Room.{HasValues, Orderly}

-- ---- the least number

-- a bound of all numbers, and of the position after the last, bounds the least
low_bound : (low last : ℕ) (txns : List Txn) → All (λ (t : Txn). low ≤ t.number) txns → low ≤ last + 1 → low ≤ low_of txns last
low_bound low last [] all le = le
low_bound low last (t ∷ txns) all le = All-head (λ (u : Txn). low ≤ u.number) t txns all

low_within : (last : ℕ) (txns : List Txn) → All (λ (t : Txn). t.number ≤ last) txns → low_of txns last ≤ last + 1
low_within last [] within = omega arith
low_within last (t ∷ txns) within = omega (arith, All-head (λ (u : Txn). u.number ≤ last) t txns within)

all_from_low : (last : ℕ) (txns : List Txn) → Ascending txns → All (λ (t : Txn). low_of txns last ≤ t.number) txns
all_from_low last [] order = All-nil (λ (t : Txn). low_of [] last ≤ t.number)
all_from_low last (t ∷ txns) order =
    All-cons (λ (u : Txn). t.number ≤ u.number) t txns (omega arith) (All-weaker (λ (u : Txn). t.number < u.number) (λ (u : Txn). t.number ≤ u.number) (λ u lt. omega (arith, lt)) txns order.0)

low_at_step : (n : ℕ) (f : Txn → Txn) (txns : List Txn) (last : ℕ) → KeepsNumber f → low_of txns last ≤ low_of (at_txn n f txns) (last + 1)
low_at_step n f [] last keeps = omega arith
low_at_step n f (t ∷ txns) last keeps = omega (arith, number_kept n f t keeps)

low_pushed : (txns : List Txn) (last : ℕ) (t : Txn) → last + 1 ≤ t.number → low_of txns last ≤ low_of (txns ++ t ∷ []) (last + 1)
low_pushed [] last t from = from
low_pushed (u ∷ txns) last t from = omega arith

low_without : (n : ℕ) (txns : List Txn) (last : ℕ) → Ascending txns → All (λ (t : Txn). t.number ≤ last) txns → low_of txns last ≤ low_of (without_txn n txns) (last + 1)
low_without n txns last order within =
    low_bound (low_of txns last) (last + 1) (without_txn n txns)
    (All-filter (λ (t : Txn). not (t.number == n)) (λ (t : Txn). low_of txns last ≤ t.number) txns (all_from_low last txns order))
    (omega (arith, low_within last txns within))

pub low_rises : (txns : List Txn) (last : ℕ) (r : Record) → Ascending txns → All (λ (t : Txn). t.number ≤ last) txns → BeginsFrom (last + 1) r → low_of txns last ≤ low_of (txns_after txns r) (last + 1)
low_rises txns last (BeginRecord n) order within from = low_pushed txns last (record { number = n; pending = []; changed = []; undone = false }) from
low_rises txns last (Change n rid before after) order within from = low_at_step n (with_change rid before) txns last (λ t. refl)
low_rises txns last (Undo n rid value) order within from = low_at_step n with_undo txns last (λ t. refl)
low_rises txns last (CommitRecord n) order within from = low_without n txns last order within
low_rises txns last (Rolled n) order within from = low_without n txns last order within

pub appended_low : (r : Record) (m : Machine) → Ascending (txns_in m) → All (λ (t : Txn). t.number ≤ last_of m) (txns_in m) → BeginsFrom (last_of m + 1) r → low_in m ≤ low_in (append r m)
appended_low r m order within from =
    let after : low_in (append r m) ≡ low_of (txns_after (txns_in m) r) (last_of m + 1) =
    ap (λ (l : List Txn). low_of l (last_of (append r m))) (appended_txns r m) ∙ ap (λ (k : ℕ). low_of (txns_after (txns_in m) r) k) (appended_last r m) in
    omega (arith, after, low_rises (txns_in m) (last_of m) r order within from)

pub changed_low : (n : ℕ) (place : Rid) (r : Record) (m : Machine) → Ascending (txns_in m) → All (λ (t : Txn). t.number ≤ last_of m) (txns_in m) → BeginsFrom (last_of m + 1) r
    → low_in m ≤ low_in (change_row n place r m)
changed_low n place r m order within from =
    let after : low_in (change_row n place r m) ≡ low_of (txns_after (txns_in m) r) (last_of m + 1) =
    ap (λ (l : List Txn). low_of l (last_of (change_row n place r m))) (changed_txns n place r m)
    ∙ ap (λ (k : ℕ). low_of (txns_after (txns_in m) r) k) (changed_last n place r m) in
    omega (arith, after, low_rises (txns_in m) (last_of m) r order within from)

-- ---- a newly formatted disk

pub of_equal : {A : Type 0} (n i : ℕ) (x : A) → slice_index_or (replicate n x) i x ≡ x
of_equal zero i x = refl
of_equal (suc n) zero x = refl
of_equal (suc n) (suc i) x = of_equal n i x

pub all_blank : (c : Config) (spaces : List ℕ) (i j : ℕ) → slice_index_or (slice_index_or (map (λ s. replicate (data_pages c s) blank) spaces) i []) j blank ≡ blank
all_blank c [] i j = refl
all_blank c (s ∷ spaces) zero j = of_equal (data_pages c s) j blank
all_blank c (s ∷ spaces) (suc i) j = all_blank c spaces i j

blank_row : (c : Config) (rid : Rid) → row_in (formatted c) rid ≡ None
blank_row c rid =
    ap (λ (p : Page). slice_index_or p.slots rid.slot None) (all_blank c (range_with_len 0 (length c.spaces)) rid.space rid.page) ∙ of_equal 31 rid.slot None

pub no_txn : (c : Config) (k : ℕ) → (seat_of (formatted c) k).txn ≡ None
no_txn c k = ap (λ (s : Seat). s.txn) (of_equal 16 (k - 1) no_seat)

pub formatted_orderly : (c : Config) → Orderly (formatted c)
formatted_orderly c = record {
  ascending = tt;
  pending = All-nil HasValues;
  rows = λ rid. ap (λ (o : Option Row). is_value o) (blank_row c rid);
  sessions = λ k n is. absurd (let none = no_txn c k in cc);
  need = omega arith;
  picking = λ p is. absurd (let h : None ≡ Some p = is in cc);
}
