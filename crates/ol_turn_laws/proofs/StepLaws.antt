-- What steps of the machine do to what is owed, to the last position and to what is free.
use Rattle.std.specs.Prelude.{All, Bool, List, None, [], false, if◌then◌else◌, refl, slice_index_or, true, ℕ, ◌++◌, ◌+◌, ◌-◌, ◌^◌, ◌∷◌, ◌≡◌, ◌≤◌}
use Rattle.std.proofs.Common.{ap, append_assoc, arith, inl, inr, length-append, sym, ◌∙◌}
use Rattle.std.proofs.lemmas.Bool.{cases_Bool, ltb-false, or_parts}
use Rattle.std.proofs.lemmas.List.Elements.{All-cons, All-nil}
use Rattle.std.proofs.lemmas.List.Sums.{fold-append}
use Rattle.ol_values.specs.declared.event.Reply.{Reply}
use Rattle.ol_values.specs.declared.record.Record.{Record}
use Rattle.ol_values.specs.declared.record.Rid.{Rid}
use Rattle.ol_values.specs.Config.{Config}
use Rattle.ol_values.specs.LogPages.{log_room, record_length}
use Rattle.ol_rules.specs.Ring.{Reuse, free}
use Rattle.ol_rules.specs.Journal.{row_after}
use Rattle.ol_rules.specs.Sound.{HasRoom}
use Rattle.ol_rules.specs.Start.{before_behind, last_behind, row_behind, start_page, txns_behind}
use Rattle.ol_rules.specs.Transactions.{Txn, owed, txns_after, txns_from}
use Rattle.ol_model.specs.Answering.{unless}
use Rattle.ol_model.specs.Machine.{Machine, Seat, Work, config_of, formatted, journal_full, last_of, logs_full, low_in, owed_in, reuse_of, row_in, txns_in, with_seat}
use Rattle.ol_model.specs.Steps.{append, before_change, change_row, flush, is_page_in, make_checkpoint, needs_checkpoint, touch}
use Rattle.ol_turn_laws.proofs.KeptLaws.{before_work}
use Rattle.ol_turn_laws.proofs.RoomLaws.{flushed_free, free_within, logged_free, more_free}
use Rattle.ol_turn_laws.specs.Room.{Roomy}

abbrev pub free_in : Machine → ℕ
free_in m = free (config_of m) (reuse_of m) m.log.ring

-- ---- steps without a record

-- the same is owed, at the same position, and no less is free
pub record Even (m n : Machine) : Type 0 where
  pub txns : txns_in n ≡ txns_in m
  pub last : last_of n ≡ last_of m
  pub opened : n.fixed.opened ≡ m.fixed.opened
  pub room : free_in m ≤ free_in n

pub even : (m : Machine) → Even m m
even m = record { txns = refl; last = refl; opened = refl; room = omega arith }

pub even_then : (m n o : Machine) → Even m n → Even n o → Even m o
even_then m n o a b = record { txns = b.txns ∙ a.txns; last = b.last ∙ a.last; opened = b.opened ∙ a.opened; room = omega (arith, a.room, b.room) }

pub even_roomy : (m n : Machine) → Even m n → Roomy m → Roomy n
even_roomy m n e r =
    let due : owed_in n ≡ owed_in m = ap (λ (t : List Txn). owed t) e.txns in record {
      log = omega (arith, due, e.room, r.log);
      opened = omega (arith, due, e.last, e.opened, r.opened);
      positions = omega (arith, due, e.last, r.positions);
    }

pub flush_even : (m : Machine) → Even m (flush m)
flush_even m = record { txns = refl; last = refl; opened = refl; room = flushed_free (config_of m) (reuse_of m) m.log.ring (last_of m) }

pub checkpoint_even : (m : Machine) → m.checkpoint.need ≤ low_in m → Even m (make_checkpoint m)
checkpoint_even m need =
    let new : Reuse = record { backed = m.lasting.backed; need = low_in m } in
    let more = more_free (config_of m) (reuse_of m) new m.log.ring (omega arith) need in
    let kept = flushed_free (config_of m) new m.log.ring (last_of m) in
    record { txns = refl; last = refl; opened = refl; room = omega (arith, more, kept) }

ready_even : (p : ℕ × ℕ) (m : Machine) → m.checkpoint.need ≤ low_in m → Even m (if needs_checkpoint m p then make_checkpoint m else m)
ready_even p m need = elim (needs_checkpoint m p) as (λ b. Even m (if b then make_checkpoint m else m)) [ true ↦ checkpoint_even m need | false ↦ even m ]

touch_even : (p : ℕ × ℕ) (m : Machine) → Even m (touch p m)
touch_even p m =
    elim (is_page_in p m.checkpoint.touched) as (λ b. Even m (if b then m else record m { checkpoint = record m.checkpoint { touched = m.checkpoint.touched ++ p ∷ [] } })) [
      | true ↦ even m
      | false ↦ record { txns = refl; last = refl; opened = refl; room = omega arith }
    ]

pub before_even : (n : ℕ) (p : ℕ × ℕ) (m : Machine) → m.checkpoint.need ≤ low_in m → Even m (before_change n p m)
before_even n p m need =
    let ready : Machine = if needs_checkpoint m p then make_checkpoint m else m in
    let e = even_then m ready (touch p ready) (ready_even p m need) (touch_even p ready) in
    record { txns = e.txns; last = e.last; opened = e.opened; room = e.room }

-- ---- steps with a record

-- a record more, for which at most one page was taken
pub record After (r : Record) (m n : Machine) : Type 0 where
  pub txns : txns_in n ≡ txns_after (txns_in m) r
  pub last : last_of n ≡ last_of m + 1
  pub opened : n.fixed.opened ≡ m.fixed.opened
  pub room : free_in m ≤ free_in n + 1

pub append_after : (r : Record) (m : Machine) → record_length r ≤ log_room → After r m (append r m)
append_after r m small = record {
  txns =
      ap (λ (l : List Record). txns_from [] l) (sym (append_assoc m.work.start.kept m.work.records (r ∷ [])))
      ∙ fold-append txns_after [] (m.work.start.kept ++ m.work.records) (r ∷ []);
  last = omega (arith, length-append m.work.records (r ∷ []));
  opened = refl;
  room = logged_free (config_of m) (reuse_of m) m.log.ring (last_of m) r small;
}

pub after_even : (r : Record) (m n o : Machine) → After r m n → Even n o → After r m o
after_even r m n o a e = record { txns = e.txns ∙ a.txns; last = e.last ∙ a.last; opened = e.opened ∙ a.opened; room = omega (arith, a.room, e.room) }

pub even_after : (r : Record) (m n o : Machine) → Even m n → After r n o → After r m o
even_after r m n o e a = record {
  txns = a.txns ∙ ap (λ (t : List Txn). txns_after t r) e.txns;
  last = a.last ∙ ap (λ (k : ℕ). k + 1) e.last;
  opened = a.opened ∙ e.opened;
  room = omega (arith, a.room, e.room);
}

pub change_after : (n : ℕ) (rid : Rid) (r : Record) (m : Machine) → m.checkpoint.need ≤ low_in m → record_length r ≤ log_room → After r m (change_row n rid r m)
change_after n rid r m need small =
    let ready = before_change n (rid.space, rid.page) m in
    even_after r m ready (append r ready) (before_even n (rid.space, rid.page) m need) (append_after r ready small)

pub seat_after : (r : Record) (m n : Machine) (k : ℕ) (s : Seat) → After r m n → After r m (with_seat k s n)
seat_after r m n k s a = record { txns = a.txns; last = a.last; opened = a.opened; room = a.room }

-- a record that owes one more, where neither log nor journal is full
pub forward_roomy : (r : Record) (m n : Machine) → After r m n → owed (txns_after (txns_in m) r) ≡ owed_in m + 1 → journal_full m ≡ false → logs_full m ≡ false → Roomy n
forward_roomy r m n a more journal log =
    let due : owed_in n ≡ owed_in m + 1 = ap (λ (t : List Txn). owed t) a.txns ∙ more in
    let parts = or_parts _ _ journal in
    let since : last_of m - m.fixed.opened + owed_in m + 2 ≤ 1048576 = ltb-false _ _ parts.0 in
    let positions : last_of m + 1 + owed_in m + 2 ≤ 2 ^ 62 = ltb-false _ _ parts.1 in
    let pages : owed_in m + 2 ≤ free_in m = ltb-false _ _ log in record {
      log = omega (arith, due, pages, a.room);
      opened = omega (arith, due, since, a.last, a.opened);
      positions = omega (arith, due, positions, a.last);
    }

-- a record that owes one less, or still less
pub back_roomy : (r : Record) (m n : Machine) → After r m n → owed (txns_after (txns_in m) r) + 1 ≤ owed_in m → Roomy m → Roomy n
back_roomy r m n a less h =
    let due : owed_in n ≡ owed (txns_after (txns_in m) r) = ap (λ (t : List Txn). owed t) a.txns in record {
      log = omega (arith, due, less, a.room, h.log);
      opened = omega (arith, due, less, a.last, a.opened, h.opened);
      positions = omega (arith, due, less, a.last, h.positions);
    }

-- ---- an answer behind refusals

-- what holds before a turn that may refuse, and after it where none of the refusals does, holds after it
pub unless_all : (P : Machine → Type 0) (m : Machine) (tests : List (Bool × Reply)) (answer : Reply × Machine) → P m
    → (All (λ (r : Bool × Reply). r.0 ≡ false) tests → P answer.1) → P (unless m tests answer).1
unless_all P m [] answer before after = after (All-nil (λ (r : Bool × Reply). r.0 ≡ false))
unless_all P m (r ∷ tests) answer before after =
    elim (cases_Bool r.0) [
      | inl e ↦ rw (e) before
      | inr e ↦ rw (e) (unless_all P m tests answer before (λ h. after (All-cons (λ (q : Bool × Reply). q.0 ≡ false) r tests e h)))
    ]

-- ---- what is read off the machine after a record

pub appended_row : (r : Record) (m : Machine) (rid : Rid) → row_in (append r m) rid ≡ row_after rid (row_in m rid) r
appended_row r m rid = fold-append (row_after rid) (slice_index_or (start_page m.work.start rid.space rid.page).slots rid.slot None) m.work.records (r ∷ [])

pub appended_txns : (r : Record) (m : Machine) → txns_in (append r m) ≡ txns_after (txns_in m) r
appended_txns r m =
    ap (λ (l : List Record). txns_from [] l) (sym (append_assoc m.work.start.kept m.work.records (r ∷ [])))
    ∙ fold-append txns_after [] (m.work.start.kept ++ m.work.records) (r ∷ [])

pub appended_last : (r : Record) (m : Machine) → last_of (append r m) ≡ last_of m + 1
appended_last r m = omega (arith, length-append m.work.records (r ∷ []))

pub changed_row : (n : ℕ) (place : Rid) (r : Record) (m : Machine) (rid : Rid) → row_in (change_row n place r m) rid ≡ row_after rid (row_in m rid) r
changed_row n place r m rid =
    appended_row r (before_change n (place.space, place.page) m) rid
    ∙ ap (λ (w : Work). row_after rid (row_behind w.start w.records rid) r) (before_work n (place.space, place.page) m)

pub changed_txns : (n : ℕ) (place : Rid) (r : Record) (m : Machine) → txns_in (change_row n place r m) ≡ txns_after (txns_in m) r
changed_txns n place r m =
    appended_txns r (before_change n (place.space, place.page) m)
    ∙ ap (λ (w : Work). txns_after (txns_behind w.start w.records) r) (before_work n (place.space, place.page) m)

pub changed_last : (n : ℕ) (place : Rid) (r : Record) (m : Machine) → last_of (change_row n place r m) ≡ last_of m + 1
changed_last n place r m =
    appended_last r (before_change n (place.space, place.page) m) ∙ ap (λ (w : Work). last_behind w.start w.records + 1) (before_work n (place.space, place.page) m)

-- ---- room, and the rule of sound records

-- on a newly formatted disk
pub formatted_roomy : (c : Config) → Roomy (formatted c)
formatted_roomy c = record { log = omega arith; opened = omega arith; positions = omega arith }

-- a record that leaves room is sound in what it leaves to be owed
pub has_room : (m : Machine) (r : Record) → 1 ≤ (config_of m).log_files → Roomy (append r m) → HasRoom (config_of m) (before_behind m.work.start m.work.records) r
has_room m r some h =
    let due : owed_in (append r m) ≡ owed (txns_after (txns_in m) r) = ap (λ (t : List Txn). owed t) (appended_txns r m) in
    let whole = free_within (config_of m) (reuse_of (append r m)) (append r m).log.ring some in
    (omega (arith, due, whole, h.log), omega (arith, due, h.positions, appended_last r m))
