-- Turns without a record: the same is owed, at the same position, and no less is free.
use Rattle.std.specs.Prelude.{Bool, Err, List, None, Ok, Option, Result, Some, [], false, fold, is_some, length, nat_lt, not, refl, suc, sum_by, true, unwrap_or, zero, ℕ, ◌&&◌, ◌+◌, ◌-◌, ◌==◌, ◌^◌, ◌∷◌, ◌≡◌, ◌≤◌}
use Rattle.std.proofs.Common.{arith, sym}
use Rattle.std.proofs.lemmas.Bool.{ltb-false}
use Rattle.std.proofs.lemmas.List.Elements.{All-head, All-tail}
use Rattle.ol_values.specs.declared.event.Known.{Known}
use Rattle.ol_values.specs.declared.event.Reply.{Reply}
use Rattle.ol_values.specs.declared.event.Target.{Target}
use Rattle.ol_values.specs.declared.record.Rid.{Rid}
use Rattle.ol_values.specs.declared.row.Row.{Row}
use Rattle.ol_values.specs.Config.{has_page, space_named}
use Rattle.ol_rules.specs.Shelf.{Shelf}
use Rattle.ol_model.specs.SessionTurns.{full_slots, list_at, list_turn, page_holder, read_at, read_turn, row_is, sharing, target_of}
use Rattle.ol_model.specs.WarmTurns.{warm_at, warm_end_at, warm_log_at, warm_put_at}
use Rattle.ol_values.specs.declared.event.Reply.TheVariants.{Archiving, BadRid, LogsFull, NoParent, NotDown, NothingToBack, RowLocked, Slots, SpaceDown, Switched, Warming as WarmingUpTo}
use Rattle.ol_values.specs.declared.event.Why.{Why}
use Rattle.ol_values.specs.Blocks.{Saved}
use Rattle.ol_rules.specs.Lasting.{Lasting, is_up, space_state, with_space}
use Rattle.ol_rules.specs.Ring.{LogRange, Use, blocker, free_after_switch, switched_off, use_numbered}
use Rattle.ol_model.specs.ArchiveTurns.{cancel_at, end_at, end_unless, end_with, first_space, keep, kept_after, kept_at, saved_of, spaces_named, start_at, start_with, started, take_at, take_page, take_unless}
use Rattle.ol_model.specs.LogTurns.{can_switch, clean_at, copy_at, done_at, pick_at, switch_turn, uncopied_at}
use Rattle.ol_model.specs.Machine.{Archive, Machine, Picking, Seat, Warming, archiver_of, config_of, holder, last_of, low_in, owed_in, reuse_of, row_in, with_archive, with_lasting, with_ring, with_seat}
use Rattle.ol_model.specs.Steps.{flush}
use Rattle.ol_model.specs.Waiting.{left_of}
use Rattle.ol_turn_laws.proofs.KeptLaws.{unless_keeps}
use Rattle.ol_turn_laws.proofs.RoomLaws.{more_free}
use Rattle.ol_turn_laws.proofs.StepLaws.{Even, checkpoint_even, even, flush_even, unless_all}
use Rattle.ol_turn_laws.proofs.SwitchLaws.{switched_free}
use Rattle.ol_turn_laws.specs.Room.{Roomy}

-- ---- reads

pub seat_even : (m : Machine) (k : ℕ) (s : Seat) → Even m (with_seat k s m)
seat_even m k s = record { txns = refl; last = refl; opened = refl; room = omega arith }

row_is_even : (m : Machine) (k : ℕ) (s : Seat) (rid : Rid) (row : Option Row) → Even m (row_is m k s rid row).1
row_is_even m k s rid None = even m
row_is_even m k s rid (Some row) = seat_even m k (sharing s (rid ∷ []))

read_at_even : (m : Machine) (k : ℕ) (s : Seat) (rid : Result Rid Reply) → Even m (read_at m k s rid).1
read_at_even m k s (Err refusal) = even m
read_at_even m k s (Ok rid) =
    let held = holder m k false rid in
    unless_keeps (Even m) m ((is_some held, RowLocked (unwrap_or held 0)) ∷ []) (row_is m k s rid (row_in m rid)) (even m) (row_is_even m k s rid (row_in m rid))

pub read_even : (m : Machine) (k : ℕ) (s : Seat) (txn : Option ℕ) (target : Target) → Even m (read_turn m k s txn target).1
read_even m k s None target = even m
read_even m k s (Some txn) target = read_at_even m k s (target_of m s target)

list_at_even : (m : Machine) (k : ℕ) (s : Seat) (page : ℕ) (space : Option ℕ) → Even m (list_at m k s page space).1
list_at_even m k s page None = even m
list_at_even m k s page (Some space) =
    let rids = full_slots m space page in
    let held = page_holder m k space page in
    unless_keeps (Even m) m
    ((not (has_page (config_of m) space page), BadRid) ∷ (not (is_up m.lasting space), SpaceDown space) ∷ (is_some held, RowLocked (unwrap_or held 0)) ∷ [])
    (Slots (sum_by (λ (r : Rid). 2 ^ r.slot) rids), with_seat k (sharing s rids) m) (even m) (seat_even m k (sharing s rids))

pub list_even : (m : Machine) (k : ℕ) (s : Seat) (txn : Option ℕ) (name : List ℕ) (page : ℕ) → Even m (list_turn m k s txn name page).1
list_even m k s None name page = even m
list_even m k s (Some txn) name page = list_at_even m k s page (space_named (config_of m) name)

-- ---- archives

start_with_even : (m : Machine) (k level : ℕ) (spaces : Option (List ℕ)) → m.checkpoint.need ≤ low_in m → Even m (start_with m k level spaces).1
start_with_even m k level None need = even m
start_with_even m k level (Some spaces) need =
    let tests : List (Bool × Reply) =
    first_space (λ s. not (is_up m.lasting s)) SpaceDown spaces
    ∷ first_space (λ s. is_some (archiver_of m s)) (λ s. Archiving (unwrap_or (archiver_of m s) 0)) spaces
    ∷ first_space (λ s. nat_lt 0 level && ((kept_at m level s).number == 0)) (λ s. NoParent s (level - 1)) spaces
    ∷ [] in
    unless_keeps (Even m) m tests (started m k level (saved_of m level spaces)) (even m) (began (saved_of m level spaces))
  where
    began : (spaces : List Saved) → Even m (started m k level spaces).1
    began spaces = let e = checkpoint_even m need in record { txns = e.txns; last = e.last; opened = e.opened; room = e.room }

pub start_even : (m : Machine) (k level : ℕ) (names : List (List ℕ)) (a : Option Archive) → m.checkpoint.need ≤ low_in m → Even m (start_at m k level names a).1
start_even m k level names (Some a) need = even m
start_even m k level names None need = start_with_even m k level (spaces_named (config_of m) names) need

archive_even : (m : Machine) (k : ℕ) (a : Option Archive) → Even m (with_archive k a m)
archive_even m k a = record { txns = refl; last = refl; opened = refl; room = omega arith }

page_even : (m : Machine) (k : ℕ) (a : Archive) (pages : List (ℕ × ℕ)) → Even m (take_page m k a pages).1
page_even m k a [] = even m
page_even m k a (p ∷ rest) = archive_even m k (Some (record a { passed = a.passed + 1 }))

take_unless_even : (m : Machine) (k : ℕ) (a : Archive) (broken : Option ℕ) → Even m (take_unless m k a broken).1
take_unless_even m k a (Some entry) = archive_even m k None
take_unless_even m k a None = page_even m k a (left_of m a)

pub take_even : (m : Machine) (k : ℕ) (a : Option Archive) → Even m (take_at m k a).1
take_even m k None = even m
take_even m k (Some a) = take_unless_even m k a a.broken

-- the known archives of spaces change, and nothing else
pub keep_backed : (a : Archive) (l : Lasting) → (keep a l).backed ≡ l.backed
keep_backed a l = go a.spaces l
  where
    go : (spaces : List Saved) (l : Lasting)
        → (fold (λ (n : Lasting) (s : Saved). with_space s.space (kept_after a.level (record { number = a.number; cut = a.cut }) (space_state n s.space)) n) l spaces).backed ≡ l.backed
    go [] l = refl
    go (s ∷ spaces) l = go spaces (with_space s.space (kept_after a.level (record { number = a.number; cut = a.cut }) (space_state l s.space)) l)

kept_even : (m : Machine) (k : ℕ) (a : Archive) → Even m (with_archive k None (with_lasting (keep a m.lasting) m))
kept_even m k a =
    let n = with_archive k None (with_lasting (keep a m.lasting) m) in
    let more = more_free (config_of m) (reuse_of m) (reuse_of n) m.log.ring (omega (arith, keep_backed a m.lasting)) (omega arith) in
    record { txns = refl; last = refl; opened = refl; room = more }

end_with_even : (m : Machine) (k : ℕ) (a : Archive) (left : ℕ) → Even m (end_with m k a left).1
end_with_even m k a zero = kept_even m k a
end_with_even m k a (suc n) = even m

end_unless_even : (m : Machine) (k : ℕ) (a : Archive) (broken : Option ℕ) → Even m (end_unless m k a broken).1
end_unless_even m k a (Some entry) = archive_even m k None
end_unless_even m k a None = end_with_even m k a (length (left_of m a))

pub end_even : (m : Machine) (k : ℕ) (a : Option Archive) → Even m (end_at m k a).1
end_even m k None = even m
end_even m k (Some a) = end_unless_even m k a a.broken

pub cancel_even : (count : ℕ) (m : Machine) (k : ℕ) (why : Why) (a : Option Archive) → Even m (cancel_at count m k why a).1
cancel_even count m k why None = even m
cancel_even count m k why (Some a) = archive_even m k None

-- ---- the log backer

pub clean_even : (m : Machine) (p : Option (ℕ × ℕ)) → Even m (clean_at m p).1
clean_even m None = even m
clean_even m (Some p) = flush_even m

pub pick_even : (m : Machine) (u : Option Use) → Even m (pick_at m u).1
pick_even m None = even m
pick_even m (Some u) = record { txns = refl; last = refl; opened = refl; room = omega arith }

pub copy_even : (m : Machine) (p : Option Picking) → Even m (copy_at m p).1
copy_even m None = even m
copy_even m (Some p) = record { txns = refl; last = refl; opened = refl; room = omega arith }

pub done_even : (m : Machine) (p : Option Picking) → ((q : Picking) → p ≡ Some q → m.lasting.backed ≤ q.uniq) → Even m (done_at m p).1
done_even m None later = even m
done_even m (Some p) later =
    let n = (done_at m (Some p)).1 in
    let more = more_free (config_of m) (reuse_of m) (reuse_of n) m.log.ring (later p refl) (omega arith) in
    record { txns = refl; last = refl; opened = refl; room = more }

pub uncopied_even : (count : ℕ) (m : Machine) (why : Why) (p : Option Picking) → Even m (uncopied_at count m why p).1
uncopied_even count m why None = even m
uncopied_even count m why (Some p) = record { txns = refl; last = refl; opened = refl; room = omega arith }

-- ---- the warm restorer

pub warm_even : (m : Machine) (space : Option ℕ) → Even m (warm_at m space).1
warm_even m None = even m
warm_even m (Some space) =
    unless_keeps (Even m) m ((is_up m.lasting space, NotDown space) ∷ [])
    (WarmingUpTo space (space_state m.lasting space).down_at, record m { warm = Some (record { space = space; put = 0 }) }) (even m)
    (record { txns = refl; last = refl; opened = refl; room = omega arith })

pub warm_log_even : (m : Machine) (position : ℕ) (p : Option LogRange) → Even m (warm_log_at m position p).1
warm_log_even m position None = record { txns = refl; last = refl; opened = refl; room = omega arith }
warm_log_even m position (Some p) = even m

pub warm_put_even : (m : Machine) (page : ℕ) (w : Option Warming) → Even m (warm_put_at m page w).1
warm_put_even m page None = even m
warm_put_even m page (Some w) = record { txns = refl; last = refl; opened = refl; room = omega arith }

pub warm_end_even : (shelf : Shelf) (m : Machine) (known : Known) (w : Option Warming) → Even m (warm_end_at shelf m known w).1
warm_end_even shelf m known None = even m
warm_end_even shelf m known (Some w) = record { txns = refl; last = refl; opened = refl; room = omega arith }

-- ---- the switch

not_false : (b : Bool) → not b ≡ false → b ≡ true
not_false true h = refl
not_false false h = sym h

switched_roomy : (m : Machine) → Roomy m → can_switch m (use_numbered m.log.ring m.log.ring.uniq) ≡ true → owed_in m ≤ free_after_switch (config_of m) (reuse_of m) m.log.ring
    → Roomy (with_ring (switched_off (flush m).log.ring) (flush m))
switched_roomy m h can due =
    let more = switched_free m (last_of m) can in
    record { log = omega (arith, due, more); opened = h.opened; positions = h.positions }

pub switch_roomy : (m : Machine) → Roomy m → Roomy (switch_turn m).1
switch_roomy m h =
    let after = flush m in
    let first : Bool × Reply = (not (can_switch m (use_numbered m.log.ring m.log.ring.uniq)), NothingToBack) in
    let second : Bool × Reply = (nat_lt (free_after_switch (config_of m) (reuse_of m) m.log.ring) (owed_in m), LogsFull (blocker (config_of m) (reuse_of m) m.log.ring)) in
    unless_all Roomy m (first ∷ second ∷ []) (Switched m.log.ring.uniq, with_ring (switched_off after.log.ring) after) h
    (λ all. switched_roomy m h (not_false _ (All-head (λ (r : Bool × Reply). r.0 ≡ false) first (second ∷ []) all))
    (ltb-false _ _ (All-head (λ (r : Bool × Reply). r.0 ≡ false) second [] (All-tail (λ (r : Bool × Reply). r.0 ≡ false) first (second ∷ []) all))))
