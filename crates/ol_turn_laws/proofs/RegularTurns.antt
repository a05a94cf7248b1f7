-- Each turn of each actor leaves a regular state regular.
use Rattle.std.specs.List.{range_with_len}
use Rattle.std.specs.Prelude.{All, Bool, Err, List, None, Ok, Option, Result, Some, [], false, find, is_none, is_some, length, map, nat_le, nat_lt, not, option_map, refl, slice_index_or, slice_set, suc, sum_by, true, unwrap_or, zero, ℕ, ◌&&◌, ◌+◌, ◌-◌, ◌==◌, ◌^◌, ◌∷◌, ◌≡◌, ◌≤◌}
use Rattle.std.proofs.Common.{ap, arith, inl, inr, subst, sym, ◌∙◌}
use Rattle.std.proofs.lemmas.Bool.{and_parts, cases_Bool, leb-false}
use Rattle.std.proofs.lemmas.List.Elements.{All-append, All-head, All-nil}
use Rattle.ol_values.specs.declared.event.Event.{Event}
use Rattle.ol_values.specs.declared.event.Event.TheVariants.{ArchiveCancel, ArchiveEnd, ArchiveStart, ArchiveTurn, Begin as BeginTurn, Checkpoint as CheckpointTurn, Clean as CleanTurn, Commit as CommitTurn, CopyPage, Delete as DeleteTurn, EndRollback, Insert as InsertTurn, ListPage as ListTurn, LogCancel, LogDone, LogPick, Read as ReadTurn, ReadLog, Switch as SwitchTurn, UndoOne, Update as UpdateTurn, WarmCancel, WarmEnd, WarmPut, WarmStart}
use Rattle.ol_values.specs.declared.event.Known.{Known}
use Rattle.ol_values.specs.declared.event.Reply.{Reply}
use Rattle.ol_values.specs.declared.event.Reply.TheVariants.{Archiving, At, BadRid, Begun, Changed, LogsFull, NoParent, NoRow, NotDown, NothingToBack, RowLocked, Slots, SpaceDown, Switched, Warming as WarmingUpTo}
use Rattle.ol_values.specs.declared.event.Target.{Target}
use Rattle.ol_values.specs.declared.event.Why.{Why}
use Rattle.ol_values.specs.declared.history.Actor.{Actor}
use Rattle.ol_values.specs.declared.history.Entry.{Entry}
use Rattle.ol_values.specs.declared.record.Record.TheVariants.{Begin as BeginRecord, Change, Commit as CommitRecord, Rolled}
use Rattle.ol_values.specs.declared.record.Rid.{Rid}
use Rattle.ol_values.specs.declared.row.Row.{Row}
use Rattle.ol_values.specs.Config.{data_pages, has_page, space_named}
use Rattle.ol_values.specs.Pages.{Page, blank}
use Rattle.ol_rules.specs.Drawn.{drawn}
use Rattle.ol_rules.specs.Lasting.{is_up, space_state}
use Rattle.ol_rules.specs.Ring.{LogRange, Use, blocker, free_after_switch, is_backed, is_closed, page_of, switched_off, to_back_up, use_numbered}
use Rattle.ol_rules.specs.Shelf.{Shelf}
use Rattle.ol_rules.specs.Sound.{is_value}
use Rattle.ol_rules.specs.Transactions.{Txn, txn_numbered}
use Rattle.ol_model.specs.Answering.{no_room}
use Rattle.ol_model.specs.ArchiveTurns.{cancel_at, end_at, end_unless, end_with, first_space, kept_at, saved_of, spaces_named, start_at, start_with, started, take_at, take_page, take_unless}
use Rattle.ol_model.specs.History.{state_at}
use Rattle.ol_model.specs.LogTurns.{can_switch, clean_at, copy_at, done_at, pick_at, switch_turn, uncopied_at}
use Rattle.ol_model.specs.Machine.{Archive, Machine, Picking, Seat, Warming, archive_of, archiver_of, config_of, first_free, holder, last_of, owed_in, pending_at, reuse_of, row_in, seat_of, txn_of, txns_in, with_archive, with_picking, with_ring, with_seat}
use Rattle.ol_model.specs.SessionTurns.{begin_at, change_at, change_turn, commit_at, full_slots, insert_at, insert_into, insert_turn, list_at, list_turn, page_holder, read_at, read_turn, rolled_at, row_is, sharing, target_of, undo_at, undo_turn}
use Rattle.ol_model.specs.Steps.{append, change_row, flush}
use Rattle.ol_model.specs.Turns.{Given, number_of, turn, turn_of}
use Rattle.ol_model.specs.Waiting.{left_of}
use Rattle.ol_model.specs.WarmTurns.{pages_drawn, warm_at, warm_end_at, warm_log_at, warm_put_at}
use Rattle.ol_turn_laws.proofs.DrawnLaws.{blank_short, drawn_short}
use Rattle.ol_turn_laws.proofs.EvenLaws.{keep_backed}
use Rattle.ol_turn_laws.proofs.KeptLaws.{change_sessions, history_keeps, turn_keeps, unless_keeps}
use Rattle.ol_turn_laws.proofs.RegularLaws.{Calm, begun_regular, calm, calm_regular, changed_regular, checkpoint_calm, ended_regular, regular, seat_regular, seated, set_holds, told, txn_in, undone_regular}
use Rattle.ol_turn_laws.proofs.RoomyLaws.{turn_roomy}
use Rattle.ol_turn_laws.proofs.ValueLaws.{all_found}
use Rattle.ol_turn_laws.specs.Room.{HasShortRow, HasValues, HoldsShort, HoldsShortRows, LeavesShort, Regular, Roomy}

-- ---- the turns of sessions

begin_regular : (m : Machine) (k : ℕ) (s : Seat) (txn : Option ℕ) → Regular m → Regular (begin_at m k s txn).1
begin_regular m k s (Some txn) h = h
begin_regular m k s None h =
    let txn : ℕ = last_of m + 1 in
    unless_keeps Regular m (no_room m) (Begun txn, with_seat k (record s { txn = Some txn }) (append (BeginRecord txn) m)) h (begun_regular m k s h)

insert_at_regular : (m : Machine) (n k : ℕ) (s : Seat) (txn reg : ℕ) (row : Row) (space : ℕ) (rid : Option Rid) → (seat_of m k).txn ≡ Some txn → s.txn ≡ Some txn → is_value (Some row) ≡ true → Regular m
    → Regular (insert_at m n k s txn reg row space rid).1
insert_at_regular m n k s txn reg row space None own same short h = h
insert_at_regular m n k s txn reg row space (Some rid) own same short h =
    let r = Change txn rid None (Some row) in
    let seat : Seat = record s { registers = slice_set s.registers reg (Some rid) } in
    unless_keeps Regular m (no_room m) (At rid, with_seat k seat (change_row n rid r m)) h
    (seat_regular (change_row n rid r m) k txn seat (ap (λ (l : List Seat). txn_in l (k - 1)) (change_sessions n rid r m) ∙ own) same (changed_regular n txn rid None (Some row) m refl short h))

insert_into_regular : (m : Machine) (n k : ℕ) (s : Seat) (txn reg : ℕ) (row : Row) (space : Option ℕ) → (seat_of m k).txn ≡ Some txn → s.txn ≡ Some txn → is_value (Some row) ≡ true → Regular m
    → Regular (insert_into m n k s txn reg row space).1
insert_into_regular m n k s txn reg row None own same short h = h
insert_into_regular m n k s txn reg row (Some space) own same short h =
    unless_keeps Regular m ((not (is_up m.lasting space), SpaceDown space) ∷ []) (insert_at m n k s txn reg row space (first_free m space)) h
    (insert_at_regular m n k s txn reg row space (first_free m space) own same short h)

insert_regular : (m : Machine) (n k : ℕ) (s : Seat) (txn : Option ℕ) (reg : ℕ) (name : List ℕ) (row : Row) → (seat_of m k).txn ≡ txn → s.txn ≡ txn → is_value (Some row) ≡ true → Regular m
    → Regular (insert_turn m n k s txn reg name row).1
insert_regular m n k s None reg name row own same short h = h
insert_regular m n k s (Some txn) reg name row own same short h = insert_into_regular m n k s txn reg row (space_named (config_of m) name) own same short h

change_at_regular : (m : Machine) (n k txn : ℕ) (after : Option Row) (rid : Result Rid Reply) → is_value after ≡ true → Regular m → Regular (change_at m n k txn after rid).1
change_at_regular m n k txn after (Err refusal) short h = h
change_at_regular m n k txn after (Ok rid) short h =
    let held = holder m k true rid in
    let before = row_in m rid in
    unless_keeps Regular m ((is_some held, RowLocked (unwrap_or held 0)) ∷ (is_none before, NoRow) ∷ no_room m)
    (Changed rid, change_row n rid (Change txn rid before after) m) h (changed_regular n txn rid before after m (h.orderly.rows rid) short h)

change_regular : (m : Machine) (n k : ℕ) (s : Seat) (txn : Option ℕ) (target : Target) (after : Option Row) → is_value after ≡ true → Regular m → Regular (change_turn m n k s txn target after).1
change_regular m n k s None target after short h = h
change_regular m n k s (Some txn) target after short h = change_at_regular m n k txn after (target_of m s target) short h

row_is_regular : (m : Machine) (k txn : ℕ) (s : Seat) (rid : Rid) (row : Option Row) → (seat_of m k).txn ≡ Some txn → s.txn ≡ Some txn → Regular m → Regular (row_is m k s rid row).1
row_is_regular m k txn s rid None own same h = h
row_is_regular m k txn s rid (Some row) own same h = seat_regular m k txn (sharing s (rid ∷ [])) own same h

read_at_regular : (m : Machine) (k txn : ℕ) (s : Seat) (rid : Result Rid Reply) → (seat_of m k).txn ≡ Some txn → s.txn ≡ Some txn → Regular m → Regular (read_at m k s rid).1
read_at_regular m k txn s (Err refusal) own same h = h
read_at_regular m k txn s (Ok rid) own same h =
    let held = holder m k false rid in
    unless_keeps Regular m ((is_some held, RowLocked (unwrap_or held 0)) ∷ []) (row_is m k s rid (row_in m rid)) h (row_is_regular m k txn s rid (row_in m rid) own same h)

read_regular : (m : Machine) (k : ℕ) (s : Seat) (txn : Option ℕ) (target : Target) → (seat_of m k).txn ≡ txn → s.txn ≡ txn → Regular m → Regular (read_turn m k s txn target).1
read_regular m k s None target own same h = h
read_regular m k s (Some txn) target own same h = read_at_regular m k txn s (target_of m s target) own same h

list_at_regular : (m : Machine) (k txn : ℕ) (s : Seat) (page : ℕ) (space : Option ℕ) → (seat_of m k).txn ≡ Some txn → s.txn ≡ Some txn → Regular m → Regular (list_at m k s page space).1
list_at_regular m k txn s page None own same h = h
list_at_regular m k txn s page (Some space) own same h =
    let rids = full_slots m space page in
    let held = page_holder m k space page in
    unless_keeps Regular m
    ((not (has_page (config_of m) space page), BadRid) ∷ (not (is_up m.lasting space), SpaceDown space) ∷ (is_some held, RowLocked (unwrap_or held 0)) ∷ [])
    (Slots (sum_by (λ (r : Rid). 2 ^ r.slot) rids), with_seat k (sharing s rids) m) h (seat_regular m k txn (sharing s rids) own same h)

list_regular : (m : Machine) (k : ℕ) (s : Seat) (txn : Option ℕ) (name : List ℕ) (page : ℕ) → (seat_of m k).txn ≡ txn → s.txn ≡ txn → Regular m → Regular (list_turn m k s txn name page).1
list_regular m k s None name page own same h = h
list_regular m k s (Some txn) name page own same h = list_at_regular m k txn s page (space_named (config_of m) name) own same h

commit_regular : (m : Machine) (k : ℕ) (s : Seat) (txn : Option ℕ) → (seat_of m k).txn ≡ txn → Regular m → Regular (commit_at m k s txn).1
commit_regular m k s None own h = h
commit_regular m k s (Some txn) own h =
    let seat : Seat = record s { txn = None; shares = [] } in
    let ended = with_seat k seat (append (CommitRecord txn) m) in
    calm_regular ended (with_seat k seat (flush (append (CommitRecord txn) m))) (record { work = refl; need = λ n. n; picks = λ p. p })
    (ended_regular (CommitRecord txn) m k txn seat tt refl refl refl own h)

rolled_regular : (m : Machine) (k : ℕ) (s : Seat) (txn : Option ℕ) → (seat_of m k).txn ≡ txn → Regular m → Regular (rolled_at m k s txn).1
rolled_regular m k s None own h = h
rolled_regular m k s (Some txn) own h = ended_regular (Rolled txn) m k txn (record s { txn = None; shares = [] }) tt refl refl refl own h

undo_at_regular : (m : Machine) (n txn : ℕ) (pending : List (Rid × Option Row)) → All (λ (p : Rid × Option Row). is_value p.1 ≡ true) pending → Regular m → Regular (undo_at m n txn pending).1
undo_at_regular m n txn [] short h = h
undo_at_regular m n txn (p ∷ rest) short h = undone_regular n txn p.0 p.1 m (All-head (λ (q : Rid × Option Row). is_value q.1 ≡ true) p rest short) h

-- what a session may take back has values
pending_short : (m : Machine) (txn : Option ℕ) → Regular m
    → All (λ (p : Rid × Option Row). is_value p.1 ≡ true) (unwrap_or (option_map (λ (t : Txn). t.pending) (txn_of m txn)) [])
pending_short m None h = All-nil (λ (p : Rid × Option Row). is_value p.1 ≡ true)
pending_short m (Some n) h = go (txn_numbered n (txns_in m)) refl
  where
    go : (o : Option Txn) → txn_numbered n (txns_in m) ≡ o → All (λ (p : Rid × Option Row). is_value p.1 ≡ true) (unwrap_or (option_map (λ (t : Txn). t.pending) o) [])
    go None is = All-nil (λ (p : Rid × Option Row). is_value p.1 ≡ true)
    go (Some t) is = all_found HasValues n (txns_in m) t h.orderly.pending is

undo_regular : (m : Machine) (n k : ℕ) (txn : Option ℕ) → Regular m → Regular (undo_turn m n k txn).1
undo_regular m n k None h = h
undo_regular m n k (Some txn) h = undo_at_regular m n txn (pending_at m k) (pending_short m (seat_of m k).txn h) h

-- ---- the turns of archivers

archive_calm : (m : Machine) (k : ℕ) (a : Option Archive) → Calm m (with_archive k a m)
archive_calm m k a = record { work = refl; need = λ h. h; picks = λ h. h }

start_with_calm : (m : Machine) (k level : ℕ) (spaces : Option (List ℕ)) → Calm m (start_with m k level spaces).1
start_with_calm m k level None = calm m
start_with_calm m k level (Some spaces) =
    let tests : List (Bool × Reply) =
    first_space (λ s. not (is_up m.lasting s)) SpaceDown spaces
    ∷ first_space (λ s. is_some (archiver_of m s)) (λ s. Archiving (unwrap_or (archiver_of m s) 0)) spaces
    ∷ first_space (λ s. nat_lt 0 level && ((kept_at m level s).number == 0)) (λ s. NoParent s (level - 1)) spaces
    ∷ [] in
    unless_keeps (Calm m) m tests (started m k level (saved_of m level spaces)) (calm m) (record { work = refl; need = λ h. omega arith; picks = λ h. h })

start_calm : (m : Machine) (k level : ℕ) (names : List (List ℕ)) (a : Option Archive) → Calm m (start_at m k level names a).1
start_calm m k level names (Some a) = calm m
start_calm m k level names None = start_with_calm m k level (spaces_named (config_of m) names)

page_calm : (m : Machine) (k : ℕ) (a : Archive) (pages : List (ℕ × ℕ)) → Calm m (take_page m k a pages).1
page_calm m k a [] = calm m
page_calm m k a (p ∷ rest) = archive_calm m k (Some (record a { passed = a.passed + 1 }))

take_unless_calm : (m : Machine) (k : ℕ) (a : Archive) (broken : Option ℕ) → Calm m (take_unless m k a broken).1
take_unless_calm m k a (Some entry) = archive_calm m k None
take_unless_calm m k a None = page_calm m k a (left_of m a)

take_calm : (m : Machine) (k : ℕ) (a : Option Archive) → Calm m (take_at m k a).1
take_calm m k None = calm m
take_calm m k (Some a) = take_unless_calm m k a a.broken

end_with_calm : (m : Machine) (k : ℕ) (a : Archive) (left : ℕ) → Calm m (end_with m k a left).1
end_with_calm m k a zero = record { work = refl; need = λ h. h; picks = λ h p is. omega (arith, h p is, keep_backed a m.lasting) }
end_with_calm m k a (suc n) = calm m

end_unless_calm : (m : Machine) (k : ℕ) (a : Archive) (broken : Option ℕ) → Calm m (end_unless m k a broken).1
end_unless_calm m k a (Some entry) = archive_calm m k None
end_unless_calm m k a None = end_with_calm m k a (length (left_of m a))

end_calm : (m : Machine) (k : ℕ) (a : Option Archive) → Calm m (end_at m k a).1
end_calm m k None = calm m
end_calm m k (Some a) = end_unless_calm m k a a.broken

cancel_calm : (count : ℕ) (m : Machine) (k : ℕ) (why : Why) (a : Option Archive) → Calm m (cancel_at count m k why a).1
cancel_calm count m k why None = calm m
cancel_calm count m k why (Some a) = archive_calm m k None

-- ---- the turns of the flusher and the log backer

flush_calm : (m : Machine) → Calm m (flush m)
flush_calm m = record { work = refl; need = λ h. h; picks = λ h. h }

clean_calm : (m : Machine) (p : Option (ℕ × ℕ)) → Calm m (clean_at m p).1
clean_calm m None = calm m
clean_calm m (Some p) = flush_calm m

-- no file is picked
none_picked : (m n : Machine) → n.work ≡ m.work → n.checkpoint.need ≡ m.checkpoint.need → n.log.picking ≡ None → Calm m n
none_picked m n work need none = record { work = work; need = λ h. omega (arith, need, h); picks = λ h p is. absurd (let never : None ≡ Some p = sym none ∙ is in cc) }

-- the file of this number is picked
one_picked : (m : Machine) (q : Picking) → m.lasting.backed ≤ q.uniq → Calm m (with_picking (Some q) m)
one_picked m q later = record {
  work = refl;
  need = λ h. h;
  picks = λ h p is. (let e : Some q ≡ Some p = is in let same : q ≡ p = cc in subst (λ (x : Picking). m.lasting.backed ≤ x.uniq) same later);
}

-- a use that is to be backed up is not yet
to_back_later : (m : Machine) (uses : List Use) (u : Use) → find (λ (v : Use). is_closed (config_of m) m.log.ring v && not (is_backed (reuse_of m) v)) uses ≡ Some u → m.lasting.backed ≤ u.uniq
to_back_later m [] u is = absurd (let never : None ≡ Some u = is in cc)
to_back_later m (v ∷ uses) u is =
    elim (cases_Bool (is_closed (config_of m) m.log.ring v && not (is_backed (reuse_of m) v))) [
      | inl e ↦
          (let same : Some v ≡ Some u = (rw (e) at is) in
          let one : v ≡ u = cc in
          let parts = and_parts (is_closed (config_of m) m.log.ring v) (not (is_backed (reuse_of m) v)) e in
          let behind : nat_le v.uniq m.lasting.backed ≡ false = not_true (nat_le v.uniq m.lasting.backed) parts.1 in
          subst (λ (w : Use). m.lasting.backed ≤ w.uniq) one (omega (arith, leb-false v.uniq m.lasting.backed behind)))
      | inr e ↦ to_back_later m uses u (rw (e) at is)
    ]
  where
    not_true : (b : Bool) → not b ≡ true → b ≡ false
    not_true true h = sym h
    not_true false h = refl

pick_calm : (m : Machine) (u : Option Use) → ((v : Use) → u ≡ Some v → m.lasting.backed ≤ v.uniq) → Calm m (pick_at m u).1
pick_calm m None later = calm m
pick_calm m (Some u) later = one_picked m (record { uniq = u.uniq; copied = 0 }) (later u refl)

copy_calm : (m : Machine) (p : Option Picking) → ((q : Picking) → p ≡ Some q → m.lasting.backed ≤ q.uniq) → Calm m (copy_at m p).1
copy_calm m None later = calm m
copy_calm m (Some p) later = one_picked m (record p { copied = p.copied + 1 }) (later p refl)

done_calm : (m : Machine) (p : Option Picking) → Calm m (done_at m p).1
done_calm m None = calm m
done_calm m (Some p) = none_picked m (done_at m (Some p)).1 refl refl refl

uncopied_calm : (count : ℕ) (m : Machine) (why : Why) (p : Option Picking) → Calm m (uncopied_at count m why p).1
uncopied_calm count m why None = calm m
uncopied_calm count m why (Some p) = none_picked m (uncopied_at count m why (Some p)).1 refl refl refl

switch_calm : (m : Machine) → Calm m (switch_turn m).1
switch_calm m =
    let after = flush m in
    let tests : List (Bool × Reply) =
    (not (can_switch m (use_numbered m.log.ring m.log.ring.uniq)), NothingToBack)
    ∷ (nat_lt (free_after_switch (config_of m) (reuse_of m) m.log.ring) (owed_in m), LogsFull (blocker (config_of m) (reuse_of m) m.log.ring))
    ∷ [] in
    unless_keeps (Calm m) m tests (Switched m.log.ring.uniq, with_ring (switched_off after.log.ring) after) (calm m) (record { work = refl; need = λ h. h; picks = λ h. h })

-- ---- the turns of the warm restorer

warmed : (m : Machine) (w : Option Warming) → Calm m (record m { warm = w })
warmed m w = record { work = refl; need = λ h. h; picks = λ h. h }

warm_calm : (m : Machine) (space : Option ℕ) → Calm m (warm_at m space).1
warm_calm m None = calm m
warm_calm m (Some space) =
    unless_keeps (Calm m) m ((is_up m.lasting space, NotDown space) ∷ [])
    (WarmingUpTo space (space_state m.lasting space).down_at, record m { warm = Some (record { space = space; put = 0 }) }) (calm m) (warmed m (Some (record { space = space; put = 0 })))

log_calm : (m : Machine) (position : ℕ) (p : Option LogRange) → Calm m (warm_log_at m position p).1
log_calm m position None = warmed m None
log_calm m position (Some p) = calm m

put_calm : (m : Machine) (page : ℕ) (w : Option Warming) → Calm m (warm_put_at m page w).1
put_calm m page None = calm m
put_calm m page (Some w) = warmed m (Some (record w { put = w.put + 1 }))

mapped_short : (f : ℕ → Page) → ((k : ℕ) → HoldsShort (f k)) → (l : List ℕ) (page : ℕ) → HoldsShort (slice_index_or (map f l) page blank)
mapped_short f h [] page = blank_short
mapped_short f h (k ∷ l) zero = h k
mapped_short f h (k ∷ l) (suc page) = mapped_short f h l page

warm_end_regular : (shelf : Shelf) (m : Machine) (known : Known) (w : Option Warming) → HoldsShortRows shelf → Regular m → Regular (warm_end_at shelf m known w).1
warm_end_regular shelf m known None sound h = h
warm_end_regular shelf m known (Some w) sound h =
    let t = told m h in
    let page_of_space : ℕ → Page = drawn shelf m.work.start m.work.records (space_state m.lasting w.space).down_at w.space in
    let new : (page : ℕ) → HoldsShort (slice_index_or (pages_drawn shelf m w.space) page blank) =
    mapped_short page_of_space (λ page. drawn_short shelf m.work.start m.work.records (space_state m.lasting w.space).down_at w.space page sound (All-append LeavesShort m.work.start.kept m.work.records h.kept h.records))
    (range_with_len 0 (data_pages (config_of m) w.space)) in
    regular (warm_end_at shelf m known (Some w)).1
    (record {
      ascending = t.ascending;
      pending = t.pending;
      numbers = t.numbers;
      pages = set_holds (λ (pages : List Page). (page : ℕ) → HoldsShort (slice_index_or pages page blank)) m.work.start.pages w.space (pages_drawn shelf m w.space) [] new h.pages;
      kept = t.kept;
      short = t.short;
    })
    (seated m h) h.orderly.need h.orderly.picking

-- ---- the table of turns

turn_of_regular : (shelf : Shelf) (g : Given) (m : Machine) (n k : ℕ) (event : Event) → HoldsShortRows shelf → HasShortRow event → Regular m → Regular (turn_of shelf g m n k event).1
turn_of_regular shelf g m n k BeginTurn sound short h = begin_regular m k (seat_of m k) (seat_of m k).txn h
turn_of_regular shelf g m n k (InsertTurn reg name row) sound short h = insert_regular m n k (seat_of m k) (seat_of m k).txn reg name row refl refl short h
turn_of_regular shelf g m n k (UpdateTurn target row) sound short h = change_regular m n k (seat_of m k) (seat_of m k).txn target (Some row) short h
turn_of_regular shelf g m n k (DeleteTurn target) sound short h = change_regular m n k (seat_of m k) (seat_of m k).txn target None refl h
turn_of_regular shelf g m n k (ReadTurn target) sound short h = read_regular m k (seat_of m k) (seat_of m k).txn target refl refl h
turn_of_regular shelf g m n k (ListTurn name page) sound short h = list_regular m k (seat_of m k) (seat_of m k).txn name page refl refl h
turn_of_regular shelf g m n k CommitTurn sound short h = commit_regular m k (seat_of m k) (seat_of m k).txn refl h
turn_of_regular shelf g m n k UndoOne sound short h = undo_regular m n k (seat_of m k).txn h
turn_of_regular shelf g m n k EndRollback sound short h = rolled_regular m k (seat_of m k) (seat_of m k).txn refl h
turn_of_regular shelf g m n k CheckpointTurn sound short h = calm_regular m _ (checkpoint_calm m) h
turn_of_regular shelf g m n k CleanTurn sound short h = calm_regular m _ (clean_calm m g.dirty) h
turn_of_regular shelf g m n k (ArchiveStart level names) sound short h = calm_regular m _ (start_calm m k level names (archive_of m k)) h
turn_of_regular shelf g m n k ArchiveTurn sound short h = calm_regular m _ (take_calm m k (archive_of m k)) h
turn_of_regular shelf g m n k ArchiveEnd sound short h = calm_regular m _ (end_calm m k (archive_of m k)) h
turn_of_regular shelf g m n k (ArchiveCancel why) sound short h = calm_regular m _ (cancel_calm g.count m k why (archive_of m k)) h
turn_of_regular shelf g m n k LogPick sound short h = calm_regular m _ (pick_calm m (to_back_up (config_of m) (reuse_of m) m.log.ring) (λ u is. to_back_later m m.log.ring.uses u is)) h
turn_of_regular shelf g m n k CopyPage sound short h = calm_regular m _ (copy_calm m m.log.picking h.orderly.picking) h
turn_of_regular shelf g m n k LogDone sound short h = calm_regular m _ (done_calm m m.log.picking) h
turn_of_regular shelf g m n k (LogCancel why) sound short h = calm_regular m _ (uncopied_calm g.count m why m.log.picking) h
turn_of_regular shelf g m n k SwitchTurn sound short h = calm_regular m _ (switch_calm m) h
turn_of_regular shelf g m n k (WarmStart name) sound short h = calm_regular m _ (warm_calm m (space_named (config_of m) name)) h
turn_of_regular shelf g m n k (ReadLog position) sound short h = calm_regular m _ (log_calm m position (page_of m.log.ring position)) h
turn_of_regular shelf g m n k (WarmPut page) sound short h = calm_regular m _ (put_calm m page m.warm) h
turn_of_regular shelf g m n k (WarmEnd known) sound short h = warm_end_regular shelf m known m.warm sound h
turn_of_regular shelf g m n k (WarmCancel since why) sound short h = calm_regular m _ (warmed m None) h

pub turn_regular : (shelf : Shelf) (g : Given) (m : Machine) (n : ℕ) (actor : Actor) (event : Event) → HoldsShortRows shelf → HasShortRow event → Regular m → Regular (turn shelf g m n actor event).1
turn_regular shelf g m n actor event sound short h =
    turn_keeps Regular shelf g m n actor event h (calm_regular m (record m { stopped = Some n }) (record { work = refl; need = λ c. c; picks = λ c. c }) h)
    (turn_of_regular shelf g m n (number_of actor) event sound short h)

-- ---- with the room

abbrev pub Both : Machine → Type 0
Both m = Roomy m × Regular m

pub turn_both : (shelf : Shelf) (g : Given) (m : Machine) (n : ℕ) (actor : Actor) (event : Event) → HoldsShortRows shelf → HasShortRow event → Both m → Both (turn shelf g m n actor event).1
turn_both shelf g m n actor event sound short h = (turn_roomy shelf g m n actor event h.0 h.1.orderly short, turn_regular shelf g m n actor event sound short h.1)

pub history_both : (shelf : Shelf) (m : Machine) (h : List Entry) → HoldsShortRows shelf → All (λ (e : Entry). HasShortRow e.event) h → Both m → Both (state_at shelf m h)
history_both shelf m h sound short both = history_keeps Both HasShortRow shelf (λ g n k actor event s b. turn_both shelf g n k actor event sound s b) h m short both
