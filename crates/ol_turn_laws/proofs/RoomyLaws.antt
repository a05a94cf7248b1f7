-- Each turn leaves room for what is owed then, in the log and in the journal.
use Rattle.std.specs.Prelude.{All, Bool, Err, List, None, Ok, Option, Result, Some, [], false, is_none, is_some, length, not, option_map, refl, slice_set, true, unwrap_or, ℕ, ◌+◌, ◌∷◌, ◌≡◌, ◌≤◌}
use Rattle.std.proofs.Common.{ap, arith, subst, sym, ◌∙◌}
use Rattle.std.proofs.lemmas.List.Elements.{All-head, All-tail}
use Rattle.ol_values.specs.declared.event.Event.{Event}
use Rattle.ol_values.specs.declared.event.Event.TheVariants.{ArchiveCancel, ArchiveEnd, ArchiveStart, ArchiveTurn, Begin as BeginTurn, Checkpoint as CheckpointTurn, Clean as CleanTurn, Commit as CommitTurn, CopyPage, Delete as DeleteTurn, EndRollback, Insert as InsertTurn, ListPage as ListTurn, LogCancel, LogDone, LogPick, Read as ReadTurn, ReadLog, Switch as SwitchTurn, UndoOne, Update as UpdateTurn, WarmCancel, WarmEnd, WarmPut, WarmStart}
use Rattle.ol_values.specs.declared.event.Reply.{Reply}
use Rattle.ol_values.specs.declared.event.Target.{Target}
use Rattle.ol_values.specs.declared.record.Record.{Record}
use Rattle.ol_values.specs.declared.record.Record.TheVariants.{Begin as BeginRecord, Change, Commit as CommitRecord, Rolled, Undo}
use Rattle.ol_values.specs.declared.record.Rid.{Rid}
use Rattle.ol_values.specs.declared.row.Row.{Row}
use Rattle.ol_rules.specs.Ring.{page_of, to_back_up}
use Rattle.ol_rules.specs.Shelf.{Shelf}
use Rattle.ol_model.specs.Answering.{no_room}
use Rattle.ol_model.specs.SessionTurns.{begin_at, change_at, change_turn, commit_at, insert_at, insert_into, insert_turn, rolled_at, target_of, undo_at, undo_turn}
use Rattle.ol_model.specs.Turns.{Given, turn, turn_of}
use Rattle.ol_values.specs.declared.event.Reply.TheVariants.{At, Begun, Changed, JournalFull, LogsFull, NoRow, RowLocked, SpaceDown}
use Rattle.ol_values.specs.declared.history.Actor.{Actor}
use Rattle.ol_values.specs.Config.{space_named}
use Rattle.ol_values.specs.LogPages.{log_room, record_length}
use Rattle.ol_rules.specs.Lasting.{is_up}
use Rattle.ol_rules.specs.Ring.{blocker}
use Rattle.ol_rules.specs.Sound.{is_value}
use Rattle.ol_rules.specs.Transactions.{Txn, txn_numbered}
use Rattle.ol_model.specs.Machine.{Machine, Seat, archive_of, config_of, first_free, holder, journal_full, last_of, logs_full, pending_at, reuse_of, row_in, seat_of, txn_of, txns_in, with_seat}
use Rattle.ol_model.specs.Steps.{append, change_row, flush, make_checkpoint}
use Rattle.ol_model.specs.Turns.{number_of}
use Rattle.ol_turn_laws.proofs.EvenLaws.{cancel_even, clean_even, copy_even, done_even, end_even, list_even, pick_even, read_even, start_even, switch_roomy, take_even, uncopied_even, warm_end_even, warm_even, warm_log_even, warm_put_even}
use Rattle.ol_turn_laws.proofs.KeptLaws.{turn_keeps}
use Rattle.ol_turn_laws.proofs.OwedLaws.{after_begin, after_change, after_commit, after_undo}
use Rattle.ol_turn_laws.proofs.RoomLaws.{value_fits}
use Rattle.ol_turn_laws.proofs.StepLaws.{After, after_even, append_after, back_roomy, change_after, checkpoint_even, even_roomy, flush_even, forward_roomy, seat_after, unless_all}
use Rattle.ol_turn_laws.proofs.ValueLaws.{all_found}
use Rattle.ol_turn_laws.specs.Room.{HasShortRow, HasValues, Orderly, Roomy}

-- ---- what is known of an open transaction

-- the transaction that there is
known : {Q : Type 0} (o : Option Txn) → is_some o ≡ true → ((t : Txn) → o ≡ Some t → Q) → Q
known None h f = absurd (let e : false ≡ true = h in cc)
known (Some t) h f = f t refl

-- each transaction that a seat names is open
abbrev Names : Machine → Option ℕ → Type 0
Names m o = (n : ℕ) → o ≡ Some n → is_some (txn_numbered n (txns_in m)) ≡ true

-- neither the journal nor the log is full
not_full : (m : Machine) → All (λ (r : Bool × Reply). r.0 ≡ false) (no_room m) → (journal_full m ≡ false) × (logs_full m ≡ false)
not_full m all =
    let second : Bool × Reply = (logs_full m, LogsFull (blocker (config_of m) (reuse_of m) m.log.ring)) in
    let first : Bool × Reply = (journal_full m, JournalFull) in
    (All-head (λ (r : Bool × Reply). r.0 ≡ false) first (second ∷ []) all, All-head (λ (r : Bool × Reply). r.0 ≡ false) second [] (All-tail (λ (r : Bool × Reply). r.0 ≡ false) first (second ∷ []) all))

-- ---- turns with a record that owes one more

pub begin_roomy : (m : Machine) (k : ℕ) (s : Seat) (txn : Option ℕ) → Roomy m → Roomy (begin_at m k s txn).1
begin_roomy m k s (Some txn) h = h
begin_roomy m k s None h =
    let txn : ℕ = last_of m + 1 in
    let r : Record = BeginRecord txn in
    let n : Machine = with_seat k (record s { txn = Some txn }) (append r m) in
    let a : After r m n = seat_after r m (append r m) k (record s { txn = Some txn }) (append_after r m (omega arith)) in
    unless_all Roomy m (no_room m) (Begun txn, n) h (λ all. let full = not_full m all in forward_roomy r m n a (after_begin (txns_in m) txn) full.0 full.1)

-- a change of an open transaction
changed_roomy : (m n : Machine) (txn : ℕ) (rid : Rid) (before after : Option Row) → Orderly m → is_some (txn_numbered txn (txns_in m)) ≡ true
    → After (Change txn rid before after) m n → All (λ (r : Bool × Reply). r.0 ≡ false) (no_room m) → Roomy n
changed_roomy m n txn rid before after o there a all =
    let full = not_full m all in
    known (txn_numbered txn (txns_in m)) there (λ t is. forward_roomy (Change txn rid before after) m n a (after_change (txns_in m) txn rid before after t o.ascending is) full.0 full.1)

change_fits : (txn : ℕ) (rid : Rid) (before after : Option Row) → is_value before ≡ true → is_value after ≡ true → record_length (Change txn rid before after) ≤ log_room
change_fits txn rid before after b a = omega (arith, value_fits before b, value_fits after a)

insert_at_roomy : (m : Machine) (n k : ℕ) (s : Seat) (txn reg : ℕ) (row : Row) (space : ℕ) (rid : Option Rid) → Roomy m → Orderly m → is_some (txn_numbered txn (txns_in m)) ≡ true
    → is_value (Some row) ≡ true → Roomy (insert_at m n k s txn reg row space rid).1
insert_at_roomy m n k s txn reg row space None h o there short = h
insert_at_roomy m n k s txn reg row space (Some rid) h o there short =
    let r : Record = Change txn rid None (Some row) in
    let seat : Seat = record s { registers = slice_set s.registers reg (Some rid) } in
    let after : Machine = with_seat k seat (change_row n rid r m) in
    let a : After r m after = seat_after r m (change_row n rid r m) k seat (change_after n rid r m o.need (change_fits txn rid None (Some row) refl short)) in
    unless_all Roomy m (no_room m) (At rid, after) h (λ all. changed_roomy m after txn rid None (Some row) o there a all)

insert_into_roomy : (m : Machine) (n k : ℕ) (s : Seat) (txn reg : ℕ) (row : Row) (space : Option ℕ) → Roomy m → Orderly m → is_some (txn_numbered txn (txns_in m)) ≡ true
    → is_value (Some row) ≡ true → Roomy (insert_into m n k s txn reg row space).1
insert_into_roomy m n k s txn reg row None h o there short = h
insert_into_roomy m n k s txn reg row (Some space) h o there short =
    unless_all Roomy m ((not (is_up m.lasting space), SpaceDown space) ∷ []) (insert_at m n k s txn reg row space (first_free m space)) h
    (λ all. insert_at_roomy m n k s txn reg row space (first_free m space) h o there short)

insert_roomy : (m : Machine) (n k : ℕ) (s : Seat) (txn : Option ℕ) (reg : ℕ) (name : List ℕ) (row : Row) → Roomy m → Orderly m → Names m txn → is_value (Some row) ≡ true
    → Roomy (insert_turn m n k s txn reg name row).1
insert_roomy m n k s None reg name row h o names short = h
insert_roomy m n k s (Some txn) reg name row h o names short = insert_into_roomy m n k s txn reg row (space_named (config_of m) name) h o (names txn refl) short

change_at_roomy : (m : Machine) (n k txn : ℕ) (after : Option Row) (rid : Result Rid Reply) → Roomy m → Orderly m → is_some (txn_numbered txn (txns_in m)) ≡ true → is_value after ≡ true
    → Roomy (change_at m n k txn after rid).1
change_at_roomy m n k txn after (Err refusal) h o there short = h
change_at_roomy m n k txn after (Ok rid) h o there short =
    let held = holder m k true rid in
    let before = row_in m rid in
    let r : Record = Change txn rid before after in
    let a : After r m (change_row n rid r m) = change_after n rid r m o.need (change_fits txn rid before after (o.rows rid) short) in
    let first : Bool × Reply = (is_some held, RowLocked (unwrap_or held 0)) in
    let second : Bool × Reply = (is_none before, NoRow) in
    unless_all Roomy m (first ∷ second ∷ no_room m) (Changed rid, change_row n rid r m) h
    (λ all. changed_roomy m (change_row n rid r m) txn rid before after o there a
    (All-tail (λ (q : Bool × Reply). q.0 ≡ false) second (no_room m) (All-tail (λ (q : Bool × Reply). q.0 ≡ false) first (second ∷ no_room m) all)))

change_roomy : (m : Machine) (n k : ℕ) (s : Seat) (txn : Option ℕ) (target : Target) (after : Option Row) → Roomy m → Orderly m → Names m txn → is_value after ≡ true
    → Roomy (change_turn m n k s txn target after).1
change_roomy m n k s None target after h o names short = h
change_roomy m n k s (Some txn) target after h o names short = change_at_roomy m n k txn after (target_of m s target) h o (names txn refl) short

-- ---- turns with a record that owes less

commit_roomy : (m : Machine) (k : ℕ) (s : Seat) (txn : Option ℕ) → Roomy m → Orderly m → Names m txn → Roomy (commit_at m k s txn).1
commit_roomy m k s None h o names = h
commit_roomy m k s (Some txn) h o names =
    let r : Record = CommitRecord txn in
    let n : Machine = flush (append r m) in
    let a : After r m n = after_even r m (append r m) n (append_after r m (omega arith)) (flush_even (append r m)) in
    known (txn_numbered txn (txns_in m)) (names txn refl)
    (λ t is. back_roomy r m (with_seat k (record s { txn = None; shares = [] }) n) (seat_after r m n k (record s { txn = None; shares = [] }) a)
    (omega (arith, after_commit (txns_in m) txn t o.ascending is)) h)

rolled_roomy : (m : Machine) (k : ℕ) (s : Seat) (txn : Option ℕ) → Roomy m → Orderly m → Names m txn → Roomy (rolled_at m k s txn).1
rolled_roomy m k s None h o names = h
rolled_roomy m k s (Some txn) h o names =
    let r : Record = Rolled txn in
    let n : Machine = append r m in
    known (txn_numbered txn (txns_in m)) (names txn refl)
    (λ t is. back_roomy r m (with_seat k (record s { txn = None; shares = [] }) n) (seat_after r m n k (record s { txn = None; shares = [] }) (append_after r m (omega arith)))
    (omega (arith, after_commit (txns_in m) txn t o.ascending is)) h)

-- an undo of a transaction with this newest change
undone_roomy : (m : Machine) (n txn : ℕ) (t : Txn) (pending : List (Rid × Option Row)) → Roomy m → Orderly m → txn_numbered txn (txns_in m) ≡ Some t → t.pending ≡ pending
    → Roomy (undo_at m n txn pending).1
undone_roomy m n txn t [] h o is same = h
undone_roomy m n txn t (p ∷ rest) h o is same =
    let r : Record = Undo txn p.0 p.1 in
    let values : HasValues t = all_found HasValues txn (txns_in m) t o.pending is in
    let newest : All (λ (q : Rid × Option Row). is_value q.1 ≡ true) (p ∷ rest) = subst (λ (l : List (Rid × Option Row)). All (λ (q : Rid × Option Row). is_value q.1 ≡ true) l) same values in
    let short = value_fits p.1 (All-head (λ (q : Rid × Option Row). is_value q.1 ≡ true) p rest newest) in
    let some : length t.pending ≡ length (p ∷ rest) = ap (λ (l : List (Rid × Option Row)). length l) same in
    let owes = after_undo (txns_in m) txn p.0 p.1 t o.ascending is (omega (arith, some)) in
    back_roomy r m (change_row n p.0 r m) (change_after n p.0 r m o.need (omega (arith, short))) (omega (arith, owes)) h

undo_roomy : (m : Machine) (n k : ℕ) → Roomy m → Orderly m → Roomy (undo_turn m n k (seat_of m k).txn).1
undo_roomy m n k h o = go (seat_of m k).txn refl
  where
    go : (txn : Option ℕ) → (seat_of m k).txn ≡ txn → Roomy (undo_turn m n k txn).1
    go None is = h
    go (Some txn) is =
        known (txn_numbered txn (txns_in m)) (o.sessions k txn is)
        (λ t found. undone_roomy m n txn t (pending_at m k) h o found
        (sym (ap (λ (q : Option Txn). unwrap_or (option_map (λ (u : Txn). u.pending) q) []) (ap (λ (q : Option ℕ). txn_of m q) is ∙ found))))

-- ---- the table of turns

turn_of_roomy : (shelf : Shelf) (g : Given) (m : Machine) (n k : ℕ) (event : Event) → Roomy m → Orderly m → HasShortRow event → Roomy (turn_of shelf g m n k event).1
turn_of_roomy shelf g m n k BeginTurn h o short = begin_roomy m k (seat_of m k) (seat_of m k).txn h
turn_of_roomy shelf g m n k (InsertTurn reg name row) h o short = insert_roomy m n k (seat_of m k) (seat_of m k).txn reg name row h o (o.sessions k) short
turn_of_roomy shelf g m n k (UpdateTurn target row) h o short = change_roomy m n k (seat_of m k) (seat_of m k).txn target (Some row) h o (o.sessions k) short
turn_of_roomy shelf g m n k (DeleteTurn target) h o short = change_roomy m n k (seat_of m k) (seat_of m k).txn target None h o (o.sessions k) refl
turn_of_roomy shelf g m n k (ReadTurn target) h o short = even_roomy m _ (read_even m k (seat_of m k) (seat_of m k).txn target) h
turn_of_roomy shelf g m n k (ListTurn name page) h o short = even_roomy m _ (list_even m k (seat_of m k) (seat_of m k).txn name page) h
turn_of_roomy shelf g m n k CommitTurn h o short = commit_roomy m k (seat_of m k) (seat_of m k).txn h o (o.sessions k)
turn_of_roomy shelf g m n k UndoOne h o short = undo_roomy m n k h o
turn_of_roomy shelf g m n k EndRollback h o short = rolled_roomy m k (seat_of m k) (seat_of m k).txn h o (o.sessions k)
turn_of_roomy shelf g m n k CheckpointTurn h o short = even_roomy m (make_checkpoint m) (checkpoint_even m o.need) h
turn_of_roomy shelf g m n k CleanTurn h o short = even_roomy m _ (clean_even m g.dirty) h
turn_of_roomy shelf g m n k (ArchiveStart level names) h o short = even_roomy m _ (start_even m k level names (archive_of m k) o.need) h
turn_of_roomy shelf g m n k ArchiveTurn h o short = even_roomy m _ (take_even m k (archive_of m k)) h
turn_of_roomy shelf g m n k ArchiveEnd h o short = even_roomy m _ (end_even m k (archive_of m k)) h
turn_of_roomy shelf g m n k (ArchiveCancel why) h o short = even_roomy m _ (cancel_even g.count m k why (archive_of m k)) h
turn_of_roomy shelf g m n k LogPick h o short = even_roomy m _ (pick_even m (to_back_up (config_of m) (reuse_of m) m.log.ring)) h
turn_of_roomy shelf g m n k CopyPage h o short = even_roomy m _ (copy_even m m.log.picking) h
turn_of_roomy shelf g m n k LogDone h o short = even_roomy m _ (done_even m m.log.picking o.picking) h
turn_of_roomy shelf g m n k (LogCancel why) h o short = even_roomy m _ (uncopied_even g.count m why m.log.picking) h
turn_of_roomy shelf g m n k SwitchTurn h o short = switch_roomy m h
turn_of_roomy shelf g m n k (WarmStart name) h o short = even_roomy m _ (warm_even m (space_named (config_of m) name)) h
turn_of_roomy shelf g m n k (ReadLog position) h o short = even_roomy m _ (warm_log_even m position (page_of m.log.ring position)) h
turn_of_roomy shelf g m n k (WarmPut page) h o short = even_roomy m _ (warm_put_even m page m.warm) h
turn_of_roomy shelf g m n k (WarmEnd known) h o short = even_roomy m _ (warm_end_even shelf m known m.warm) h
turn_of_roomy shelf g m n k (WarmCancel since why) h o short = record { log = h.log; opened = h.opened; positions = h.positions }

pub turn_roomy : (shelf : Shelf) (g : Given) (m : Machine) (n : ℕ) (actor : Actor) (event : Event) → Roomy m → Orderly m → HasShortRow event → Roomy (turn shelf g m n actor event).1
turn_roomy shelf g m n actor event h o short =
    turn_keeps Roomy shelf g m n actor event h (record { log = h.log; opened = h.opened; positions = h.positions }) (turn_of_roomy shelf g m n (number_of actor) event h o short)
