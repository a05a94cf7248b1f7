-- What each step keeps, the turns keep: for what depends on work and archives alone.
use Rattle.std.specs.Prelude.{Err, List, None, Ok, Option, Result, Some, [], is_none, is_some, not, refl, slice_set, sum_by, true, false, unwrap_or, ℕ, ◌+◌, ◌^◌, ◌∷◌, ◌≡◌}
use Rattle.ol_values.specs.declared.event.Event.{Event}
use Rattle.ol_values.specs.declared.event.Event.TheVariants.{ArchiveCancel, ArchiveEnd, ArchiveStart, ArchiveTurn, Begin as BeginTurn, Checkpoint as CheckpointTurn, Clean as CleanTurn, Commit as CommitTurn, CopyPage, Delete as DeleteTurn, EndRollback, Insert as InsertTurn, ListPage as ListTurn, LogCancel, LogDone, LogPick, Read as ReadTurn, ReadLog, Switch as SwitchTurn, UndoOne, Update as UpdateTurn, WarmCancel, WarmEnd, WarmPut, WarmStart}
use Rattle.ol_values.specs.declared.event.Known.{Known}
use Rattle.ol_values.specs.declared.event.Reply.{Reply}
use Rattle.ol_values.specs.declared.event.Reply.TheVariants.{At, BadRid, Begun, Changed, NoRow, NotDown, RowLocked, Slots, SpaceDown, Warming as WarmingUpTo}
use Rattle.ol_values.specs.declared.event.Target.{Target}
use Rattle.ol_values.specs.declared.event.Why.{Why}
use Rattle.ol_values.specs.declared.history.Actor.{Actor}
use Rattle.ol_values.specs.declared.record.Record.{Record}
use Rattle.ol_values.specs.declared.record.Record.TheVariants.{Begin as BeginRecord, Change, Commit as CommitRecord, Rolled, Undo}
use Rattle.ol_values.specs.declared.record.Rid.{Rid}
use Rattle.ol_values.specs.declared.row.Row.{Row}
use Rattle.ol_values.specs.Config.{has_page, space_named}
use Rattle.ol_rules.specs.Lasting.{is_up, space_state}
use Rattle.ol_rules.specs.Ring.{LogRange, page_of, to_back_up}
use Rattle.ol_rules.specs.Shelf.{Shelf}
use Rattle.ol_model.specs.Answering.{no_room}
use Rattle.ol_model.specs.ArchiveTurns.{cancel_at, end_at, start_at, take_at}
use Rattle.ol_model.specs.LogTurns.{clean_at, copy_at, done_at, pick_at, switch_turn, uncopied_at}
use Rattle.ol_model.specs.Machine.{Machine, Seat, Warming, archive_of, config_of, first_free, holder, last_of, pending_at, reuse_of, row_in, seat_of, with_seat}
use Rattle.ol_model.specs.SessionTurns.{begin_at, change_at, change_turn, commit_at, full_slots, insert_at, insert_into, insert_turn, list_at, list_turn, page_holder, read_at, read_turn, rolled_at, row_is, sharing, target_of, undo_at, undo_turn}
use Rattle.ol_model.specs.Steps.{append, change_row, flush, make_checkpoint}
use Rattle.ol_model.specs.Turns.{Given, number_of, turn, turn_of}
use Rattle.ol_model.specs.WarmTurns.{pages_drawn, warm_at, warm_end_at, warm_log_at, warm_put_at, with_pages}
use Rattle.ol_turn_laws.proofs.KeptLaws.{Rests, Stays, checkpoint_rests, clean_rests, copy_rests, done_rests, pick_rests, switch_rests, turn_keeps, uncopied_rests, unless_keeps}

-- what depends on work and archives alone, and is kept by each step of a turn of this number
pub record Steady (P : Machine → Type 0) (k : ℕ) : Type 0 where
  pub rests : (m n : Machine) → Rests m n → P m → P n
  pub seat : (s : Seat) (m : Machine) → P m → P (with_seat k s m)
  pub add : (r : Record) (m : Machine) → P m → P (append r m)
  pub row : (n : ℕ) (rid : Rid) (r : Record) (m : Machine) → P m → P (change_row n rid r m)

-- a state of which only the log, the checkpoint or the lasting state's other parts changed
same : (P : Machine → Type 0) (k : ℕ) → Steady P k → (m n : Machine) → Stays m n → n.archives ≡ m.archives → P m → P n
same P k st m n stays archives h = st.rests m n (record { stays = stays; archives = archives }) h

flushed : (m : Machine) → Stays m (flush m)
flushed m = record { fixed = refl; work = refl; incarnation = refl; up = λ space. refl; warm = refl }

-- ---- the turns of sessions

begin_steady : (P : Machine → Type 0) (k : ℕ) → Steady P k → (m : Machine) (s : Seat) (txn : Option ℕ) → P m → P (begin_at m k s txn).1
begin_steady P k st m s (Some txn) h = h
begin_steady P k st m s None h =
    let txn : ℕ = last_of m + 1 in
    let seat : Seat = record s { txn = Some txn } in
    unless_keeps P m (no_room m) (Begun txn, with_seat k seat (append (BeginRecord txn) m)) h (st.seat seat (append (BeginRecord txn) m) (st.add (BeginRecord txn) m h))

insert_at_steady : (P : Machine → Type 0) (k : ℕ) → Steady P k → (m : Machine) (n : ℕ) (s : Seat) (txn reg : ℕ) (row : Row) (space : ℕ) (rid : Option Rid) → P m
    → P (insert_at m n k s txn reg row space rid).1
insert_at_steady P k st m n s txn reg row space None h = h
insert_at_steady P k st m n s txn reg row space (Some rid) h =
    let r : Record = Change txn rid None (Some row) in
    let seat : Seat = record s { registers = slice_set s.registers reg (Some rid) } in
    unless_keeps P m (no_room m) (At rid, with_seat k seat (change_row n rid r m)) h (st.seat seat (change_row n rid r m) (st.row n rid r m h))

insert_steady : (P : Machine → Type 0) (k : ℕ) → Steady P k → (m : Machine) (n : ℕ) (s : Seat) (txn : Option ℕ) (reg : ℕ) (name : List ℕ) (row : Row) → P m
    → P (insert_turn m n k s txn reg name row).1
insert_steady P k st m n s None reg name row h = h
insert_steady P k st m n s (Some txn) reg name row h = go (space_named (config_of m) name)
  where
    go : (space : Option ℕ) → P (insert_into m n k s txn reg row space).1
    go None = h
    go (Some space) =
        unless_keeps P m ((not (is_up m.lasting space), SpaceDown space) ∷ []) (insert_at m n k s txn reg row space (first_free m space)) h
        (insert_at_steady P k st m n s txn reg row space (first_free m space) h)

change_steady : (P : Machine → Type 0) (k : ℕ) → Steady P k → (m : Machine) (n : ℕ) (s : Seat) (txn : Option ℕ) (target : Target) (after : Option Row) → P m
    → P (change_turn m n k s txn target after).1
change_steady P k st m n s None target after h = h
change_steady P k st m n s (Some txn) target after h = go (target_of m s target)
  where
    go : (rid : Result Rid Reply) → P (change_at m n k txn after rid).1
    go (Err refusal) = h
    go (Ok rid) =
        let held = holder m k true rid in
        let before = row_in m rid in
        unless_keeps P m ((is_some held, RowLocked (unwrap_or held 0)) ∷ (is_none before, NoRow) ∷ no_room m)
        (Changed rid, change_row n rid (Change txn rid before after) m) h (st.row n rid (Change txn rid before after) m h)

row_is_steady : (P : Machine → Type 0) (k : ℕ) → Steady P k → (m : Machine) (s : Seat) (rid : Rid) (row : Option Row) → P m → P (row_is m k s rid row).1
row_is_steady P k st m s rid None h = h
row_is_steady P k st m s rid (Some row) h = st.seat (sharing s (rid ∷ [])) m h

read_steady : (P : Machine → Type 0) (k : ℕ) → Steady P k → (m : Machine) (s : Seat) (txn : Option ℕ) (target : Target) → P m → P (read_turn m k s txn target).1
read_steady P k st m s None target h = h
read_steady P k st m s (Some txn) target h = go (target_of m s target)
  where
    go : (rid : Result Rid Reply) → P (read_at m k s rid).1
    go (Err refusal) = h
    go (Ok rid) =
        let held = holder m k false rid in
        unless_keeps P m ((is_some held, RowLocked (unwrap_or held 0)) ∷ []) (row_is m k s rid (row_in m rid)) h (row_is_steady P k st m s rid (row_in m rid) h)

list_steady : (P : Machine → Type 0) (k : ℕ) → Steady P k → (m : Machine) (s : Seat) (txn : Option ℕ) (name : List ℕ) (page : ℕ) → P m → P (list_turn m k s txn name page).1
list_steady P k st m s None name page h = h
list_steady P k st m s (Some txn) name page h = go (space_named (config_of m) name)
  where
    go : (space : Option ℕ) → P (list_at m k s page space).1
    go None = h
    go (Some space) =
        let rids = full_slots m space page in
        let held = page_holder m k space page in
        unless_keeps P m
        ((not (has_page (config_of m) space page), BadRid) ∷ (not (is_up m.lasting space), SpaceDown space) ∷ (is_some held, RowLocked (unwrap_or held 0)) ∷ [])
        (Slots (sum_by (λ (r : Rid). 2 ^ r.slot) rids), with_seat k (sharing s rids) m) h (st.seat (sharing s rids) m h)

commit_steady : (P : Machine → Type 0) (k : ℕ) → Steady P k → (m : Machine) (s : Seat) (txn : Option ℕ) → P m → P (commit_at m k s txn).1
commit_steady P k st m s None h = h
commit_steady P k st m s (Some txn) h =
    let n = append (CommitRecord txn) m in
    st.seat (record s { txn = None; shares = [] }) (flush n) (same P k st n (flush n) (flushed n) refl (st.add (CommitRecord txn) m h))

rolled_steady : (P : Machine → Type 0) (k : ℕ) → Steady P k → (m : Machine) (s : Seat) (txn : Option ℕ) → P m → P (rolled_at m k s txn).1
rolled_steady P k st m s None h = h
rolled_steady P k st m s (Some txn) h = st.seat (record s { txn = None; shares = [] }) (append (Rolled txn) m) (st.add (Rolled txn) m h)

undo_steady : (P : Machine → Type 0) (k : ℕ) → Steady P k → (m : Machine) (n : ℕ) (txn : Option ℕ) → P m → P (undo_turn m n k txn).1
undo_steady P k st m n None h = h
undo_steady P k st m n (Some txn) h = go (pending_at m k)
  where
    go : (pending : List (Rid × Option Row)) → P (undo_at m n txn pending).1
    go [] = h
    go (p ∷ rest) = st.row n p.0 (Undo txn p.0 p.1) m h

-- ---- the turns of the warm restorer

-- they keep it, and so does giving up
pub record KeptByRestorer (P : Machine → Type 0) (shelf : Shelf) (m : Machine) : Type 0 where
  pub start : (space : Option ℕ) → P (warm_at m space).1
  pub read : (position : ℕ) (p : Option LogRange) → P (warm_log_at m position p).1
  pub put : (page : ℕ) → P (warm_put_at m page m.warm).1
  pub finish : (known : Known) → P (warm_end_at shelf m known m.warm).1
  pub cancel : P (record m { warm = None })

-- what depends on neither the restore under way nor which spaces are up is kept, where other pages of the space that comes up keep it
pub unwarmed : (P : Machine → Type 0) (shelf : Shelf) (m : Machine) → ((x y : Machine) → y.fixed ≡ x.fixed → y.work ≡ x.work → y.lasting.incarnation ≡ x.lasting.incarnation → y.archives ≡ x.archives → P x → P y)
    → ((w : Warming) → m.warm ≡ Some w → P (with_pages w.space (pages_drawn shelf m w.space) m)) → P m → KeptByRestorer P shelf m
unwarmed P shelf m free pages here = record {
  start = started;
  read = read;
  put = λ page. put page m.warm;
  finish = λ known. finish known m.warm refl;
  cancel = warmed None;
}
  where
    warmed : (w : Option Warming) → P (record m { warm = w })
    warmed w = free m (record m { warm = w }) refl refl refl refl here

    started : (space : Option ℕ) → P (warm_at m space).1
    started None = here
    started (Some space) =
        let n : Machine = record m { warm = Some (record { space = space; put = 0 }) } in
        unless_keeps P m ((is_up m.lasting space, NotDown space) ∷ []) (WarmingUpTo space (space_state m.lasting space).down_at, n) here (free m n refl refl refl refl here)

    read : (position : ℕ) (p : Option LogRange) → P (warm_log_at m position p).1
    read position None = warmed None
    read position (Some p) = here

    put : (page : ℕ) (w : Option Warming) → P (warm_put_at m page w).1
    put page None = here
    put page (Some w) = warmed (Some (record w { put = w.put + 1 }))

    finish : (known : Known) (w : Option Warming) → m.warm ≡ w → P (warm_end_at shelf m known w).1
    finish known None is = here
    finish known (Some w) is = free (with_pages w.space (pages_drawn shelf m w.space) m) (warm_end_at shelf m known (Some w)).1 refl refl refl refl (pages w is)

-- ---- the table of turns

-- the turns of an archiver keep it
pub record KeptByArchiver (P : Machine → Type 0) (m : Machine) (k : ℕ) : Type 0 where
  pub start : (level : ℕ) (names : List (List ℕ)) → P (start_at m k level names (archive_of m k)).1
  pub take : P (take_at m k (archive_of m k)).1
  pub finish : P (end_at m k (archive_of m k)).1
  pub cancel : (count : ℕ) (why : Why) → P (cancel_at count m k why (archive_of m k)).1

turn_of_steady : (P : Machine → Type 0) (shelf : Shelf) (g : Given) (m : Machine) (n k : ℕ) (event : Event) → Steady P k → KeptByArchiver P m k → KeptByRestorer P shelf m → P m
    → P (turn_of shelf g m n k event).1
turn_of_steady P shelf g m n k BeginTurn st a e h = begin_steady P k st m (seat_of m k) (seat_of m k).txn h
turn_of_steady P shelf g m n k (InsertTurn reg name row) st a e h = insert_steady P k st m n (seat_of m k) (seat_of m k).txn reg name row h
turn_of_steady P shelf g m n k (UpdateTurn target row) st a e h = change_steady P k st m n (seat_of m k) (seat_of m k).txn target (Some row) h
turn_of_steady P shelf g m n k (DeleteTurn target) st a e h = change_steady P k st m n (seat_of m k) (seat_of m k).txn target None h
turn_of_steady P shelf g m n k (ReadTurn target) st a e h = read_steady P k st m (seat_of m k) (seat_of m k).txn target h
turn_of_steady P shelf g m n k (ListTurn name page) st a e h = list_steady P k st m (seat_of m k) (seat_of m k).txn name page h
turn_of_steady P shelf g m n k CommitTurn st a e h = commit_steady P k st m (seat_of m k) (seat_of m k).txn h
turn_of_steady P shelf g m n k UndoOne st a e h = undo_steady P k st m n (seat_of m k).txn h
turn_of_steady P shelf g m n k EndRollback st a e h = rolled_steady P k st m (seat_of m k) (seat_of m k).txn h
turn_of_steady P shelf g m n k CheckpointTurn st a e h = st.rests m (make_checkpoint m) (checkpoint_rests m) h
turn_of_steady P shelf g m n k CleanTurn st a e h = st.rests m (clean_at m g.dirty).1 (clean_rests m g.dirty) h
turn_of_steady P shelf g m n k (ArchiveStart level names) st a e h = a.start level names
turn_of_steady P shelf g m n k ArchiveTurn st a e h = a.take
turn_of_steady P shelf g m n k ArchiveEnd st a e h = a.finish
turn_of_steady P shelf g m n k (ArchiveCancel why) st a e h = a.cancel g.count why
turn_of_steady P shelf g m n k LogPick st a e h =
    let u = to_back_up (config_of m) (reuse_of m) m.log.ring in
    st.rests m (pick_at m u).1 (pick_rests m u) h
turn_of_steady P shelf g m n k CopyPage st a e h = st.rests m (copy_at m m.log.picking).1 (copy_rests m m.log.picking) h
turn_of_steady P shelf g m n k LogDone st a e h = st.rests m (done_at m m.log.picking).1 (done_rests m m.log.picking) h
turn_of_steady P shelf g m n k (LogCancel why) st a e h = st.rests m (uncopied_at g.count m why m.log.picking).1 (uncopied_rests g.count m why m.log.picking) h
turn_of_steady P shelf g m n k SwitchTurn st a e h = st.rests m (switch_turn m).1 (switch_rests m) h
turn_of_steady P shelf g m n k (WarmStart name) st a e h = e.start (space_named (config_of m) name)
turn_of_steady P shelf g m n k (ReadLog position) st a e h = e.read position (page_of m.log.ring position)
turn_of_steady P shelf g m n k (WarmPut page) st a e h = e.put page
turn_of_steady P shelf g m n k (WarmEnd known) st a e h = e.finish known
turn_of_steady P shelf g m n k (WarmCancel since why) st a e h = e.cancel

halted : (m : Machine) (n : ℕ) → Stays m (record m { stopped = Some n })
halted m n = record { fixed = refl; work = refl; incarnation = refl; up = λ space. refl; warm = refl }

pub turn_steady : (P : Machine → Type 0) (shelf : Shelf) (g : Given) (m : Machine) (n : ℕ) (actor : Actor) (event : Event)
    → Steady P (number_of actor) → KeptByArchiver P m (number_of actor) → KeptByRestorer P shelf m → P m → P (turn shelf g m n actor event).1
turn_steady P shelf g m n actor event st a e h =
    turn_keeps P shelf g m n actor event h (same P (number_of actor) st m (record m { stopped = Some n }) (halted m n) refl h) (turn_of_steady P shelf g m n (number_of actor) event st a e h)
