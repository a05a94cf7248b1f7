-- The turns of sessions, entry n by session k: what they answer and leave, with their refusals in order.
use Rattle.std.specs.List.{list_any, range_with_len}
use Rattle.std.specs.Prelude.{Bool, Err, List, None, Ok, Option, Result, Some, [], false, filter, find, fold, if◌then◌else◌, is_none, is_some, map, not, slice_index_or, slice_set, sum_by, true, unwrap_or, ℕ, ◌&&◌, ◌++◌, ◌+◌, ◌==◌, ◌^◌, ◌∷◌}
use Rattle.ol_values.specs.declared.event.Reply.{Reply}
use Rattle.ol_values.specs.declared.event.Reply.TheVariants.{At, BadRid, Begun, Changed, Committed, NoRow, NoSpace, NoTxn, RolledBack, RowIs, RowLocked, Slots, SpaceDown, SpaceFull, TxnOpen, Unbound, Undone}
use Rattle.ol_values.specs.declared.event.Target.{Target}
use Rattle.ol_values.specs.declared.event.Target.TheVariants.{At as AtPlace, Reg}
use Rattle.ol_values.specs.declared.record.Record.TheVariants.{Begin as BeginRecord, Change, Commit as CommitRecord, Rolled, Undo}
use Rattle.ol_values.specs.declared.record.Rid.{Rid}
use Rattle.ol_values.specs.declared.row.Row.{Row}
use Rattle.ol_values.specs.Config.{has_page, has_place, space_named}
use Rattle.ol_values.specs.Pages.{rid_of}
use Rattle.ol_rules.specs.Journal.{same_place}
use Rattle.ol_rules.specs.Lasting.{is_up}
use Rattle.ol_model.specs.Answering.{no_room, unless}
use Rattle.ol_model.specs.Machine.{Machine, Seat, all_sessions, config_of, first_free, holder, last_of, owns, pending_at, row_in, with_seat}
use Rattle.ol_model.specs.Steps.{append, change_row, flush}

-- ---- begin and insert

abbrev pub begin_at : Machine → ℕ → Seat → Option ℕ → Reply × Machine
begin_at m k s (Some txn) = (TxnOpen, m)
begin_at m k s None =
    let txn = last_of m + 1 in
    unless m (no_room m) (Begun txn, with_seat k (record s { txn = Some txn }) (append (BeginRecord txn) m))

abbrev pub insert_at : Machine → ℕ → ℕ → Seat → ℕ → ℕ → Row → ℕ → Option Rid → Reply × Machine
insert_at m n k s txn reg row space None = (SpaceFull space, m)
insert_at m n k s txn reg row space (Some rid) =
    unless m (no_room m) (At rid, with_seat k (record s { registers = slice_set s.registers reg (Some rid) }) (change_row n rid (Change txn rid None (Some row)) m))

abbrev pub insert_into : Machine → ℕ → ℕ → Seat → ℕ → ℕ → Row → Option ℕ → Reply × Machine
insert_into m n k s txn reg row None = (NoSpace, m)
insert_into m n k s txn reg row (Some space) =
    unless m ((not (is_up m.lasting space), SpaceDown space) ∷ []) (insert_at m n k s txn reg row space (first_free m space))

abbrev pub insert_turn : Machine → ℕ → ℕ → Seat → Option ℕ → ℕ → List ℕ → Row → Reply × Machine
insert_turn m n k s None reg name row = (NoTxn, m)
insert_turn m n k s (Some txn) reg name row = insert_into m n k s txn reg row (space_named (config_of m) name)

-- ---- update and delete

-- the place that a target names, or its refusal
abbrev pub place_of : Machine → Rid → Result Rid Reply
place_of m rid = if has_place (config_of m) rid then (if is_up m.lasting rid.space then Ok rid else Err (SpaceDown rid.space)) else Err BadRid

abbrev pub place_in : Machine → ℕ → ℕ → Option ℕ → Result Rid Reply
place_in m page slot None = Err NoSpace
place_in m page slot (Some space) = place_of m (rid_of space page slot)

abbrev pub place_held : Machine → Option Rid → Result Rid Reply
place_held m None = Err Unbound
place_held m (Some rid) = place_of m rid

abbrev pub target_of : Machine → Seat → Target → Result Rid Reply
target_of m s (Reg reg) = place_held m (slice_index_or s.registers reg None)
target_of m s (AtPlace name page slot) = place_in m page slot (space_named (config_of m) name)

-- an update, or a delete where the row after is none
abbrev pub change_at : Machine → ℕ → ℕ → ℕ → Option Row → Result Rid Reply → Reply × Machine
change_at m n k txn after (Err refusal) = (refusal, m)
change_at m n k txn after (Ok rid) =
    let held = holder m k true rid in
    let before = row_in m rid in
    unless m
    ((is_some held, RowLocked (unwrap_or held 0)) ∷ (is_none before, NoRow) ∷ no_room m)
    (Changed rid, change_row n rid (Change txn rid before after) m)

abbrev pub change_turn : Machine → ℕ → ℕ → Seat → Option ℕ → Target → Option Row → Reply × Machine
change_turn m n k s None target after = (NoTxn, m)
change_turn m n k s (Some txn) target after = change_at m n k txn after (target_of m s target)

-- ---- read and list

-- a slot is shared once
abbrev pub add_share : List Rid → Rid → List Rid
add_share shared rid = if list_any (same_place rid) shared then shared else shared ++ rid ∷ []

abbrev pub sharing : Seat → List Rid → Seat
sharing s rids = record s { shares = fold add_share s.shares rids }

abbrev pub row_is : Machine → ℕ → Seat → Rid → Option Row → Reply × Machine
row_is m k s rid None = (NoRow, m)
row_is m k s rid (Some row) = (RowIs row, with_seat k (sharing s (rid ∷ [])) m)

abbrev pub read_at : Machine → ℕ → Seat → Result Rid Reply → Reply × Machine
read_at m k s (Err refusal) = (refusal, m)
read_at m k s (Ok rid) =
    let held = holder m k false rid in
    unless m ((is_some held, RowLocked (unwrap_or held 0)) ∷ []) (row_is m k s rid (row_in m rid))

abbrev pub read_turn : Machine → ℕ → Seat → Option ℕ → Target → Reply × Machine
read_turn m k s None target = (NoTxn, m)
read_turn m k s (Some txn) target = read_at m k s (target_of m s target)

-- the slots of a page that hold a row
abbrev pub full_slots : Machine → ℕ → ℕ → List Rid
full_slots m space page = filter (λ r. is_some (row_in m r)) (map (rid_of space page) (range_with_len 0 31))

-- the least other session that owns a slot of the page
abbrev pub page_holder : Machine → ℕ → ℕ → ℕ → Option ℕ
page_holder m k space page = find (λ j. not (j == k) && list_any (owns m j) (map (rid_of space page) (range_with_len 0 31))) all_sessions

abbrev pub list_at : Machine → ℕ → Seat → ℕ → Option ℕ → Reply × Machine
list_at m k s page None = (NoSpace, m)
list_at m k s page (Some space) =
    let rids = full_slots m space page in
    let held = page_holder m k space page in
    unless m
    ((not (has_page (config_of m) space page), BadRid) ∷ (not (is_up m.lasting space), SpaceDown space) ∷ (is_some held, RowLocked (unwrap_or held 0)) ∷ [])
    (Slots (sum_by (λ (r : Rid). 2 ^ r.slot) rids), with_seat k (sharing s rids) m)

abbrev pub list_turn : Machine → ℕ → Seat → Option ℕ → List ℕ → ℕ → Reply × Machine
list_turn m k s None name page = (NoTxn, m)
list_turn m k s (Some txn) name page = list_at m k s page (space_named (config_of m) name)

-- ---- commit and rollback

-- the session has no transaction any more, and no locks
abbrev pub without_txn : ℕ → Seat → Machine → Machine
without_txn k s m = with_seat k (record s { txn = None; shares = [] }) m

abbrev pub commit_at : Machine → ℕ → Seat → Option ℕ → Reply × Machine
commit_at m k s None = (NoTxn, m)
commit_at m k s (Some txn) = (Committed (last_of m + 1), without_txn k s (flush (append (CommitRecord txn) m)))

-- the newest pending change is taken back; none pending comes in no turn
abbrev pub undo_at : Machine → ℕ → ℕ → List (Rid × Option Row) → Reply × Machine
undo_at m n txn [] = (NoTxn, m)
undo_at m n txn (p ∷ rest) = (Undone p.0, change_row n p.0 (Undo txn p.0 p.1) m)

abbrev pub undo_turn : Machine → ℕ → ℕ → Option ℕ → Reply × Machine
undo_turn m n k None = (NoTxn, m)
undo_turn m n k (Some txn) = undo_at m n txn (pending_at m k)

abbrev pub rolled_at : Machine → ℕ → Seat → Option ℕ → Reply × Machine
rolled_at m k s None = (NoTxn, m)
rolled_at m k s (Some txn) = (RolledBack (last_of m + 1), without_txn k s (append (Rolled txn) m))
