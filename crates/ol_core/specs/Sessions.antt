-- The turns of sessions: what they answer and leave, with their refusals in order.
use Rattle.std.specs.Prelude.{List, None, Option, Some, slice_set, ℕ, ◌+◌}
use Rattle.ol_values.specs.declared.event.Reply.{Reply}
use Rattle.ol_values.specs.declared.event.Reply.TheVariants.{At, Begun, Committed, NoSpace, NoTxn, SpaceFull, TxnOpen}
use Rattle.ol_values.specs.declared.record.Record.TheVariants.{Begin as BeginRecord, Change, Commit as CommitRecord}
use Rattle.ol_values.specs.declared.record.Rid.{Rid}
use Rattle.ol_values.specs.declared.row.Row.{Row}
use Rattle.ol_values.specs.Config.{space_named}
use Rattle.ol_core.specs.Machine.{Machine, config_of, first_free, journal_in, last_of, seat_of, with_record, with_seat}

-- ---- begin

abbrev pub begin_at : Machine → ℕ → Option ℕ → Reply × Machine
begin_at m k (Some txn) = (TxnOpen, m)
begin_at m k None =
    let txn = last_of m + 1 in
    (Begun txn, with_seat k (record (seat_of m k) { txn = Some txn }) (with_record (BeginRecord txn) m))

abbrev pub begin_turn : Machine → ℕ → Reply × Machine
begin_turn m k = begin_at m k (seat_of m k).txn

-- ---- insert

-- a row goes to the slot, of which the register then tells
abbrev pub insert_at : Machine → ℕ → ℕ → ℕ → Row → ℕ → Option Rid → Reply × Machine
insert_at m k txn reg row space None = (SpaceFull space, m)
insert_at m k txn reg row space (Some rid) =
    let s = seat_of m k in
    (At rid, with_seat k (record s { registers = slice_set s.registers reg (Some rid) }) (with_record (Change txn rid None (Some row)) m))

abbrev pub insert_into : Machine → ℕ → ℕ → ℕ → Row → Option ℕ → Reply × Machine
insert_into m k txn reg row None = (NoSpace, m)
insert_into m k txn reg row (Some space) = insert_at m k txn reg row space (first_free (config_of m) (journal_in m) space)

abbrev pub insert_by : Machine → ℕ → Option ℕ → ℕ → List ℕ → Row → Reply × Machine
insert_by m k None reg name row = (NoTxn, m)
insert_by m k (Some txn) reg name row = insert_into m k txn reg row (space_named (config_of m) name)

abbrev pub insert_turn : Machine → ℕ → ℕ → List ℕ → Row → Reply × Machine
insert_turn m k reg name row = insert_by m k (seat_of m k).txn reg name row

-- ---- commit

abbrev pub commit_at : Machine → ℕ → Option ℕ → Reply × Machine
commit_at m k None = (NoTxn, m)
commit_at m k (Some txn) =
    (Committed (last_of m + 1), with_seat k (record (seat_of m k) { txn = None }) (with_record (CommitRecord txn) m))

abbrev pub commit_turn : Machine → ℕ → Reply × Machine
commit_turn m k = commit_at m k (seat_of m k).txn
