-- The table of turns: what each answers and leaves. What neither state nor event holds, the devices give.
use Rattle.std.specs.Prelude.{Bool, None, Option, Some, false, if◌then◌else◌, true, ℕ}
use Rattle.ol_values.specs.declared.event.Event.{Event}
use Rattle.ol_values.specs.declared.event.Event.TheVariants.{ArchiveCancel, ArchiveEnd, ArchiveStart, ArchiveTurn, Begin as BeginTurn, Checkpoint as CheckpointTurn, Clean as CleanTurn, Commit as CommitTurn, CopyPage, Delete as DeleteTurn, EndRollback, Insert as InsertTurn, ListPage as ListTurn, LogCancel, LogDone, LogPick, Read as ReadTurn, ReadLog, Switch as SwitchTurn, UndoOne, Update as UpdateTurn, WarmCancel, WarmEnd, WarmPut, WarmStart}
use Rattle.ol_values.specs.declared.event.Reply.{Reply}
use Rattle.ol_values.specs.declared.event.Reply.TheVariants.{Archiving, BadRead, BadRid, BeforeFull, Cleaned, DiskFault, MissingLog, NoArchive, NoParent, NoSpace, NoTxn, NotDown, NothingDirty, NothingToBack, PagesLeft, SpaceDown, Stopped, TapeFault, TxnOpen, Unbound}
use Rattle.ol_values.specs.declared.history.Actor.{Actor}
use Rattle.ol_values.specs.declared.history.Actor.TheVariants.{Archiver, Backer, Checkpointer, Flusher, Session, Warmer}
use Rattle.ol_values.specs.Config.{space_named}
use Rattle.ol_rules.specs.Ring.{page_of, to_back_up}
use Rattle.ol_rules.specs.Shelf.{Shelf}
use Rattle.ol_model.specs.ArchiveTurns.{cancel_at, end_at, start_at, take_at}
use Rattle.ol_model.specs.LogTurns.{checkpoint_turn, clean_at, copy_at, done_at, pick_at, switch_turn, uncopied_at}
use Rattle.ol_model.specs.Machine.{Machine, archive_of, config_of, reuse_of, seat_of}
use Rattle.ol_model.specs.SessionTurns.{begin_at, change_turn, commit_at, insert_turn, list_turn, read_turn, rolled_at, undo_turn}
use Rattle.ol_model.specs.WarmTurns.{warm_at, warm_end_at, warm_log_at, warm_put_at}

-- ---- what the devices give

-- a call of the disk on a chunk failed, or a page was read that is not in its grammar
pub data DeviceFault : Type 0 where
  DiskFails : (chunk : ℕ) → DeviceFault
  ReadsBad : (chunk page : ℕ) → DeviceFault

-- a fault, the count of faults that the actor's drive shows, and the page that became dirty first
pub record Given : Type 0 where
  pub fault : Option DeviceFault
  pub count : ℕ
  pub dirty : Option (ℕ × ℕ)

abbrev pub quiet : Given
quiet = record { fault = None; count = 0; dirty = None }

-- what a reply tells of it
abbrev pub given_by : Reply → Given
given_by (DiskFault chunk) = record { fault = Some (DiskFails chunk); count = 0; dirty = Some (0, 0) }
given_by (BadRead chunk page) = record { fault = Some (ReadsBad chunk page); count = 0; dirty = Some (0, 0) }
given_by (TapeFault drive count) = record quiet { count = count }
given_by (Cleaned space page) = record quiet { dirty = Some (space, page) }
given_by _ = quiet

-- ---- the table

-- a turn of entry n, by the actor's number k, where the engine goes on and no device fails
abbrev pub turn_of : Shelf → Given → Machine → ℕ → ℕ → Event → Reply × Machine
turn_of shelf g m n k BeginTurn = begin_at m k (seat_of m k) (seat_of m k).txn
turn_of shelf g m n k (InsertTurn reg name row) = insert_turn m n k (seat_of m k) (seat_of m k).txn reg name row
turn_of shelf g m n k (UpdateTurn target row) = change_turn m n k (seat_of m k) (seat_of m k).txn target (Some row)
turn_of shelf g m n k (DeleteTurn target) = change_turn m n k (seat_of m k) (seat_of m k).txn target None
turn_of shelf g m n k (ReadTurn target) = read_turn m k (seat_of m k) (seat_of m k).txn target
turn_of shelf g m n k (ListTurn name page) = list_turn m k (seat_of m k) (seat_of m k).txn name page
turn_of shelf g m n k CommitTurn = commit_at m k (seat_of m k) (seat_of m k).txn
turn_of shelf g m n k UndoOne = undo_turn m n k (seat_of m k).txn
turn_of shelf g m n k EndRollback = rolled_at m k (seat_of m k) (seat_of m k).txn
turn_of shelf g m n k CheckpointTurn = checkpoint_turn m
turn_of shelf g m n k CleanTurn = clean_at m g.dirty
turn_of shelf g m n k (ArchiveStart level names) = start_at m k level names (archive_of m k)
turn_of shelf g m n k ArchiveTurn = take_at m k (archive_of m k)
turn_of shelf g m n k ArchiveEnd = end_at m k (archive_of m k)
turn_of shelf g m n k (ArchiveCancel why) = cancel_at g.count m k why (archive_of m k)
turn_of shelf g m n k LogPick = pick_at m (to_back_up (config_of m) (reuse_of m) m.log.ring)
turn_of shelf g m n k CopyPage = copy_at m m.log.picking
turn_of shelf g m n k LogDone = done_at m m.log.picking
turn_of shelf g m n k (LogCancel why) = uncopied_at g.count m why m.log.picking
turn_of shelf g m n k SwitchTurn = switch_turn m
turn_of shelf g m n k (WarmStart name) = warm_at m (space_named (config_of m) name)
turn_of shelf g m n k (ReadLog position) = warm_log_at m position (page_of m.log.ring position)
turn_of shelf g m n k (WarmPut page) = warm_put_at m page m.warm
turn_of shelf g m n k (WarmEnd known) = warm_end_at shelf m known m.warm
turn_of shelf g m n k (WarmCancel since why) = (why, record m { warm = None })

-- ---- faults

-- the refusals that a turn meets before it calls a device; the others yield to a fault
abbrev pub comes_first : Reply → Bool
comes_first NoTxn = true
comes_first TxnOpen = true
comes_first (SpaceDown space) = true
comes_first NoSpace = true
comes_first Unbound = true
comes_first (Archiving archiver) = true
comes_first (NoParent space level) = true
comes_first NoArchive = true
comes_first (BeforeFull entry) = true
comes_first (PagesLeft count) = true
comes_first (NotDown space) = true
comes_first BadRid = true
comes_first NothingDirty = true
comes_first NothingToBack = true
comes_first (MissingLog position) = true
comes_first _ = false

abbrev pub fault_reply : DeviceFault → Reply
fault_reply (DiskFails chunk) = DiskFault chunk
fault_reply (ReadsBad chunk page) = BadRead chunk page

-- a fault stops the engine
abbrev pub faulted : Option DeviceFault → Machine → ℕ → Reply × Machine → Reply × Machine
faulted None m n r = r
faulted (Some f) m n r = if comes_first r.0 then r else (fault_reply f, record m { stopped = Some n })

-- each turn of a stopped engine tells the entry that stopped it
abbrev pub turn_unless : Option ℕ → Shelf → Given → Machine → ℕ → ℕ → Event → Reply × Machine
turn_unless (Some entry) shelf g m n k event = (Stopped entry, m)
turn_unless None shelf g m n k event = faulted g.fault m n (turn_of shelf g m n k event)

-- the number of an actor among those of its kind
abbrev pub number_of : Actor → ℕ
number_of (Session k) = k
number_of (Archiver k) = k
number_of Backer = 0
number_of Flusher = 0
number_of Checkpointer = 0
number_of Warmer = 0

-- what entry n of this actor answers, and the state after it
abbrev pub turn : Shelf → Given → Machine → ℕ → Actor → Event → Reply × Machine
turn shelf g m n actor event = turn_unless m.stopped shelf g m n (number_of actor) event
