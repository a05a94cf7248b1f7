-- Which turns the lines of a script make: a line at a stage gives its next event, an answer its next stage.
use Rattle.std.specs.Prelude.{Bool, Err, List, None, Ok, Option, Result, Some, [], false, flat_map, if◌then◌else◌, is_none, nat_lt, position, slice_get, suc, unwrap_or, zero, ℕ, ◌&&◌, ◌+◌, ◌-◌, ◌∷◌}
use Rattle.ol_values.specs.declared.event.Event.{Event}
use Rattle.ol_values.specs.declared.event.Event.TheVariants.{ArchiveCancel, ArchiveEnd, ArchiveStart, ArchiveTurn, Begin as BeginTurn, Checkpoint as CheckpointTurn, Clean as CleanTurn, Commit as CommitTurn, CopyPage, Delete as DeleteTurn, EndRollback, Insert as InsertTurn, ListPage as ListTurn, LogCancel, LogDone, LogPick, Read as ReadTurn, ReadLog, Switch as SwitchTurn, UndoOne, Update as UpdateTurn, WarmCancel, WarmEnd, WarmPut, WarmStart}
use Rattle.ol_values.specs.declared.event.Reply.{Reply}
use Rattle.ol_values.specs.declared.event.Reply.TheVariants.{AllTaken, Backed, Cleaned, LogPage, PageIs, Picked, Put, Started, Undone, WarmLog, Warming}
use Rattle.ol_values.specs.declared.event.Why.{Why}
use Rattle.ol_values.specs.declared.event.Why.TheVariants.{Asked}
use Rattle.ol_values.specs.declared.line.Form.{Form}
use Rattle.ol_values.specs.declared.line.Form.TheVariants.{Archive as ArchiveLine, Backup as BackupLine, Begin as BeginLine, Cancel as CancelLine, Checkpoint as CheckpointLine, Clean as CleanLine, Commit as CommitLine, Delete as DeleteLine, End as EndLine, Insert as InsertLine, List as ListLine, Read as ReadLine, Restore as RestoreLine, Rollback as RollbackLine, Start as StartLine, Switch as SwitchLine, Turn as TurnLine, Update as UpdateLine}
use Rattle.ol_values.specs.declared.record.Rid.{Rid}
use Rattle.ol_values.specs.declared.row.Row.{Row}
use Rattle.ol_values.specs.Config.{data_pages}
use Rattle.ol_model.specs.Machine.{Archive, Machine, archive_of, config_of, pending_at}
use Rattle.ol_model.specs.Waiting.{left_of}
use Rattle.ol_rules.specs.Plan.{Chain, Plan, known_by, plan_to}
use Rattle.ol_rules.specs.Ring.{last_of_range, no_range, page_of}
use Rattle.ol_rules.specs.Shelf.{Object, Shelf}

-- how far the turns of a line have come
pub data Stage : Type 0 where
  -- no turn yet
  First : Stage
  -- the tape failed or ended, and the archive or the backup is given up
  GivingUp : (why : Why) → Stage
  -- so many turns of a counted line are left
  Counting : (left : ℕ) → Stage
  -- an archive takes its pages
  Taking : Stage
  -- its pages are taken, and its trailer stands on tape
  Ending : Stage
  -- so many pages of the picked log file are to be copied, and so many backups of the line are left
  Copying : (pages left : ℕ) → Stage
  -- all its pages stand on tape, with the trailer
  Copied : (left : ℕ) → Stage
  -- the records of a space that is down are sought in the log files from this position on
  Seeking : (space position upto : ℕ) → Stage
  -- this page of the space is put next
  Putting : (space page upto : ℕ) → Stage
  -- what the shelf lacks ends the warm restore
  Refused : (since : ℕ) (why : Reply) → Stage

-- what comes from outside between two turns of a line: the tape before a trailer and after a turn, and what ends the reading of the shelf
pub record Outside : Type 0 where
  pub before : Option Why
  pub after : Option Why
  pub shelf : Option Reply
  pub since : ℕ

abbrev pub all_well : Outside
all_well = record { before = None; after = None; shelf = None; since = 0 }

-- whether an archive is running and no page of it is left
abbrev pub is_taken : Machine → Option Archive → Bool
is_taken m None = false
is_taken m (Some a) = is_none a.broken && is_none (slice_get (left_of m a) 0)

abbrev pub unless_tape_fails : Option Why → Stage → Stage
unless_tape_fails None stage = stage
unless_tape_fails (Some why) stage = GivingUp why

-- the stage at which a line comes to its turn: the trailer of an ending archive goes on tape before
abbrev pub stage_before : Machine → ℕ → Form → Stage → Outside → Stage
stage_before m k EndLine First o = if is_taken m (archive_of m k) then unless_tape_fails o.before First else First
stage_before m k form stage o = stage

-- ---- the next event

abbrev pub give_up : Form → Why → Event
give_up (BackupLine n) why = LogCancel why
give_up _ why = ArchiveCancel why

abbrev pub rollback_event : List (Rid × Option Row) → Event
rollback_event [] = EndRollback
rollback_event (p ∷ rest) = UndoOne

abbrev pub archive_event : ℕ → List (List ℕ) → Stage → Event
archive_event level names Taking = ArchiveTurn
archive_event level names Ending = ArchiveEnd
archive_event level names _ = ArchiveStart level names

abbrev pub backup_event : Stage → Event
backup_event (Copying pages left) = CopyPage
backup_event (Copied left) = LogDone
backup_event _ = LogPick

abbrev pub archives_in : Result Plan Reply → List Object
archives_in (Err refusal) = []
archives_in (Ok p) = flat_map (λ (c : Chain). c.archives) p.chains

abbrev pub put_event : Shelf → Machine → ℕ → ℕ → ℕ → Event
put_event shelf m space page upto =
    if nat_lt page (data_pages (config_of m) space) then WarmPut page else WarmEnd (known_by (archives_in (plan_to shelf (space ∷ []) upto)))

abbrev pub restore_event : Shelf → Machine → List ℕ → Stage → Event
restore_event shelf m name (Seeking space position upto) = ReadLog position
restore_event shelf m name (Putting space page upto) = put_event shelf m space page upto
restore_event shelf m name (Refused since why) = WarmCancel since why
restore_event shelf m name _ = WarmStart name

-- the event of a line that goes on
abbrev pub event_of : Shelf → Machine → ℕ → Form → Stage → Event
event_of shelf m k BeginLine stage = BeginTurn
event_of shelf m k (InsertLine reg space row) stage = InsertTurn reg space row
event_of shelf m k (UpdateLine target row) stage = UpdateTurn target row
event_of shelf m k (DeleteLine target) stage = DeleteTurn target
event_of shelf m k (ReadLine target) stage = ReadTurn target
event_of shelf m k (ListLine space page) stage = ListTurn space page
event_of shelf m k CommitLine stage = CommitTurn
event_of shelf m k RollbackLine stage = rollback_event (pending_at m k)
event_of shelf m k (StartLine level spaces) stage = ArchiveStart level spaces
event_of shelf m k (TurnLine n) stage = ArchiveTurn
event_of shelf m k EndLine stage = ArchiveEnd
event_of shelf m k CancelLine stage = ArchiveCancel Asked
event_of shelf m k (ArchiveLine level spaces) stage = archive_event level spaces stage
event_of shelf m k (BackupLine n) stage = backup_event stage
event_of shelf m k SwitchLine stage = SwitchTurn
event_of shelf m k (CleanLine n) stage = CleanTurn
event_of shelf m k CheckpointLine stage = CheckpointTurn
event_of shelf m k (RestoreLine name) stage = restore_event shelf m name stage

-- the event of a line at a stage
abbrev pub event_at : Shelf → Machine → ℕ → Form → Stage → Event
event_at shelf m k form (GivingUp why) = give_up form why
event_at shelf m k form stage = event_of shelf m k form stage

-- ---- the stage after a reply, none where the line has ended

abbrev pub counting : ℕ → Option Stage
counting zero = None
counting (suc left) = Some (Counting (suc left))

-- how many turns of a counted line are left at a stage
abbrev pub left_at : ℕ → Stage → ℕ
left_at n (Counting left) = left
left_at n (Copying pages left) = left
left_at n (Copied left) = left
left_at n _ = n

abbrev pub rollback_after : Reply → Option Stage
rollback_after (Undone rid) = Some First
rollback_after _ = None

-- a line that ends well unless its tape fails
abbrev pub ends_unless : Option Why → Option Stage → Option Stage
ends_unless None stage = stage
ends_unless (Some why) stage = Some (GivingUp why)

abbrev pub start_after : Reply → Option Why → Option Stage
start_after (Started number cut pages) tape = ends_unless tape None
start_after _ tape = None

abbrev pub turn_after : ℕ → Reply → Option Why → Option Stage
turn_after left (PageIs space page) tape = ends_unless tape (counting (left - 1))
turn_after left _ tape = None

abbrev pub archive_after : Reply → Option Why → Option Stage
archive_after (Started number cut pages) tape = ends_unless tape (Some Taking)
archive_after (PageIs space page) tape = ends_unless tape (Some Taking)
archive_after AllTaken tape = ends_unless tape (Some Ending)
archive_after _ tape = None

abbrev pub copying : ℕ → ℕ → Stage
copying zero left = Copied left
copying (suc pages) left = Copying (suc pages) left

abbrev pub copies_left : Stage → ℕ
copies_left (Copying pages left) = pages
copies_left _ = 0

abbrev pub backup_after : ℕ → Stage → Reply → Option Why → Option Stage
backup_after left stage (Picked uniq pages) tape = ends_unless tape (Some (copying pages left))
backup_after left stage (LogPage uniq index) tape = ends_unless tape (Some (copying (copies_left stage - 1) left))
backup_after left stage (Backed uniq) tape = counting (left - 1)
backup_after left stage _ tape = None

abbrev pub clean_after : ℕ → Reply → Option Stage
clean_after left (Cleaned space page) = counting (left - 1)
clean_after left _ = None

-- what the shelf gives for a space that is brought up: a refusal, log positions that it lacks, or all
abbrev pub planned : ℕ → ℕ → ℕ → Result Plan Reply → Stage
planned space upto since (Err refusal) = Refused since refusal
planned space upto since (Ok p) = elim p.short [ None ↦ Putting space 0 upto | Some position ↦ Seeking space position upto ]

abbrev pub unless_shelf_fails : Outside → Stage → Option Stage
unless_shelf_fails o stage = elim o.shelf [ None ↦ Some stage | Some why ↦ Some (Refused o.since why) ]

abbrev pub next_sought : Machine → ℕ → ℕ → ℕ → Stage
next_sought m space position upto =
    let next = last_of_range (unwrap_or (page_of m.log.ring position) no_range) + 1 in
    if nat_lt upto next then Putting space 0 upto else Seeking space next upto

abbrev pub restore_after : Shelf → Machine → Stage → Reply → Outside → Option Stage
restore_after shelf m stage (Warming space upto) o = unless_shelf_fails o (planned space upto o.since (plan_to shelf (space ∷ []) upto))
restore_after shelf m (Seeking space position upto) (WarmLog first) o = unless_shelf_fails o (next_sought m space position upto)
restore_after shelf m (Putting space page upto) (Put put) o = unless_shelf_fails o (Putting space (page + 1) upto)
restore_after shelf m stage _ o = None

-- the next stage of a line that goes on
abbrev pub stage_of : Shelf → Machine → Form → Stage → Reply → Outside → Option Stage
stage_of shelf m RollbackLine stage reply o = rollback_after reply
stage_of shelf m (StartLine level spaces) stage reply o = start_after reply o.after
stage_of shelf m (TurnLine n) stage reply o = turn_after (left_at n stage) reply o.after
stage_of shelf m (ArchiveLine level spaces) stage reply o = archive_after reply o.after
stage_of shelf m (BackupLine n) stage reply o = backup_after (left_at n stage) stage reply o.after
stage_of shelf m (CleanLine n) stage reply o = clean_after (left_at n stage) reply
stage_of shelf m (RestoreLine name) stage reply o = restore_after shelf m stage reply o
stage_of shelf m _ stage reply o = None

-- the stage after a reply, none where the line has ended
abbrev pub stage_after : Shelf → Machine → Form → Stage → Reply → Outside → Option Stage
stage_after shelf m form (GivingUp why) reply o = None
stage_after shelf m form (Refused since why) reply o = None
stage_after shelf m form stage reply o = stage_of shelf m form stage reply o
