-- Which turns the lines of a script make: a line at a stage gives its next event, an answer its next stage.
use Rattle.std.specs.Prelude.{None, Option, Some, List, ℕ}
use Rattle.ol_values.specs.declared.event.Event.{Event}
use Rattle.ol_values.specs.declared.event.Event.TheVariants.{ArchiveCancel, ArchiveEnd, ArchiveStart, ArchiveTurn, Begin as BeginTurn, Commit as CommitTurn, Insert as InsertTurn}
use Rattle.ol_values.specs.declared.event.Reply.{Reply}
use Rattle.ol_values.specs.declared.event.Reply.TheVariants.{AllTaken, PageIs, Started}
use Rattle.ol_values.specs.declared.event.Why.{Why}
use Rattle.ol_values.specs.declared.line.Form.{Form}
use Rattle.ol_values.specs.declared.line.Form.TheVariants.{Archive as ArchiveLine, Begin as BeginLine, Commit as CommitLine, Insert as InsertLine}

-- how far the turns of a line have come
pub data Stage : Type 0 where
  -- no turn yet
  First : Stage
  -- an archive takes its pages
  Taking : Stage
  -- its pages are taken, and its trailer stands on tape
  Ending : Stage
  -- the tape failed or ended, and the archive is given up
  GivingUp : (why : Why) → Stage

-- what comes from outside between two turns of a line: the tape fails or ends after a turn
pub record Outside : Type 0 where
  pub after : Option Why

abbrev pub all_well : Outside
all_well = record { after = None }

abbrev pub archive_event : ℕ → List (List ℕ) → Stage → Event
archive_event level names First = ArchiveStart level names
archive_event level names Taking = ArchiveTurn
archive_event level names Ending = ArchiveEnd
archive_event level names (GivingUp why) = ArchiveCancel why

-- the event of a line at a stage, none for a line of a form that no actor carries out yet
abbrev pub event_at : Form → Stage → Option Event
event_at BeginLine stage = Some BeginTurn
event_at (InsertLine reg space row) stage = Some (InsertTurn reg space row)
event_at CommitLine stage = Some CommitTurn
event_at (ArchiveLine level spaces) stage = Some (archive_event level spaces stage)
event_at _ stage = None

-- a line that goes on, unless its tape failed or ended
abbrev pub goes_on : Option Why → Stage → Option Stage
goes_on None stage = Some stage
goes_on (Some why) stage = Some (GivingUp why)

-- the stage of an archive line after an answer, none where the line has ended
abbrev pub archive_after : Stage → Reply → Option Why → Option Stage
archive_after First (Started number cut pages) tape = goes_on tape Taking
archive_after Taking (PageIs space page) tape = goes_on tape Taking
archive_after Taking AllTaken tape = goes_on tape Ending
archive_after _ _ tape = None

abbrev pub stage_after : Form → Stage → Reply → Outside → Option Stage
stage_after (ArchiveLine level spaces) stage reply o = archive_after stage reply o.after
stage_after _ stage reply o = None
