-- How a command over a rig ended.
use Rattle.std.specs.Prelude.{Err, List, None, Ok, Option, Result, Some, [], codes, drop, take, ℕ, ◌++◌, ◌∷◌, ◌≡◌, ◌≢◌, ◌⊎◌}
use Rattle.std.specs.Io.KnownBytes.{Appends}
use Rattle.ol_values.specs.declared.history.Entry.{Entry}
use Rattle.ol_values.specs.declared.line.Line.{Line}
use Rattle.ol_values.specs.Config.{Config}
use Rattle.ol_values.specs.Text.{text}
use Rattle.ol_ports.specs.Causes.{IsCalm, Rose}
use Rattle.ol_ports.specs.Disk.{Bytes}
use Rattle.ol_volume.specs.Written.{Written}
use Rattle.ol_volume.specs.declared.writer.TapeEnd.TheVariants.{OutOfTape as OutEnd, TapeFault as FaultEnd}
use Rattle.ol_script.specs.Script.{script_of}
use Rattle.ol_online.specs.declared.archive.PlayEnd.{PlayEnd}
use Rattle.ol_online.specs.declared.archive.PlayEnd.TheVariants.{NoMemory as Starved, Tape as TapeStop}
use Rattle.ol_online.specs.declared.told.Told.{Told}
use Rattle.ol_online.specs.declared.told.Told.TheVariants.{Formatted, Nothing, Played}
use Rattle.ol_online.specs.declared.status.Status.{Status}
use Rattle.ol_online.specs.declared.status.Status.TheVariants.{BadScript, BadWords, NoMemory, Ok as Done, OutOfTape, ReadFault, TapeFault, WriteFault}
use Rattle.ol_online.specs.declared.words.Verb.{Verb}
use Rattle.ol_online.specs.declared.words.Verb.TheVariants.{Init, Play}
use Rattle.ol_online.specs.Initing.{EndsInit}
use Rattle.ol_online.specs.Opening.{IsOpening}
use Rattle.ol_online.specs.Planning.{lines_planned}
use Rattle.ol_online.specs.Playing.{PlaysShort, PlaysWell}
use Rattle.ol_online.specs.Status.{status_text}
use Rattle.ol_online.specs.Views.{Change, DiskView, SinkView, SourceView, bytes_on}

-- ---- the output

abbrev pub history_in : Told → List Entry
history_in Nothing = []
history_in Formatted = []
history_in (Played c h) = h

-- what is told besides the status: that the disk was formatted, or the history of a play
abbrev pub told_text : Told → List ℕ
told_text Nothing = []
told_text Formatted = codes "ready\n"
told_text (Played c h) = text c h

-- the output: what is told, and then the text of the status
abbrev pub output_of : Told → Status → List ℕ
output_of told status = told_text told ++ status_text status

-- the status that is reported for the one that the work ended with
abbrev pub IsReported : ℕ → ℕ → Status → Status → Type 0
IsReported before after ended status = (status ≡ ended) ⊎ ((ended ≡ Done) × (status ≡ WriteFault) × Rose before after)

-- what the sink got: all of the output where no fault came, and on Ok; a first part of it in any case
pub record WritesOut (writes : Change SinkView) (status : Status) (output : List ℕ) : Type 0 where
  pub calm : IsCalm writes.old.faults writes.new.faults → (status ≢ WriteFault) × Appends writes.old.contents writes.new.contents output
  pub part : (n : ℕ) × Appends writes.old.contents writes.new.contents (take n output)
  pub whole : status ≡ Done → Appends writes.old.contents writes.new.contents output

-- ---- a play

-- what the source's bytes are as a script, where it tells them
abbrev pub Says : Option (List ℕ) → Result (List Line) ℕ → Type 0
Says left answer = (bytes : List ℕ) → left ≡ Some bytes → script_of bytes ≡ answer

-- what reading a script gives: what the source tells, and its count of faults before and after
abbrev pub EndsScript : Option (List ℕ) → ℕ → ℕ → Result (List Line) Status → Type 0
EndsScript left before after (Ok lines) = Says left (Ok lines)
EndsScript left before after (Err (BadScript line)) = Says left (Err line)
EndsScript left before after (Err ReadFault) = Rose before after
EndsScript left before after (Err NoMemory) = Unit {0}
EndsScript left before after _ = ⊥

-- the archive line behind so many lines of the session, if there is one
abbrev pub first_of : List Line → Option Line
first_of [] = None
first_of (line ∷ lines) = Some line

abbrev pub archive_line_in : ℕ → List Line → Option Line
archive_line_in n lines = first_of (drop n lines)

-- as what the play of a script ended
abbrev pub PlayedTo : Config → List Line → Option Line → Written → List Entry → Written → Status → Type 0
PlayedTo c lines archive w h v Done = PlaysWell c lines archive w h v
PlayedTo c lines archive w h v NoMemory = PlaysShort c lines archive w h v Starved
PlayedTo c lines archive w h v (TapeFault drive) = (count : ℕ) × PlaysShort c lines archive w h v (TapeStop (FaultEnd drive count))
PlayedTo c lines archive w h v (OutOfTape drive) = PlaysShort c lines archive w h v (TapeStop (OutEnd drive))
PlayedTo c lines archive w h v _ = ⊥

-- nothing was played, and drive 1 is as it was
abbrev pub IsUnplayed : Written → Told → Written → Type 0
IsUnplayed w told v = (told ≡ Nothing) × (v ≡ w)

-- what was read and opened, and how much of it is built
pub record IsPrepared (left : Option (List ℕ)) (tells : Type 0) (d : Bytes) (sizes : ℕ → ℕ) (lines : List Line) (c : Config) (plan : Result ℕ ℕ) : Type 0 where
  pub says : Says left (Ok lines)
  pub opens : IsOpening tells d sizes (Ok c)
  pub plans : lines_planned c lines ≡ plan

-- the lines that are played, the configuration that they are played over, and how the play ended
pub record IsPlayed (c : Config) (lines : List Line) (n : ℕ) (tape : Change Written) (told : Told) (status : Status) : Type 0 where
  pub history : List Entry
  pub told_is : told ≡ Played c history
  pub played : PlayedTo c lines (archive_line_in n lines) tape.old history tape.new status

-- why nothing was played: no script was read, no disk was opened, or a line is not built
abbrev pub EndsUnplayed : Option (List ℕ) → ℕ → ℕ → Type 0 → Bytes → (ℕ → ℕ) → Status → Type 0
EndsUnplayed left before after tells d sizes status =
    EndsScript left before after (Err status)
    ⊎ ((lines : List Line) × Says left (Ok lines) × IsOpening tells d sizes (Err status))
    ⊎ ((lines : List Line) × (c : Config) × (n : ℕ) × IsPrepared left tells d sizes lines c (Err n) × (status ≡ BadScript n))

-- how a play ended, by what it read of the source, the disk as it was, what it put on drive 1, what is told and the status
abbrev pub EndsPlayed : Type 0 → Change SourceView → DiskView → Change Written → Told → Status → Type 0
EndsPlayed tells reads disk tape told status =
    (IsUnplayed tape.old told tape.new × EndsUnplayed reads.old.left reads.old.faults reads.new.faults tells (bytes_on disk) disk.sizes status)
    ⊎ ((lines : List Line) × (c : Config) × (n : ℕ) × IsPrepared reads.old.left tells (bytes_on disk) disk.sizes lines c (Ok n) × IsPlayed c lines n tape told status)

-- ---- a command

-- what a formatting tells
abbrev pub told_of_init : Result Unit Status → Told
told_of_init (Ok u) = Formatted
told_of_init (Err status) = Nothing

abbrev pub status_of_init : Result Unit Status → Status
status_of_init (Ok u) = Done
status_of_init (Err status) = status

-- a formatting ended so
pub record IsInit (tells : Type 0) (reads : Change SourceView) (disk : Change DiskView) (told : Told) (status : Status) : Type 0 where
  pub result : Result Unit Status
  pub told_is : told ≡ told_of_init result
  pub status_is : status ≡ status_of_init result
  pub ends : EndsInit reads.old.left reads.old.faults reads.new.faults tells disk.old.sizes disk.new.past result

-- how the work of a command ended, by what its words ask for
abbrev pub EndsWork : Option Verb → Type 0 → Change SourceView → Change DiskView → Change Written → Told → Status → Type 0
EndsWork None tells reads disk tape told status = IsUnplayed tape.old told tape.new × (status ≡ BadWords)
EndsWork (Some Init) tells reads disk tape told status = IsInit tells reads disk told status × (tape.new ≡ tape.old)
EndsWork (Some Play) tells reads disk tape told status = EndsPlayed tells reads disk.old tape told status

-- how a command of this verb ended, by what it did to source, disk, drive 1 and sink, with this history and status
pub record IsCommanded (verb : Option Verb) (tells : Type 0) (reads : Change SourceView) (disk : Change DiskView) (tape : Change Written) (writes : Change SinkView) (h : List Entry) (status : Status) : Type 0 where
  pub told : Told
  pub ended : Status
  pub history : history_in told ≡ h
  pub ends : EndsWork verb tells reads disk tape told ended
  pub no_write : ended ≢ WriteFault
  pub reported : IsReported writes.old.faults writes.new.faults ended status
  pub output : WritesOut writes status (output_of told status)

-- ---- on the way

-- the status of a play that ended so
abbrev pub status_of_play : Result Unit PlayEnd → Status
status_of_play (Ok u) = Done
status_of_play (Err Starved) = NoMemory
status_of_play (Err (TapeStop (FaultEnd drive count))) = TapeFault drive
status_of_play (Err (TapeStop (OutEnd drive))) = OutOfTape drive

abbrev pub IsPlayStatus : Status → Type 0
IsPlayStatus Done = Unit {0}
IsPlayStatus NoMemory = Unit {0}
IsPlayStatus (TapeFault drive) = Unit {0}
IsPlayStatus (OutOfTape drive) = Unit {0}
IsPlayStatus _ = ⊥
