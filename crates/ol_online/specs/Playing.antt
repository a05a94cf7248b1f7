-- How far a play of lines has come, and what it has put on tape.
use Rattle.std.specs.Option.{option_map}
use Rattle.std.specs.Prelude.{Bool, List, None, Option, Some, [], drop, false, is_some, length, map, option_to_list, replicate, suc, take, true, unwrap_or, ℕ, ◌++◌, ◌+◌, ◌<◌, ◌∷◌, ◌≡◌, ◌≤◌, ◌⊎◌}
use Rattle.ol_values.specs.declared.event.Reply.{Reply}
use Rattle.ol_values.specs.declared.event.Reply.TheVariants.{OutOfTape as OutReply, TapeFault as FaultReply}
use Rattle.ol_values.specs.declared.event.Why.{Why}
use Rattle.ol_values.specs.declared.event.Why.TheVariants.{Fault, Full}
use Rattle.ol_values.specs.declared.history.Entry.{Entry}
use Rattle.ol_values.specs.declared.history.Actor.TheVariants.{Archiver, Session}
use Rattle.ol_values.specs.declared.line.Form.{Form}
use Rattle.ol_values.specs.declared.line.Form.TheVariants.{Archive as ArchiveLine, Begin as BeginLine, Commit as CommitLine, Insert as InsertLine}
use Rattle.ol_values.specs.declared.line.Line.{Line}
use Rattle.ol_values.specs.declared.record.Record.{Record}
use Rattle.ol_core.specs.Archivers.{saved_of, spaces_named}
use Rattle.ol_values.specs.Blocks.{ArchiveHead, Block}
use Rattle.ol_values.specs.Config.{Config, config_text}
use Rattle.ol_core.specs.History.{Happening, Leads, Legal, Plays, Position, first_or, journal_of, start_of, well}
use Rattle.ol_core.specs.Lines.{Ending, First, Outside, Stage, Taking, goes_on}
use Rattle.ol_core.specs.Machine.{Archive, archive_of, formatted, journal_in, left_of}
use Rattle.ol_values.specs.Blocks.{Saved}
use Rattle.ol_rules.specs.Saveset.{places}
use Rattle.ol_core.specs.Tape.{archive_blocks}
use Rattle.ol_rules.specs.Transactions.{low_at}
use Rattle.ol_object.specs.Bytes.{bytes_of}
use Rattle.ol_ports.specs.Causes.{Rose}
use Rattle.ol_ports.specs.Drive.{Tape, capacity, stream_of}
use Rattle.ol_volume.specs.Written.{EndsPut, Written}
use Rattle.ol_volume.specs.declared.writer.TapeEnd.{TapeEnd}
use Rattle.ol_volume.specs.declared.writer.TapeEnd.TheVariants.{OutOfTape, TapeFault}
use Rattle.ol_core.specs.Core.{Seen}
use Rattle.ol_online.specs.declared.archive.PlayEnd.{PlayEnd}
use Rattle.ol_online.specs.declared.archive.PlayEnd.TheVariants.{NoMemory, Tape as TapeStop}
use denote.Ref.{Bor}

-- ---- the lines of a play

-- a begin, a commit, or an insert with one of ten registers
abbrev pub IsPlayedForm : Form → Type 0
IsPlayedForm BeginLine = Unit {0}
IsPlayedForm (InsertLine reg space row) = reg < 10
IsPlayedForm CommitLine = Unit {0}
IsPlayedForm _ = ⊥

-- a line of the session: it begins a transaction, inserts a row or commits
abbrev pub IsSessionLine : Line → Type 0
IsSessionLine line = (line.actor ≡ Session 1) × IsPlayedForm line.form

-- the names in an archive line
abbrev pub names_in : Form → List (List ℕ)
names_in (ArchiveLine level names) = names
names_in _ = []

-- an archive line of level 0
abbrev pub IsArchiveLine : Line → Type 0
IsArchiveLine line = (line.actor ≡ Archiver 1) × (line.form ≡ ArchiveLine 0 (names_in line.form))

-- each name in it is that of a space
abbrev pub IsNamed : Config → Line → Type 0
IsNamed c line = is_some (spaces_named c (names_in line.form)) ≡ true

-- the archive line, where there is one
abbrev pub line_in : Option (Bor Line) → Option Line
line_in None = None
line_in (Some line) = Some line.now

-- the lines of the session, and then the archive line
abbrev pub all_lines : List Line → Option (Bor Line) → List Line
all_lines lines archive = lines ++ option_to_list (line_in archive)

-- the work of an archive line: the configuration, the spaces of the archive, and the journal after which it begins
pub record Job : Type 0 where
  pub config : Config
  pub spaces : List Saved
  pub journal : List Record

abbrev pub job_of : Config → Line → List Record → Job
job_of c line journal = record { config = c; spaces = saved_of c (unwrap_or (spaces_named c (names_in line.form)) []); journal = journal }

-- the archive head that its header and its trailer carry
abbrev pub head_of_job : Job → ArchiveHead
head_of_job job = record { spaces = job.spaces; text = config_text job.config }

-- ---- how far a play has come

-- the position with this state, history, lines that are left and stage of the first of them
abbrev pub at_stage : Seen → List Line → Stage → Position
at_stage s left stage = record { machine = s.machine; number = length s.history + 1; lines = left; stage = stage }

-- the play of these lines has come so far, with all well
pub record IsReached (c : Config) (lines : List Line) (s : Seen) (left : List Line) (stage : Stage) : Type 0 where
  pub leads : Leads (start_of (formatted c) lines) (map well s.history) (at_stage s left stage)

-- the last turn was made, and its blocks are not on tape yet: how the first line goes on is still to come from outside
pub record IsTurned (c : Config) (lines : List Line) (s : Seen) (left : List Line) (next : Stage) : Type 0 where
  pub before : List Entry
  pub last : Entry
  pub history : s.history ≡ before ++ last ∷ []
  pub leads : (o : Outside) → Leads (start_of (formatted c) lines) (map well before ++ (let h : Happening = record { entry = last; outside = o } in h) ∷ []) (at_stage s left (first_or (goes_on o.after next)))

-- these entries are those of the lines in file order, to the end of the last line or, where memory was wanted, of a first part of the work
pub record IsRun (c : Config) (lines : List Line) (starved : Bool) (s : Seen) : Type 0 where
  pub happenings : List Happening
  pub entries : map (λ (x : Happening). x.entry) happenings ≡ s.history
  pub end : Position
  pub leads : Leads (start_of (formatted c) lines) happenings end
  pub machine : end.machine ≡ s.machine
  pub done : (end.lines ≡ []) ⊎ (starved ≡ true)

-- no archive is running, and none was begun
pub record IsWaiting (c : Config) (s : Seen) : Type 0 where
  pub idle : s.machine.archives ≡ replicate 4 None
  pub next : s.machine.next_archive ≡ 1
  pub fixed : s.machine.fixed ≡ (formatted c).fixed

-- ---- the tape

-- the first archive of these spaces, begun after this journal
abbrev pub first_archive : Job → Archive
first_archive job = record { number = 1; level = 0; cut = length job.journal; low = low_at job.journal; spaces = job.spaces; passed = 0 }

-- its blocks: header, the pages that the journal changed, trailer
abbrev pub whole_archive : Job → List Block
whole_archive job = archive_blocks (formatted job.config).fixed job.journal (first_archive job)

-- the pages of such an archive
abbrev pub archive_pages : Job → List (ℕ × ℕ)
archive_pages job = places job.config (take (length job.journal) job.journal) job.spaces

-- the bytes of the first so many blocks
abbrev pub first_blocks : ℕ → List Block → List (List ℕ)
first_blocks k blocks = take k (map bytes_of blocks)

abbrev pub and_blocks : Option (List (List ℕ)) → List (List ℕ) → Option (List (List ℕ))
and_blocks stream blocks = option_map (λ s. s ++ blocks) stream

-- the drive's stream has grown by these blocks, and its capacity has fallen by as many
pub record Wrote (old : Written) (blocks : List (List ℕ)) (new : Written) : Type 0 where
  pub stream : stream_of new.tape ≡ and_blocks (stream_of old.tape) blocks
  pub room : capacity new.tape + length blocks ≡ capacity old.tape
  pub faults : new.faults ≡ old.faults
  pub number : new.number ≡ old.number

-- the drive's stream has grown by a first part of these blocks
abbrev pub WrotePart : Written → List Block → Written → Type 0
WrotePart old blocks new = (k : ℕ) × (stream_of new.tape ≡ and_blocks (stream_of old.tape) (first_blocks k blocks))

-- why not all of these blocks stand on the drive: its count of faults rose, or they are more than its volumes take
abbrev pub EndsTape : Written → List Block → Written → TapeEnd → Type 0
EndsTape old blocks new (TapeFault drive count) = (drive ≡ old.number) × (count ≡ new.faults) × Rose old.faults new.faults
EndsTape old blocks new (OutOfTape drive) =
    (drive ≡ old.number) × (capacity old.tape < length blocks) × (new.tape.room ≡ 0) × (new.tape.rooms ≡ []) × (new.faults ≡ old.faults)

-- all blocks on the drive are durable
abbrev pub IsSynced : Tape → Type 0
IsSynced t = t.synced ≡ unwrap_or (option_map length (stream_of t)) t.synced

-- ---- an archive

-- the archive of this journal is running, and so many of its pages have passed
pub record IsRunning (s : Seen) (job : Job) (k : ℕ) : Type 0 where
  pub archives : s.machine.archives ≡ Some (record (first_archive job) { passed = k }) ∷ replicate 3 None
  pub journal_is : journal_in s.machine ≡ job.journal
  pub fixed : s.machine.fixed ≡ (formatted job.config).fixed
  pub passed : k ≤ length (archive_pages job)

-- it takes its pages: the header and so many of them stand on tape
pub record IsCopying (lines : List Line) (line : Line) (job : Job) (w : Written) (s : Seen) (v : Written) (k : ℕ) : Type 0 where
  pub reached : IsReached job.config lines s (line ∷ []) Taking
  pub running : IsRunning s job k
  pub wrote : Wrote w (first_blocks (suc k) (whole_archive job)) v

-- one page more is taken, and this is its block
pub record IsPaged (lines : List Line) (line : Line) (job : Job) (w : Written) (s : Seen) (v : Written) (k : ℕ) (block : List ℕ) : Type 0 where
  pub turned : IsTurned job.config lines s (line ∷ []) Taking
  pub running : IsRunning s job (k + 1)
  pub wrote : Wrote w (first_blocks (suc k) (whole_archive job)) v
  pub next : first_blocks (suc (k + 1)) (whole_archive job) ≡ first_blocks (suc k) (whole_archive job) ++ block ∷ []

-- all its pages are taken and stand on tape
pub record IsCopied (lines : List Line) (line : Line) (job : Job) (w : Written) (s : Seen) (v : Written) (k : ℕ) : Type 0 where
  pub turned : IsTurned job.config lines s (line ∷ []) Ending
  pub running : IsRunning s job k
  pub none : drop k (archive_pages job) ≡ []
  pub wrote : Wrote w (first_blocks (suc k) (whole_archive job)) v

-- how its copying ended early
abbrev pub Interrupts : List Line → Line → Job → Written → Seen → Written → PlayEnd → Type 0
Interrupts lines line job w s v NoMemory =
    IsRun job.config lines true s × (journal_in s.machine ≡ job.journal) × WrotePart w (whole_archive job) v × (v.faults ≡ w.faults)
Interrupts lines line job w s v (TapeStop end) =
    ((next : Stage) × IsTurned job.config lines s (line ∷ []) next) × ((k : ℕ) × IsRunning s job k) × WrotePart w (whole_archive job) v × EndsTape w (whole_archive job) v end

-- how many pages of the running archive have not passed
abbrev pub pages_ahead : Seen → ℕ
pages_ahead s = length (unwrap_or (option_map (left_of s.machine) (archive_of s.machine 1)) [])

-- the archive has begun, and nothing of it is on tape yet
pub record IsBegun (lines : List Line) (line : Line) (job : Job) (s : Seen) : Type 0 where
  pub turned : IsTurned job.config lines s (line ∷ []) Taking
  pub running : IsRunning s job 0

-- the archive stands on tape, whole and durable, and is about to end
pub record IsOnTape (lines : List Line) (line : Line) (job : Job) (w : Written) (s : Seen) (v : Written) : Type 0 where
  pub reached : IsReached job.config lines s (line ∷ []) Ending
  pub journal_is : journal_in s.machine ≡ job.journal
  pub wrote : Wrote w (map bytes_of (whole_archive job)) v
  pub synced : IsSynced v.tape

-- what a put that was refused leaves; where memory was wanted, all as it was
abbrev pub RefusesPut : Written → List ℕ → Written → PlayEnd → Type 0
RefusesPut old block new NoMemory = new ≡ old
RefusesPut old block new (TapeStop end) = EndsPut old block new end

-- the reply that tells of a tape that failed or ended
abbrev pub reply_of : TapeEnd → Reply
reply_of (TapeFault drive count) = FaultReply drive count
reply_of (OutOfTape drive) = OutReply drive

abbrev pub drive_in : TapeEnd → ℕ
drive_in (TapeFault drive count) = drive
drive_in (OutOfTape drive) = drive

-- the last entry tells how the tape ended
pub record TellsEnd (h : List Entry) (end : TapeEnd) : Type 0 where
  pub before : List Entry
  pub last : Entry
  pub history : h ≡ before ++ last ∷ []
  pub reply : last.reply ≡ reply_of end

-- how a play ended before its work was done
abbrev pub EndsPlay : List Line → Job → Written → Seen → Written → PlayEnd → Type 0
EndsPlay lines job w s v NoMemory = IsRun job.config lines true s × (journal_in s.machine ≡ job.journal) × WrotePart w (whole_archive job) v
EndsPlay lines job w s v (TapeStop end) =
    IsRun job.config lines false s × (journal_in s.machine ≡ job.journal) × WrotePart w (whole_archive job) v × EndsTape w (whole_archive job) v end × TellsEnd s.history end

-- the archive line is done, and its archive stands on tape, whole and durable
pub record EndsWell (lines : List Line) (job : Job) (w : Written) (s : Seen) (v : Written) : Type 0 where
  pub reached : IsReached job.config lines s [] First
  pub journal_is : journal_in s.machine ≡ job.journal
  pub wrote : Wrote w (map bytes_of (whole_archive job)) v
  pub synced : IsSynced v.tape

-- what a play that gave its archive up leaves
pub record GaveUp (lines : List Line) (job : Job) (s : Seen) (end : TapeEnd) : Type 0 where
  pub run : IsRun job.config lines false s
  pub journal_is : journal_in s.machine ≡ job.journal
  pub tells : TellsEnd s.history end

-- the reason for giving up that a turn is given
abbrev pub IsReason : Why → TapeEnd → Type 0
IsReason (Fault since) (TapeFault drive count) = Unit {0}
IsReason Full (OutOfTape drive) = Unit {0}
IsReason _ _ = ⊥

-- the count of faults that such a turn is told
abbrev pub faults_in : TapeEnd → ℕ
faults_in (TapeFault drive count) = count
faults_in (OutOfTape drive) = 0

-- ---- a whole play

-- the blocks that a play puts on drive 1: those of its archive, where there is an archive line
abbrev pub due : Config → Option Line → List Record → List Block
due c None journal = []
due c (Some line) journal = whole_archive (job_of c line journal)

abbrev pub IsSyncedArchive : Option Line → Tape → Type 0
IsSyncedArchive None t = Unit {0}
IsSyncedArchive (Some line) t = IsSynced t

-- the journal that the entries of a history make from the newly formatted state on
abbrev pub journal_after : Config → List Entry → List Record
journal_after c h = journal_of (formatted c) h

-- all lines were played, with all well, and their blocks stand on the drive
pub record PlaysWell (c : Config) (lines : List Line) (archive : Option Line) (w : Written) (h : List Entry) (v : Written) : Type 0 where
  pub plays : Plays (formatted c) lines h
  pub wrote : Wrote w (map bytes_of (due c archive (journal_after c h))) v
  pub durable : IsSyncedArchive archive v.tape

-- a play ended before its work was done: its history is legal, and a first part of its blocks stands on the drive
abbrev pub PlaysShort : Config → List Line → Option Line → Written → List Entry → Written → PlayEnd → Type 0
PlaysShort c lines archive w h v NoMemory = Legal (formatted c) true lines h × WrotePart w (due c archive (journal_after c h)) v
PlaysShort c lines archive w h v (TapeStop end) =
    Legal (formatted c) false lines h × WrotePart w (due c archive (journal_after c h)) v × EndsTape w (due c archive (journal_after c h)) v end × TellsEnd h end
