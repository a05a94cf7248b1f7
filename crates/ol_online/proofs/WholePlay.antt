-- A whole play: what its turns, and how its archive ends, say of its history and of the tape.
use Rattle.std.specs.Prelude.{Bool, Err, IfErr, List, Ok, OnOk, Option, Result, Some, None, [], drop, length, map, true, false, ℕ, ◌++◌, ◌+◌, ◌<◌, ◌∷◌, ◌≡◌, refl}
use Rattle.std.proofs.Common.{ap, arith, get_or, inl, subst, sym, ◌∙◌}
use Rattle.std.proofs.lemmas.List.{drop_more}
use Rattle.ol_values.specs.declared.line.Line.{Line}
use Rattle.ol_values.specs.declared.record.Record.{Record}
use Rattle.ol_values.specs.Config.{Config}
use Rattle.ol_rules.specs.Scripts.{Ascends}
use Rattle.ol_core.specs.Lines.{First}
use Rattle.ol_core.specs.Machine.{formatted, journal_in}
use Rattle.ol_values.specs.Text.{IsInLineOrder}
use Rattle.ol_object.specs.Bytes.{bytes_of}
use Rattle.ol_ports.specs.Drive.{stream_of}
use Rattle.ol_volume.specs.Written.{Written}
use Rattle.ol_core.specs.Core.{Seen}
use Rattle.ol_online.specs.declared.archive.PlayEnd.{PlayEnd}
use Rattle.ol_online.specs.declared.archive.PlayEnd.TheVariants.{NoMemory, Tape as TapeStop}
use Rattle.ol_online.specs.Playing.{EndsPlay, EndsTape, EndsWell, IsReached, IsRun, IsWaiting, PlaysShort, PlaysWell, Wrote, WrotePart, Job, job_of, journal_after, whole_archive}
use Rattle.ol_online.proofs.ArchiveLaws.{same_stream}
use Rattle.ol_online.proofs.PlayLaws.{reached_plays, run_journal, run_legal, run_order, run_stopped}

-- ---- how a play begins

abbrev pub begun : Config → Seen
begun c = record { machine = formatted c; history = [] }

pub begun_reached : (c : Config) (lines : List Line) (s : Seen) → s ≡ begun c → IsReached c lines s lines First
begun_reached c lines s is = subst (λ (x : Seen). IsReached c lines x lines First) (sym is) (record { leads = refl })

pub begun_waiting : (c : Config) (s : Seen) → s ≡ begun c → IsWaiting c s
begun_waiting c s is = subst (λ (x : Seen). IsWaiting c x) (sym is) (record { idle = refl; next = refl; fixed = refl })

-- ---- the lines of the session

pub next_line : (lines rest : List Line) (i : ℕ) (line : Line) → i < length lines → line ≡ get_or lines i line → drop i lines ++ rest ≡ line ∷ (drop (i + 1) lines ++ rest)
next_line lines rest i line lt at = ap (λ (l : List Line). l ++ rest) (drop_more lines i line lt ∙ ap (λ (x : Line). x ∷ drop (i + 1) lines) (sym at))

-- ---- how a play ends

journal_told : {c : Config} {lines : List Line} {journal : List Record} {s : Seen} {starved : Bool} → IsRun c lines starved s → journal_in s.machine ≡ journal → journal ≡ journal_after c s.history
journal_told run is = sym is ∙ run_journal run

well_ended : {c : Config} {lines : List Line} (line : Line) {journal : List Record} {w v : Written} {s : Seen} → EndsWell lines (job_of c line journal) w s v → PlaysWell c lines (Some line) w s.history v
well_ended {c = c} line {journal = journal} {w = w} {v = v} {s = s} e =
    let is : journal ≡ journal_after c s.history = journal_told (run_stopped false e.reached (inl refl)) e.journal_is in
    record { plays = reached_plays e.reached; wrote = subst (λ (j : List Record). Wrote w (map bytes_of (whole_archive (job_of c line j))) v) is e.wrote; durable = e.synced }

pub well_without : {c : Config} {lines : List Line} {w : Written} {s : Seen} → IsReached c lines s [] First → PlaysWell c lines None w s.history w
well_without {w = w} r = record { plays = reached_plays r; wrote = record { stream = same_stream (stream_of w.tape); room = omega (arith); faults = refl; number = refl }; durable = tt }

short_ended : (c : Config) (lines : List Line) (line : Line) (journal : List Record) (w v : Written) (s : Seen) (end : PlayEnd) → EndsPlay lines (job_of c line journal) w s v end → PlaysShort c lines (Some line) w s.history v end
short_ended c lines line journal w v s NoMemory e =
    (run_legal e.0, subst (λ (j : List Record). WrotePart w (whole_archive (job_of c line j)) v) (journal_told e.0 e.1) e.2)
short_ended c lines line journal w v s (TapeStop end) e =
    let is = journal_told e.0 e.1 in
    (run_legal e.0, subst (λ (j : List Record). WrotePart w (whole_archive (job_of c line j)) v) is e.2, subst (λ (j : List Record). EndsTape w (whole_archive (job_of c line j)) v end) is e.3, e.4)

order_ended : (lines : List Line) (job : Job) (w v : Written) (s : Seen) (end : PlayEnd) → Ascends lines → EndsPlay lines job w s v end → IsInLineOrder s.history
order_ended lines job w v s NoMemory a e = run_order a e.0
order_ended lines job w v s (TapeStop end) a e = run_order a e.0

-- nothing of a play's blocks was written before memory was wanted
pub short_before : {c : Config} {lines : List Line} (archive : Option Line) (w : Written) {s : Seen} → IsRun c lines true s → PlaysShort c lines archive w s.history w NoMemory
short_before archive w r = (run_legal r, (0, same_stream (stream_of w.tape)))

-- ---- the archive line's answer, whichever it is

pub archive_well : {A : Type 0} (c : Config) (lines : List Line) (archive : Option Line) (line : Line) (journal : List Record) (w v : Written) (s : Seen) (r : Result A PlayEnd) → archive ≡ Some line
    → OnOk r (EndsWell lines (job_of c line journal) w s v) → OnOk r (PlaysWell c lines archive w s.history v)
archive_well c lines archive line journal w v s (Ok x) is e = subst (λ (a : Option Line). PlaysWell c lines a w s.history v) (sym is) (well_ended line e)
archive_well c lines archive line journal w v s (Err x) is e = e

pub archive_short : {A : Type 0} (c : Config) (lines : List Line) (archive : Option Line) (line : Line) (journal : List Record) (w v : Written) (s : Seen) (r : Result A PlayEnd) → archive ≡ Some line
    → IfErr r (EndsPlay lines (job_of c line journal) w s v) → IfErr r (PlaysShort c lines archive w s.history v)
archive_short c lines archive line journal w v s (Ok x) is e = e
archive_short c lines archive line journal w v s (Err end) is e = subst (λ (a : Option Line). PlaysShort c lines a w s.history v end) (sym is) (short_ended c lines line journal w v s end e)

pub archive_order : {A : Type 0} (lines : List Line) (job : Job) (w v : Written) (s : Seen) (r : Result A PlayEnd) → Ascends lines
    → OnOk r (EndsWell lines job w s v) → IfErr r (EndsPlay lines job w s v) → IsInLineOrder s.history
archive_order lines job w v s (Ok x) a e f = run_order a (run_stopped false e.reached (inl refl))
archive_order lines job w v s (Err end) a e f = order_ended lines job w v s end a f
