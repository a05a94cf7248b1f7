-- The turns of lines: what stays as it is, and how an archive begins, ends and is given up.
use Rattle.std.specs.Prelude.{List, None, Option, Some, [], false, is_some, length, map, replicate, suc, true, unwrap_or, zero, ℕ, ◌++◌, ◌∷◌, ◌≡◌, refl}
use Rattle.std.proofs.Common.{ap, arith, inl, inr, subst, sym, ◌∙◌}
use Rattle.std.proofs.lemmas.List.{map-append}
use Rattle.ol_values.specs.declared.event.Event.{Event}
use Rattle.ol_values.specs.declared.event.Event.TheVariants.{ArchiveCancel, ArchiveEnd, ArchiveStart, Begin as BeginTurn, Commit as CommitTurn, Insert as InsertTurn}
use Rattle.ol_values.specs.declared.event.Reply.{Reply}
use Rattle.ol_values.specs.declared.event.Reply.TheVariants.{OutOfTape as OutReply, TapeFault as FaultReply}
use Rattle.ol_values.specs.declared.event.Why.{Why}
use Rattle.ol_values.specs.declared.event.Why.TheVariants.{Asked, Fault, Full}
use Rattle.ol_values.specs.declared.history.Actor.{Actor}
use Rattle.ol_values.specs.declared.history.Actor.TheVariants.{Archiver, Session}
use Rattle.ol_values.specs.declared.history.By.{By}
use Rattle.ol_values.specs.declared.history.Entry.{Entry}
use Rattle.ol_values.specs.declared.line.Form.{Form}
use Rattle.ol_values.specs.declared.line.Form.TheVariants.{Archive as ArchiveLine}
use Rattle.ol_values.specs.declared.line.Line.{Line}
use Rattle.ol_values.specs.declared.record.Rid.{Rid}
use Rattle.ol_values.specs.declared.row.Row.{Row}
use Rattle.ol_core.specs.Archivers.{cancel_turn, end_at, end_with, given_up, spaces_named, start_turn, start_with}
use Rattle.ol_values.specs.Config.{Config}
use Rattle.ol_core.specs.History.{Happening, well}
use Rattle.ol_core.specs.Lines.{Ending, First, GivingUp, Outside, Stage, Taking, all_well, event_at, stage_after}
use Rattle.ol_core.specs.Machine.{Archive, Machine, Work, archive_of, formatted, journal_in, left_of, seat_of}
use Rattle.ol_core.specs.Sessions.{begin_at, commit_at, insert_at, insert_by, insert_into}
use Rattle.ol_core.specs.Turns.{given_by, turn}
use Rattle.ol_core.specs.Core.{Seen, ShowsCount, Takes}
use Rattle.ol_online.specs.Playing.{EndsPlay, IsArchiveLine, IsNamed, Job, job_of, names_in, EndsTape, EndsWell, GaveUp, Interrupts, IsBegun, IsOnTape, IsReached, IsRunning, IsTurned, IsWaiting, and_blocks, at_stage, IsReason, drive_in, faults_in, reply_of, whole_archive}
use Rattle.ol_online.specs.declared.archive.PlayEnd.TheVariants.{NoMemory, Tape as TapeStop}
use Rattle.ol_values.specs.Blocks.{Block}
use Rattle.ol_ports.specs.Drive.{stream_of}
use Rattle.ol_volume.specs.Written.{Written}
use Rattle.ol_online.proofs.ArchiveLaws.{every_block, machine_is, machine_of, passing, same_stream}
use Rattle.ol_online.proofs.PlayLaws.{IsTurn, entries_well, entry_after, reached_on, run_stopped, turned_well, turn_led, turned_on}
use Rattle.ol_volume.specs.declared.writer.TapeEnd.{TapeEnd}
use Rattle.ol_volume.specs.declared.writer.TapeEnd.TheVariants.{OutOfTape, TapeFault}

-- ---- sessions leave the archives

record Keeps (m n : Machine) : Type 0 where
  archives : n.archives ≡ m.archives
  next : n.next_archive ≡ m.next_archive
  fixed : n.fixed ≡ m.fixed

same : (m : Machine) → Keeps m m
same m = record { archives = refl; next = refl; fixed = refl }

begin_keeps : (m : Machine) (k : ℕ) (txn : Option ℕ) → Keeps m (begin_at m k txn).1
begin_keeps m k None = record { archives = refl; next = refl; fixed = refl }
begin_keeps m k (Some n) = same m

commit_keeps : (m : Machine) (k : ℕ) (txn : Option ℕ) → Keeps m (commit_at m k txn).1
commit_keeps m k None = same m
commit_keeps m k (Some n) = record { archives = refl; next = refl; fixed = refl }

insert_at_keeps : (m : Machine) (k txn reg : ℕ) (row : Row) (space : ℕ) (rid : Option Rid) → Keeps m (insert_at m k txn reg row space rid).1
insert_at_keeps m k txn reg row space None = same m
insert_at_keeps m k txn reg row space (Some rid) = record { archives = refl; next = refl; fixed = refl }

insert_into_keeps : (m : Machine) (k txn reg : ℕ) (row : Row) (space : Option ℕ) → Keeps m (insert_into m k txn reg row space).1
insert_into_keeps m k txn reg row None = same m
insert_into_keeps m k txn reg row (Some space) = insert_at_keeps m k txn reg row space _

insert_keeps : (m : Machine) (k : ℕ) (txn : Option ℕ) (reg : ℕ) (name : List ℕ) (row : Row) → Keeps m (insert_by m k txn reg name row).1
insert_keeps m k None reg name row = same m
insert_keeps m k (Some n) reg name row = insert_into_keeps m k n reg row _

waiting_after : {c : Config} {s t : Seen} → IsWaiting c s → Keeps s.machine t.machine → IsWaiting c t
waiting_after w k = record { idle = k.archives ∙ w.idle; next = k.next ∙ w.next; fixed = k.fixed ∙ w.fixed }

moved : {s t : Seen} {by : By} {event : Event} {reply : Reply} → Takes s by event reply t → t.machine ≡ (turn (given_by reply) s.machine by.actor event).1
moved takes = ap (λ (r : Reply × Machine). r.1) takes.step

by_turn : {c : Config} {s t : Seen} {by : By} {event : Event} {reply : Reply} → IsWaiting c s → Takes s by event reply t → Keeps s.machine (turn (given_by reply) s.machine by.actor event).1 → IsWaiting c t
by_turn {s = s} w takes k = waiting_after w (subst (Keeps s.machine) (sym (moved takes)) k)

pub waiting_begin : {c : Config} {s t : Seen} {by : By} {reply : Reply} → IsWaiting c s → Takes s by BeginTurn reply t → by.actor ≡ Session 1 → IsWaiting c t
waiting_begin {s = s} {by = by} {reply = reply} w takes who =
    by_turn w takes (subst (λ (a : Actor). Keeps s.machine (turn (given_by reply) s.machine a BeginTurn).1) (sym who) (begin_keeps s.machine 1 (seat_of s.machine 1).txn))

pub waiting_commit : {c : Config} {s t : Seen} {by : By} {reply : Reply} → IsWaiting c s → Takes s by CommitTurn reply t → by.actor ≡ Session 1 → IsWaiting c t
waiting_commit {s = s} {by = by} {reply = reply} w takes who =
    by_turn w takes (subst (λ (a : Actor). Keeps s.machine (turn (given_by reply) s.machine a CommitTurn).1) (sym who) (commit_keeps s.machine 1 (seat_of s.machine 1).txn))

pub waiting_insert : {c : Config} {s t : Seen} {by : By} {reply : Reply} (reg : ℕ) (name : List ℕ) (row : Row) → IsWaiting c s → Takes s by (InsertTurn reg name row) reply t → by.actor ≡ Session 1 → IsWaiting c t
waiting_insert {s = s} {by = by} {reply = reply} reg name row w takes who =
    by_turn w takes (subst (λ (a : Actor). Keeps s.machine (turn (given_by reply) s.machine a (InsertTurn reg name row)).1) (sym who) (insert_keeps s.machine 1 (seat_of s.machine 1).txn reg name row))

-- ---- an archive begins

whole_machine : (c : Config) (m : Machine) (next : ℕ) (archives : List (Option Archive)) → m.fixed ≡ (formatted c).fixed → m.next_archive ≡ next → m.archives ≡ archives → m ≡ machine_of (formatted c).fixed m.work next archives
whole_machine c m next archives p q r = machine_is m (formatted c).fixed archives p r ∙ ap (λ (n : ℕ). machine_of (formatted c).fixed m.work n archives) q

some_named : (found : Option (List ℕ)) → is_some found ≡ true → found ≡ Some (unwrap_or found [])
some_named None h = absurd (let e : false ≡ true = h in cc)
some_named (Some spaces) h = refl

pub begun : {c : Config} {lines : List Line} {line : Line} {s t : Seen} {by : By} {reply : Reply} → IsArchiveLine line → IsNamed c line → by.actor ≡ line.actor → by.line ≡ line.number → IsReached c lines s (line ∷ []) First → IsWaiting c s → Takes s by (ArchiveStart 0 (names_in line.form)) reply t
    → IsBegun lines line (job_of c line (journal_in s.machine)) t
begun {c = c} {lines = lines} {line = line} {s = s} {t = t} {by = by} {reply = reply} is named actor at reached w takes =
    let names = names_in line.form in
    let spaces = unwrap_or (spaces_named c names) [] in
    let turned : IsTurn line First s by (ArchiveStart 0 names) reply t = record { takes = takes; actor = actor; line_is = at; does = sym (ap (λ (f : Form). event_at f First) is.1) } in
    let m = machine_of (formatted c).fixed s.machine.work 1 (replicate 4 None) in
    let step : ◌≡◌ {A = Reply × Machine} (reply, t.machine) (start_with m 1 0 (Some spaces)) =
    takes.step ∙ ap (λ (a : Actor). turn (given_by reply) s.machine a (ArchiveStart 0 names)) (actor ∙ is.0)
    ∙ ap (λ (x : Machine). start_turn x 1 0 names) (whole_machine c s.machine 1 (replicate 4 None) w.fixed w.next w.idle)
    ∙ ap (start_with m 1 0) (some_named (spaces_named c names) named) in
    let after : t.machine ≡ (start_with m 1 0 (Some spaces)).1 = ap (λ (r : Reply × Machine). r.1) step in
    let answer : reply ≡ (start_with m 1 0 (Some spaces)).0 = ap (λ (r : Reply × Machine). r.0) step in
    record {
      turned = turned_on [] Taking turned (λ o. ap (λ (f : Form). stage_after f First reply o) is.1 ∙ ap (λ (r : Reply). stage_after (ArchiveLine 0 names) First r o) answer) reached;
      running = record {
        archives = ap (λ (x : Machine). x.archives) after;
        journal_is = ap (λ (x : Machine). x.work.journal) after;
        fixed = ap (λ (x : Machine). x.fixed) after;
        passed = omega arith;
      };
    }

-- ---- an archive ends

end_with_keeps : (m : Machine) (k : ℕ) (a : Archive) (n : ℕ) → (end_with m k a n).1.work ≡ m.work
end_with_keeps m k a zero = refl
end_with_keeps m k a (suc n) = refl

end_keeps : (m : Machine) (k : ℕ) (a : Option Archive) → (end_at m k a).1.work ≡ m.work
end_keeps m k None = refl
end_keeps m k (Some a) = end_with_keeps m k a (length (left_of m a))

pub ended : {s t : Seen} {by : By} {reply : Reply} → Takes s by ArchiveEnd reply t → by.actor ≡ Archiver 1 → journal_in t.machine ≡ journal_in s.machine
ended {s = s} {by = by} {reply = reply} takes who =
    ap (λ (x : Machine). x.work.journal) (moved takes ∙ ap (λ (a : Actor). (turn (given_by reply) s.machine a ArchiveEnd).1) who)
    ∙ ap (λ (x : Work). x.journal) (end_keeps s.machine 1 (archive_of s.machine 1))

pub reached_end : {c : Config} {lines : List Line} {line : Line} {s t : Seen} {by : By} {reply : Reply} → IsArchiveLine line → by.actor ≡ line.actor → by.line ≡ line.number → IsReached c lines s (line ∷ []) Ending → Takes s by ArchiveEnd reply t → IsReached c lines t [] First
reached_end {line = line} {s = s} {t = t} {by = by} {reply = reply} is actor at reached takes =
    let turned : IsTurn line Ending s by ArchiveEnd reply t = record { takes = takes; actor = actor; line_is = at; does = sym (ap (λ (f : Form). event_at f Ending) is.1) } in
    reached_on [] None turned (ap (λ (f : Form). stage_after f Ending reply all_well) is.1) reached

-- ---- an archive is given up

told_end : (why : Why) (end : TapeEnd) (number : ℕ) (reply : Reply) → IsReason why end → drive_in end ≡ 1 → reply ≡ given_up 1 (given_by reply).count number why → ShowsCount (faults_in end) reply → reply ≡ reply_of end
told_end (Fault since) (TapeFault drive count) number reply is one said shows =
    let shown : (given_by reply).count ≡ count = subst (ShowsCount count) said shows in
    said ∙ ap (λ (n : ℕ). FaultReply 1 n) shown ∙ ap (λ (d : ℕ). FaultReply d count) (sym one)
told_end Full (OutOfTape drive) number reply is one said shows = said ∙ ap OutReply (sym one)
told_end (Fault since) (OutOfTape drive) number reply is one said shows = absurd is
told_end Full (TapeFault drive count) number reply is one said shows = absurd is
told_end Asked end number reply is one said shows = absurd is

pub gave_up : {lines : List Line} {line : Line} {job : Job} {s t : Seen} {by : By} {reply : Reply} (k : ℕ) (next : Stage) (why : Why) (end : TapeEnd) → IsArchiveLine line → by.actor ≡ line.actor → by.line ≡ line.number
    → IsTurned job.config lines s (line ∷ []) next → IsRunning s job k → Takes s by (ArchiveCancel why) reply t → IsReason why end → drive_in end ≡ 1 → ShowsCount (faults_in end) reply → GaveUp lines job t end
gave_up {lines = lines} {line = line} {job = job} {s = s} {t = t} {by = by} {reply = reply} k next why end is actor at open_turn r takes reason one shows =
    let turned : IsTurn line (GivingUp why) s by (ArchiveCancel why) reply t = record { takes = takes; actor = actor; line_is = at; does = sym (ap (λ (f : Form). event_at f (GivingUp why)) is.1) } in
    let o : Outside = record { after = Some why } in
    let last : Happening = record { entry = open_turn.last; outside = o } in
    let hs = map well open_turn.before ++ last ∷ [] in
    let cancel = entry_after s by (ArchiveCancel why) reply in
    let archives = Some (passing job k) ∷ replicate 3 None in
    let m = machine_of (formatted job.config).fixed s.machine.work s.machine.next_archive archives in
    let step : ◌≡◌ {A = Reply × Machine} (reply, t.machine) (cancel_turn (given_by reply).count m 1 why) =
    takes.step ∙ ap (λ (a : Actor). turn (given_by reply) s.machine a (ArchiveCancel why)) (actor ∙ is.0)
    ∙ ap (λ (x : Machine). cancel_turn (given_by reply).count x 1 why) (machine_is s.machine (formatted job.config).fixed archives r.fixed r.archives) in
    record {
      run = record {
        happenings = hs ++ well cancel ∷ [];
        entries =
            map-append (λ (x : Happening). x.entry) hs (well cancel ∷ []) ∙ ap (λ (l : List Entry). l ++ cancel ∷ []) (map-append (λ (x : Happening). x.entry) (map well open_turn.before) (last ∷ [])
            ∙ ap (λ (l : List Entry). l ++ open_turn.last ∷ []) (entries_well open_turn.before) ∙ sym open_turn.history) ∙ sym takes.told;
        end = at_stage t [] First;
        leads = turn_led job.config lines [] hs all_well None turned (ap (λ (f : Form). stage_after f (GivingUp why) reply all_well) is.1) (open_turn.leads o);
        machine = refl;
        done = inl refl;
      };
      journal_is = ap (λ (x : Reply × Machine). x.1.work.journal) step ∙ r.journal_is;
      tells = record { before = s.history; last = cancel; history = takes.told; reply = told_end why end 1 reply reason one (ap (λ (x : Reply × Machine). x.0) step) shows };
    }

-- ---- how a play ends early

pub starved_first : {c : Config} {lines : List Line} {line : Line} {s : Seen} (w : Written) → IsReached c lines s (line ∷ []) First → EndsPlay lines (job_of c line (journal_in s.machine)) w s w NoMemory
starved_first {s = s} w r = (run_stopped true r (inr refl), refl, (0, same_stream (stream_of w.tape)))

pub starved_end : {lines : List Line} {line : Line} {job : Job} {w v : Written} {s : Seen} → IsOnTape lines line job w s v → EndsPlay lines job w s v NoMemory
starved_end {job = job} {w = w} o =
    let all = length (whole_archive job) in
    (run_stopped true o.reached (inr refl), o.journal_is, (all, o.wrote.stream ∙ ap (and_blocks (stream_of w.tape)) (sym (every_block job))))

pub starved_copy : (lines : List Line) (line : Line) (job : Job) (w v : Written) (s : Seen) → Interrupts lines line job w s v NoMemory → EndsPlay lines job w s v NoMemory
starved_copy lines line job w v s i = (i.0, i.1, i.2)

pub starved_giving_up : (lines : List Line) (line : Line) (job : Job) (w v : Written) (s : Seen) (end : TapeEnd) → Interrupts lines line job w s v (TapeStop end) → EndsPlay lines job w s v NoMemory
starved_giving_up lines line job w v s end i = (run_stopped true (turned_well i.0.1) (inr refl), i.1.1.journal_is, i.2)

pub ended_by_tape : (lines : List Line) (line : Line) (job : Job) (w v : Written) (s t : Seen) (end : TapeEnd) → Interrupts lines line job w s v (TapeStop end) → GaveUp lines job t end → EndsPlay lines job w t v (TapeStop end)
ended_by_tape lines line job w v s t end i g = (g.run, g.journal_is, i.2, i.3, g.tells)

drive_of_end : (w v : Written) (blocks : List Block) (end : TapeEnd) → EndsTape w blocks v end → drive_in end ≡ w.number
drive_of_end w v blocks (TapeFault drive count) e = e.0
drive_of_end w v blocks (OutOfTape drive) e = e.0

pub drive_is : (lines : List Line) (line : Line) (job : Job) (w v : Written) (s : Seen) (end : TapeEnd) → w.number ≡ 1 → Interrupts lines line job w s v (TapeStop end) → drive_in end ≡ 1
drive_is lines line job w v s end one i = drive_of_end w v (whole_archive job) end i.3 ∙ one

pub ends_well : {lines : List Line} {line : Line} {job : Job} {w v : Written} {s t : Seen} → IsOnTape lines line job w s v → journal_in t.machine ≡ journal_in s.machine → IsReached job.config lines t [] First → EndsWell lines job w t v
ends_well o j r = record { reached = r; journal_is = j ∙ o.journal_is; wrote = o.wrote; synced = o.synced }

-- ---- a line of the session is one turn

pub session_turn : {c : Config} {lines left : List Line} {s t : Seen} {by : By} {event : Event} {reply : Reply} (line : Line) (form : Form) → line.form ≡ form → by.actor ≡ line.actor → by.line ≡ line.number → event_at form First ≡ Some event → stage_after form First reply all_well ≡ None
    → IsReached c lines s (line ∷ left) First → Takes s by event reply t → IsReached c lines t left First
session_turn {left = left} {s = s} {t = t} {by = by} {event = event} {reply = reply} line form is actor at does ends reached takes =
    let turned : IsTurn line First s by event reply t = record { takes = takes; actor = actor; line_is = at; does = sym (ap (λ (f : Form). event_at f First) is ∙ does) } in
    reached_on left None turned (ap (λ (f : Form). stage_after f First reply all_well) is ∙ ends) reached
