-- The turns of an archive, and the blocks that they put on tape.
use Rattle.std.specs.Option.{option_map}
use Rattle.std.specs.Prelude.{List, None, Option, Some, [], drop, length, map, replicate, slice_index_or, slice_set, suc, take, true, unwrap_or, zero, ℕ, ◌++◌, ◌+◌, ◌-◌, ◌<◌, ◌∷◌, ◌≡◌, ◌≤◌, ◌⊎◌, refl}
use Rattle.std.proofs.Common.{ap, append_assoc, arith, inl, inr, length-append, length-drop, length-take, subst, sym, ◌∙◌}
use Rattle.std.specs.List.{take-map}
use Rattle.std.proofs.lemmas.List.{append-nil, length-map, map-append, take_all}
use Rattle.ol_values.specs.declared.event.Event.TheVariants.{ArchiveTurn}
use Rattle.ol_values.specs.declared.event.Reply.{Reply}
use Rattle.ol_values.specs.declared.event.Reply.TheVariants.{AllTaken, NoArchive, PageIs}
use Rattle.ol_values.specs.declared.history.Actor.{Actor}
use Rattle.ol_values.specs.declared.history.Actor.TheVariants.{Archiver}
use Rattle.ol_values.specs.declared.history.By.{By}
use Rattle.ol_values.specs.declared.line.Form.{Form}
use Rattle.ol_values.specs.declared.line.Form.TheVariants.{Archive as ArchiveForm}
use Rattle.ol_values.specs.declared.line.Line.{Line}
use Rattle.ol_values.specs.declared.record.Record.{Record}
use Rattle.ol_core.specs.Archivers.{take_at, take_page, take_turn}
use Rattle.ol_values.specs.Blocks.{Block, archive_page, header_kind, trailer_kind}
use Rattle.ol_rules.specs.Journal.{page_at}
use Rattle.ol_core.specs.Lines.{Ending, Taking, event_at, stage_after}
use Rattle.ol_core.specs.Machine.{Archive, Fixed, Machine, Work, archive_of, formatted, journal_in, left_of, pages_of, with_archive}
use Rattle.ol_values.specs.Blocks.{SavedPage}
use Rattle.ol_rules.specs.Saveset.{places, saveset}
use Rattle.ol_core.specs.Tape.{end_block, head_at, page_blocks}
use Rattle.ol_core.specs.Turns.{given_by, turn}
use Rattle.ol_core.proofs.TapeLaws.{front, front_taken, length-page_blocks, page_blocks-push}
use Rattle.ol_object.specs.Bytes.{bytes_of}
use Rattle.ol_ports.specs.Causes.{Rose}
use Rattle.ol_ports.specs.Drive.{Tape, all_synced, blocks_in_order, stream_of}
use Rattle.ol_volume.specs.declared.writer.TapeEnd.{TapeEnd}
use Rattle.ol_volume.specs.declared.writer.TapeEnd.TheVariants.{OutOfTape, TapeFault}
use Rattle.ol_volume.specs.Written.{EndsFinish, EndsPut, Puts, Written, and_block}
use Rattle.ol_core.specs.declared.running.Running.{Running}
use Rattle.ol_core.specs.Core.{Seen, Takes, archive_in}
use Rattle.ol_online.specs.declared.archive.PlayEnd.{PlayEnd}
use Rattle.ol_online.specs.declared.archive.PlayEnd.TheVariants.{NoMemory, Tape as TapeStop}
use Rattle.ol_online.specs.Blocks.{page_saved}
use Rattle.ol_online.proofs.PlayLaws.{IsTurn, run_stopped, turned_on, turned_well}
use Rattle.ol_online.specs.Playing.{EndsTape, IsArchiveLine, Job, head_of_job, names_in, RefusesPut, Interrupts, IsBegun, IsCopied, IsCopying, IsOnTape, IsPaged, IsRunning, IsSynced, Wrote, WrotePart, and_blocks, first_archive, first_blocks, archive_pages, pages_ahead, whole_archive}

-- ---- a page passes

-- the archive with so many pages passed
abbrev pub passing : Job → ℕ → Archive
passing job k = record (first_archive job) { passed = k }

abbrev pub machine_of : Fixed → Work → ℕ → List (Option Archive) → Machine
machine_of fixed work next archives = record { fixed = fixed; work = work; next_archive = next; archives = archives }

pub machine_is : (m : Machine) (fixed : Fixed) (archives : List (Option Archive)) → m.fixed ≡ fixed → m.archives ≡ archives → m ≡ machine_of fixed m.work m.next_archive archives
machine_is m fixed archives p q =
    ap (λ (f : Fixed). let r : Machine = record { fixed = f; work = m.work; next_archive = m.next_archive; archives = m.archives } in r) p ∙ ap (machine_of fixed m.work m.next_archive) q

-- the machine with the archive of a job running
abbrev pub machine_at : Job → ℕ → Machine → Machine
machine_at job k m = machine_of (formatted job.config).fixed m.work m.next_archive (Some (passing job k) ∷ replicate 3 None)

-- what a turn of the archive leaves where a page was left, and where none was
pub record TookPage (job : Job) (k : ℕ) (t : Seen) (reply : Reply) (space page : ℕ) : Type 0 where
  pub reply_is : reply ≡ PageIs space page
  pub rest : List (ℕ × ℕ)
  pub left : drop k (archive_pages job) ≡ (space, page) ∷ rest
  pub running : IsRunning t job (k + 1)

pub record TookNone (job : Job) (k : ℕ) (t : Seen) (reply : Reply) : Type 0 where
  pub reply_is : reply ≡ AllTaken
  pub left : drop k (archive_pages job) ≡ []
  pub running : IsRunning t job k

abbrev pub Took : Job → ℕ → Seen → Reply → Type 0
Took job k t reply = ((space : ℕ) × (page : ℕ) × TookPage job k t reply space page) ⊎ TookNone job k t reply

took_from : (job : Job) (k : ℕ) (t : Seen) (reply : Reply) (m : Machine) (left : List (ℕ × ℕ)) → m.work.journal ≡ job.journal → k ≤ length (archive_pages job) → drop k (archive_pages job) ≡ left
    → ◌≡◌ {A = Reply × Machine} (reply, t.machine) (take_page (machine_at job k m) 1 (passing job k) left) → Took job k t reply
took_from job k t reply m [] jis le is step =
    let after : t.machine ≡ machine_at job k m = ap (λ (r : Reply × Machine). r.1) step in
    inr (record {
      reply_is = ap (λ (r : Reply × Machine). r.0) step;
      left = is;
      running = record {
        archives = ap (λ (x : Machine). x.archives) after;
        journal_is = ap (λ (x : Machine). x.work.journal) after ∙ jis;
        fixed = ap (λ (x : Machine). x.fixed) after;
        passed = le;
      };
    })
took_from job k t reply m (p ∷ rest) jis le is step =
    let after : t.machine ≡ with_archive 1 (Some (passing job (k + 1))) (machine_at job k m) = ap (λ (r : Reply × Machine). r.1) step in
    inl (
      p.0,
      p.1,
      record {
        reply_is = ap (λ (r : Reply × Machine). r.0) step;
        rest = rest;
        left = is;
        running = record {
          archives = ap (λ (x : Machine). x.archives) after;
          journal_is = ap (λ (x : Machine). x.work.journal) after ∙ jis;
          fixed = ap (λ (x : Machine). x.fixed) after;
          passed = omega (arith, ap length is, length-drop k (archive_pages job));
        };
      },
    )

pub took : {s t : Seen} {job : Job} {k : ℕ} {by : By} {reply : Reply} → IsRunning s job k → Takes s by ArchiveTurn reply t → by.actor ≡ Archiver 1 → Took job k t reply
took {s = s} {t = t} {job = job} {k = k} {by = by} {reply = reply} r takes who =
    let archives = Some (passing job k) ∷ replicate 3 None in
    took_from job k t reply s.machine (drop k (archive_pages job)) r.journal_is r.passed refl
    (takes.step ∙ ap (λ (a : Actor). turn (given_by reply) s.machine a ArchiveTurn) who ∙ ap (λ (x : Machine). take_turn x 1) (machine_is s.machine (formatted job.config).fixed archives r.fixed r.archives)
    ∙ ap (λ (j : List Record). take_page (machine_at job k s.machine) 1 (passing job k) (drop k (places job.config (take (length job.journal) j) job.spaces))) r.journal_is)

-- of a page that is told, that page
pub took_page : {job : Job} {k : ℕ} {t : Seen} (space page : ℕ) → Took job k t (PageIs space page) → TookPage job k t (PageIs space page) space page
took_page {job = job} {k = k} {t = t} space page (inl (s, p, h)) =
    let e : PageIs space page ≡ PageIs s p = h.reply_is in
    let first : space ≡ s = cc in
    let second : page ≡ p = cc in
    record {
      reply_is = refl;
      rest = h.rest;
      left = h.left ∙ ap (λ (x : ℕ). (let r : ℕ × ℕ = (x, p) in r) ∷ h.rest) (sym first) ∙ ap (λ (x : ℕ). (let r : ℕ × ℕ = (space, x) in r) ∷ h.rest) (sym second);
      running = h.running;
    }
took_page space page (inr h) = absurd (let e : PageIs space page ≡ AllTaken = h.reply_is in cc)

-- ---- the blocks of an archive, one more each time

take_next : {X : Type 0} (k : ℕ) (xs : List X) (x : X) (rest : List X) → drop k xs ≡ x ∷ rest → take (k + 1) xs ≡ take k xs ++ x ∷ []
take_next zero [] x rest h = absurd (let e : ◌≡◌ {A = List _} [] (x ∷ rest) = h in cc)
take_next {X = X} zero (y ∷ ys) x rest h = let e : y ≡ x = cc in ap (λ (z : X). z ∷ []) e
take_next (suc k) [] x rest h = absurd (let e : ◌≡◌ {A = List _} [] (x ∷ rest) = h in cc)
take_next {X = X} (suc k) (y ∷ ys) x rest h =
    ap (λ (n : ℕ). take n (y ∷ ys)) (let e : suc k + 1 ≡ suc (k + 1) = omega arith in e) ∙ ap (λ (l : List X). y ∷ l) (take_next k ys x rest h)

take_whole : {X : Type 0} (k : ℕ) (xs : List X) → drop k xs ≡ [] → k ≤ length xs → k ≡ length xs
take_whole k xs h le = let e = length-drop k xs in omega (arith, e, ap length h)

abbrev page_past : List Record → ℕ × ℕ → SavedPage
page_past past p = record { space = p.0; page = p.1; image = page_at past p.0 p.1 }

abbrev all_pages : Job → List SavedPage
all_pages job = saveset job.config job.journal job.spaces (length job.journal)

length-all_pages : (job : Job) → length (all_pages job) ≡ length (archive_pages job)
length-all_pages job = length-map (archive_pages job) (page_past (take (length job.journal) job.journal))

blocks_to : (job : Job) (k : ℕ) → k ≤ length (archive_pages job) → first_blocks (suc k) (whole_archive job) ≡ map bytes_of (front (formatted job.config).fixed job.journal (first_archive job) k)
blocks_to job k le =
    take-map bytes_of (suc k) (whole_archive job)
    ∙ ap (map bytes_of) (front_taken (formatted job.config).fixed job.journal (first_archive job) k (omega (arith, length-all_pages job)))

-- the block of the page that passes next
abbrev pub page_next : Job → ℕ → ℕ → ℕ → List ℕ
page_next job k space page = bytes_of (archive_page 1 1 (k + 1) (page_past (take (length job.journal) job.journal) (space, page)))

pub next_block : (job : Job) (k space page : ℕ) (rest : List (ℕ × ℕ)) → drop k (archive_pages job) ≡ (space, page) ∷ rest
    → first_blocks (suc (k + 1)) (whole_archive job) ≡ first_blocks (suc k) (whole_archive job) ++ page_next job k space page ∷ []
next_block job k space page rest is =
    let past = take (length job.journal) job.journal in
    let p : ℕ × ℕ = (space, page) in
    let more : k + 1 ≤ length (archive_pages job) = omega (arith, ap length is, length-drop k (archive_pages job)) in
    let taken : take (k + 1) (all_pages job) ≡ take k (all_pages job) ++ page_past past p ∷ [] =
    take-map (page_past past) (k + 1) (archive_pages job) ∙ ap (map (page_past past)) (take_next k (archive_pages job) p rest is) ∙ map-append (page_past past) (take k (archive_pages job)) (p ∷ [])
    ∙ ap (λ (l : List SavedPage). l ++ page_past past p ∷ []) (sym (take-map (page_past past) k (archive_pages job))) in
    let count : 1 + length (take k (all_pages job)) ≡ k + 1 = omega (arith, length-take k (all_pages job), length-all_pages job) in
    let header = end_block (formatted job.config).fixed header_kind 0 (first_archive job) in
    let grown : page_blocks 1 1 1 (take (k + 1) (all_pages job)) ≡ page_blocks 1 1 1 (take k (all_pages job)) ++ archive_page 1 1 (k + 1) (page_past past p) ∷ [] =
    ap (page_blocks 1 1 1) taken ∙ page_blocks-push 1 1 1 (take k (all_pages job)) (page_past past p)
    ∙ ap (λ (n : ℕ). page_blocks 1 1 1 (take k (all_pages job)) ++ archive_page 1 1 n (page_past past p) ∷ []) count in
    blocks_to job (k + 1) more ∙ ap (λ (l : List Block). map bytes_of (header ∷ l)) grown
    ∙ ap (λ (l : List (List ℕ)). bytes_of header ∷ l) (map-append bytes_of (page_blocks 1 1 1 (take k (all_pages job))) (archive_page 1 1 (k + 1) (page_past past p) ∷ []))
    ∙ ap (λ (l : List (List ℕ)). l ++ page_next job k space page ∷ []) (sym (blocks_to job k (omega arith)))

-- the header is the first block
abbrev pub end_bytes : ℕ → ℕ → Job → List ℕ
end_bytes kind index job = bytes_of (end_block (formatted job.config).fixed kind index (first_archive job))

pub first_block : (job : Job) → first_blocks 1 (whole_archive job) ≡ end_bytes header_kind 0 job ∷ []
first_block job = blocks_to job 0 (omega arith)

-- the trailer is the last
pub last_block : (job : Job) (k : ℕ) → drop k (archive_pages job) ≡ [] → k ≤ length (archive_pages job)
    → map bytes_of (whole_archive job) ≡ first_blocks (suc k) (whole_archive job) ++ end_bytes trailer_kind (k + 1) job ∷ []
last_block job k is le =
    let all : k ≡ length (all_pages job) = take_whole k (archive_pages job) is le ∙ sym (length-all_pages job) in
    let header = end_block (formatted job.config).fixed header_kind 0 (first_archive job) in
    let every : take k (all_pages job) ≡ all_pages job = take_all k (all_pages job) (omega (arith, all)) in
    map-append bytes_of (header ∷ page_blocks 1 1 1 (all_pages job)) (end_block (formatted job.config).fixed trailer_kind (length (all_pages job) + 1) (first_archive job) ∷ [])
    ∙ ap (λ (n : ℕ). map bytes_of (header ∷ page_blocks 1 1 1 (all_pages job)) ++ end_bytes trailer_kind (n + 1) job ∷ []) (sym all)
    ∙ ap (λ (l : List SavedPage). map bytes_of (header ∷ page_blocks 1 1 1 l) ++ end_bytes trailer_kind (k + 1) job ∷ []) (sym every)
    ∙ ap (λ (l : List (List ℕ)). l ++ end_bytes trailer_kind (k + 1) job ∷ []) (sym (blocks_to job k le))

length-whole : (job : Job) → length (whole_archive job) ≡ length (archive_pages job) + 2
length-whole job =
    let pages = all_pages job in
    let trailer = end_block (formatted job.config).fixed trailer_kind (length pages + 1) (first_archive job) in
    omega (arith, length-append (end_block (formatted job.config).fixed header_kind 0 (first_archive job) ∷ page_blocks 1 1 1 pages) (trailer ∷ []), length-page_blocks 1 1 1 pages, length-all_pages job)

-- ---- what a put adds

grow : (stream : Option (List (List ℕ))) (blocks : List (List ℕ)) (x : List ℕ) → and_block (and_blocks stream blocks) x ≡ and_blocks stream (blocks ++ x ∷ [])
grow None blocks x = refl
grow (Some s) blocks x = ap (λ (l : List (List ℕ)). Some l) (append_assoc s blocks (x ∷ []))

pub wrote_more : {w v u : Written} {blocks : List (List ℕ)} (x : List ℕ) → Wrote w blocks v → Puts v x u → Wrote w (blocks ++ x ∷ []) u
wrote_more {w = w} {v = v} {u = u} {blocks = blocks} x a p = record {
  stream = p.stream ∙ ap (λ (s : Option (List (List ℕ))). and_block s x) a.stream ∙ grow (stream_of w.tape) blocks x;
  room = omega (arith, a.room, p.room, length-append blocks (x ∷ []));
  faults = p.faults ∙ a.faults;
  number = p.number ∙ a.number;
}

pub wrote_part : {w v : Written} (blocks : List Block) (k : ℕ) → Wrote w (first_blocks k blocks) v → WrotePart w blocks v
wrote_part blocks k a = (k, a.stream)

length-first : (k : ℕ) (blocks : List Block) → k ≤ length blocks → length (first_blocks k blocks) ≡ k
length-first k blocks le = omega (arith, length-take k (map bytes_of blocks), length-map blocks bytes_of)

pub record EndsWith (w : Written) (blocks : List Block) (u : Written) (end : TapeEnd) : Type 0 where
  pub part : WrotePart w blocks u
  pub cause : EndsTape w blocks u end

-- a put that was refused
pub put_ended : {w v u : Written} (blocks : List Block) (k : ℕ) (x : List ℕ) (end : TapeEnd) → Wrote w (first_blocks k blocks) v → k < length blocks → first_blocks (k + 1) blocks ≡ first_blocks k blocks ++ x ∷ [] → EndsPut v x u end → EndsWith w blocks u end
put_ended {w = w} {v = v} {u = u} blocks k x (TapeFault drive count) a lt more e = record {
  part = elim e.stream [
    | inl same ↦ (k, same ∙ a.stream)
    | inr put ↦ (k + 1, put ∙ ap (λ (s : Option (List (List ℕ))). and_block s x) a.stream ∙ grow (stream_of w.tape) (first_blocks k blocks) x ∙ ap (and_blocks (stream_of w.tape)) (sym more))
  ];
  cause = (e.drive_is ∙ a.number, e.count_is, subst (λ (n : ℕ). Rose n u.faults) a.faults e.cause);
}
put_ended {w = w} {v = v} {u = u} blocks k x (OutOfTape drive) a lt more e = record {
  part = (k, e.stream ∙ a.stream);
  cause = (e.drive_is ∙ a.number, omega (arith, a.room, e.full, length-first k blocks (omega arith)), e.room, e.rooms, e.faults ∙ a.faults);
}

-- ---- one turn with its block

-- the turn of an archive line that takes a page
pub turn_of : {line : Line} {s t : Seen} {by : By} {reply : Reply} → IsArchiveLine line → by.actor ≡ line.actor → by.line ≡ line.number → Takes s by ArchiveTurn reply t → IsTurn line Taking s by ArchiveTurn reply t
turn_of {line = line} is actor at takes = record { takes = takes; actor = actor; line_is = at; does = sym (ap (λ (f : Form). event_at f Taking) is.1) }

-- a page is taken
pub paged : {lines : List Line} {line : Line} {job : Job} {w v : Written} {s t : Seen} {by : By} {k : ℕ} (space page : ℕ) (block : List ℕ) → IsCopying lines line job w s v k → IsTurn line Taking s by ArchiveTurn (PageIs space page) t
    → IsArchiveLine line → by.actor ≡ Archiver 1 → block ≡ page_next job k space page → IsPaged lines line job w t v k block
paged {job = job} {k = k} space page block c turned is who blocked =
    let after = took_page space page (took c.running turned.takes who) in
    record {
      turned = turned_on [] Taking turned (λ o. ap (λ (f : Form). stage_after f Taking (PageIs space page) o) is.1) c.reached;
      running = after.running;
      wrote = c.wrote;
      next = next_block job k space page after.rest after.left ∙ ap (λ (x : List ℕ). first_blocks (suc k) (whole_archive job) ++ x ∷ []) (sym blocked);
    }

-- its block goes on tape
pub copied_page : (lines : List Line) (line : Line) (job : Job) (w v u : Written) (t : Seen) (k : ℕ) (block : List ℕ) → IsPaged lines line job w t v k block → Puts v block u → IsCopying lines line job w t u (k + 1)
copied_page lines line job w v u t k block p puts = record {
  reached = turned_well p.turned;
  running = p.running;
  wrote = subst (λ (l : List (List ℕ)). Wrote w l u) (sym p.next) (wrote_more block p.wrote puts);
}

-- none is left
pub copied_by : {lines : List Line} {line : Line} {job : Job} {w v : Written} {s t : Seen} {by : By} {k : ℕ} (reply : Reply) → IsCopying lines line job w s v k → IsTurn line Taking s by ArchiveTurn reply t
    → IsArchiveLine line → by.actor ≡ Archiver 1 → ((space page : ℕ) → reply ≡ PageIs space page → ⊥) → IsCopied lines line job w t v k
copied_by {lines = lines} {line = line} {job = job} {w = w} {v = v} {s = s} {t = t} {by = by} {k = k} reply c turned is who not_page = cases (took c.running turned.takes who)
  where
    cases : Took job k t reply → IsCopied lines line job w t v k
    cases (inl (space, page, h)) = absurd (not_page space page h.reply_is)
    cases (inr h) = record {
      turned = turned_on [] Ending turned (λ o. ap (λ (f : Form). stage_after f Taking reply o) is.1 ∙ ap (λ (r : Reply). stage_after (ArchiveForm 0 (names_in line.form)) Taking r o) h.reply_is) c.reached;
      running = h.running;
      none = h.left;
      wrote = c.wrote;
    }

-- memory was wanted while pages are taken
pub starved_copying : {lines : List Line} {line : Line} {job : Job} {w v : Written} {s : Seen} {k : ℕ} → IsCopying lines line job w s v k → Interrupts lines line job w s v NoMemory
starved_copying {job = job} {k = k} c = (run_stopped true c.reached (inr refl), c.running.journal_is, wrote_part (whole_archive job) (suc k) c.wrote, c.wrote.faults)

-- the block of a page was refused
pub refused_page : (lines : List Line) (line : Line) (job : Job) (w v u : Written) (t : Seen) (k : ℕ) (block : List ℕ) (end : TapeEnd) → IsPaged lines line job w t v k block → EndsPut v block u end → Interrupts lines line job w t u (TapeStop end)
refused_page lines line job w v u t k block end p puts =
    let short : suc k < length (whole_archive job) = omega (arith, length-whole job, p.running.passed) in
    let count : first_blocks (suc k + 1) (whole_archive job) ≡ first_blocks (suc k) (whole_archive job) ++ block ∷ [] =
    ap (λ (n : ℕ). first_blocks n (whole_archive job)) (let e : suc k + 1 ≡ suc (k + 1) = omega arith in e) ∙ p.next in
    let ended = put_ended (whole_archive job) (suc k) block end p.wrote short count puts in
    ((Taking, p.turned), (k + 1, p.running), ended.part, ended.cause)

-- the block that is made of the page that passed last
pub page_block : (job : Job) (k : ℕ) (t : Seen) (a : Running) (space page : ℕ) (block : List ℕ) → IsRunning t job (k + 1) → option_map archive_in (Some a) ≡ archive_of t.machine 1
    → block ≡ bytes_of (archive_page 1 a.number a.passed (page_saved (journal_in t.machine) space page)) → block ≡ page_next job k space page
page_block job k t a space page block r running is =
    let held : ◌≡◌ {A = Option Archive} (Some (archive_in a)) (Some (passing job (k + 1))) = running ∙ ap (λ (l : List (Option Archive)). slice_index_or l 0 None) r.archives in
    let same : archive_in a ≡ passing job (k + 1) = cc in
    let number : a.number ≡ 1 = ap (λ (x : Archive). x.number) same in
    let passed : a.passed ≡ k + 1 = ap (λ (x : Archive). x.passed) same in
    is ∙ ap (λ (n : ℕ). bytes_of (archive_page 1 n a.passed (page_saved (journal_in t.machine) space page))) number
    ∙ ap (λ (n : ℕ). bytes_of (archive_page 1 1 n (page_saved (journal_in t.machine) space page))) passed
    ∙ ap (λ (j : List Record). bytes_of (archive_page 1 1 (k + 1) (page_saved j space page))) (r.journal_is ∙ sym (take_all (length job.journal) job.journal (omega arith)))

-- ---- the header and the trailer

pub same_stream : (stream : Option (List (List ℕ))) → stream ≡ and_blocks stream []
same_stream None = refl
same_stream (Some s) = ap (λ (l : List (List ℕ)). Some l) (sym (append-nil s))

-- nothing is on tape yet
wrote_none : (w : Written) (blocks : List Block) → Wrote w (first_blocks 0 blocks) w
wrote_none w blocks = record { stream = same_stream (stream_of w.tape); room = omega arith; faults = refl; number = refl }

header_next : (job : Job) → first_blocks (0 + 1) (whole_archive job) ≡ first_blocks 0 (whole_archive job) ++ end_bytes header_kind 0 job ∷ []
header_next job = first_block job

-- the running archive's header or trailer
pub end_block_is : (job : Job) (k kind index : ℕ) (t : Seen) (a : Running) (block : List ℕ) → IsRunning t job k → option_map archive_in (Some a) ≡ archive_of t.machine 1
    → block ≡ bytes_of (end_block (formatted job.config).fixed kind index (archive_in a)) → block ≡ end_bytes kind index job
end_block_is job k kind index t a block r running is =
    let held : ◌≡◌ {A = Option Archive} (Some (archive_in a)) (Some (passing job k)) = running ∙ ap (λ (l : List (Option Archive)). slice_index_or l 0 None) r.archives in
    let same : archive_in a ≡ passing job k = cc in
    is ∙ ap (λ (x : Archive). bytes_of (end_block (formatted job.config).fixed kind index x)) same

pub passed_is : (job : Job) (k : ℕ) (t : Seen) (a : Running) → IsRunning t job k → option_map archive_in (Some a) ≡ archive_of t.machine 1 → a.passed ≡ k
passed_is job k t a r running =
    let held : ◌≡◌ {A = Option Archive} (Some (archive_in a)) (Some (passing job k)) = running ∙ ap (λ (l : List (Option Archive)). slice_index_or l 0 None) r.archives in
    let same : archive_in a ≡ passing job k = cc in
    ap (λ (x : Archive). x.passed) same

pub not_idle : (job : Job) (k : ℕ) (t : Seen) → IsRunning t job k → ◌≡◌ {A = Option Archive} None (archive_of t.machine 1) → ⊥
not_idle job k t r none =
    let e : ◌≡◌ {A = Option Archive} None (Some (passing job k)) = none ∙ ap (λ (l : List (Option Archive)). slice_index_or l 0 None) r.archives in cc

pub header_put : (lines : List Line) (line : Line) (job : Job) (w v : Written) (s : Seen) → IsBegun lines line job s → Puts w (end_bytes header_kind 0 job) v → IsCopying lines line job w s v 0
header_put lines line job w v s b puts = record {
  reached = turned_well b.turned;
  running = b.running;
  wrote = subst (λ (l : List (List ℕ)). Wrote w l v) (sym (first_block job)) (wrote_more (end_bytes header_kind 0 job) (wrote_none w (whole_archive job)) puts);
}

pub header_starved : (lines : List Line) (line : Line) (job : Job) (w : Written) (s : Seen) → IsBegun lines line job s → Interrupts lines line job w s w NoMemory
header_starved lines line job w s b = (run_stopped true (turned_well b.turned) (inr refl), b.running.journal_is, (0, same_stream (stream_of w.tape)), refl)

pub header_refused : (lines : List Line) (line : Line) (job : Job) (w v : Written) (s : Seen) (end : TapeEnd) → IsBegun lines line job s → EndsPut w (end_bytes header_kind 0 job) v end → Interrupts lines line job w s v (TapeStop end)
header_refused lines line job w v s end b puts =
    let ended = put_ended (whole_archive job) 0 (end_bytes header_kind 0 job) end (wrote_none w (whole_archive job)) (omega (arith, length-whole job)) (header_next job) puts in
    ((Taking, b.turned), (0, b.running), ended.part, ended.cause)

-- all blocks are the first so many
all_blocks : (job : Job) (k : ℕ) → k ≡ length (archive_pages job) → first_blocks (suc k + 1) (whole_archive job) ≡ map bytes_of (whole_archive job)
all_blocks job k all = take_all (suc k + 1) (map bytes_of (whole_archive job)) (omega (arith, all, length-map (whole_archive job) bytes_of, length-whole job))

trailer_next : (job : Job) (k : ℕ) → drop k (archive_pages job) ≡ [] → k ≤ length (archive_pages job) → first_blocks (suc k + 1) (whole_archive job) ≡ first_blocks (suc k) (whole_archive job) ++ end_bytes trailer_kind (k + 1) job ∷ []
trailer_next job k none le = all_blocks job k (take_whole k (archive_pages job) none le) ∙ last_block job k none le

pub trailer_put : (lines : List Line) (line : Line) (job : Job) (w v u : Written) (s : Seen) (k : ℕ) → IsCopied lines line job w s v k → Puts v (end_bytes trailer_kind (k + 1) job) u → Wrote w (map bytes_of (whole_archive job)) u
trailer_put lines line job w v u s k c puts =
    subst (λ (l : List (List ℕ)). Wrote w l u) (sym (last_block job k c.none c.running.passed)) (wrote_more (end_bytes trailer_kind (k + 1) job) c.wrote puts)

pub trailer_refused : (lines : List Line) (line : Line) (job : Job) (w v u : Written) (s : Seen) (k : ℕ) (end : TapeEnd) → IsCopied lines line job w s v k → EndsPut v (end_bytes trailer_kind (k + 1) job) u end → Interrupts lines line job w s u (TapeStop end)
trailer_refused lines line job w v u s k end c puts =
    let short : suc k < length (whole_archive job) = omega (arith, length-whole job, c.running.passed) in
    let ended = put_ended (whole_archive job) (suc k) (end_bytes trailer_kind (k + 1) job) end c.wrote short (trailer_next job k c.none c.running.passed) puts in
    ((Ending, c.turned), (k, c.running), ended.part, ended.cause)

synced_stream : (t : Tape) → IsSynced (all_synced t)
synced_stream t = cases t.volumes
  where
    cases : (v : Option (List (List (List ℕ)))) → unwrap_or (option_map (λ x. length (blocks_in_order x)) v) t.synced ≡ unwrap_or (option_map length (option_map blocks_in_order v)) (unwrap_or (option_map (λ x. length (blocks_in_order x)) v) t.synced)
    cases None = refl
    cases (Some x) = refl

pub finished : (lines : List Line) (line : Line) (job : Job) (w v u z : Written) (s : Seen) (k : ℕ) → IsCopied lines line job w s v k → Wrote w (map bytes_of (whole_archive job)) u → z ≡ record u { tape = all_synced u.tape } → IsOnTape lines line job w s z
finished lines line job w v u z s k c a is = subst (IsOnTape lines line job w s) (sym is) (record {
  reached = turned_well c.turned;
  journal_is = c.running.journal_is;
  wrote = record { stream = a.stream; room = a.room; faults = a.faults; number = a.number };
  synced = synced_stream u.tape;
})

pub sync_refused : (lines : List Line) (line : Line) (job : Job) (w v u z : Written) (s : Seen) (k : ℕ) (end : TapeEnd) → IsCopied lines line job w s v k → Wrote w (map bytes_of (whole_archive job)) u → EndsFinish u z end → Interrupts lines line job w s z (TapeStop end)
sync_refused lines line job w v u z s k (TapeFault drive count) c a e =
    let all = length (whole_archive job) in
    let every : first_blocks all (whole_archive job) ≡ map bytes_of (whole_archive job) = take_all all (map bytes_of (whole_archive job)) (omega (arith, length-map (whole_archive job) bytes_of)) in
    ((Ending, c.turned), (k, c.running), (all, ap (λ (t : Tape). stream_of t) e.3 ∙ a.stream ∙ ap (and_blocks (stream_of w.tape)) (sym every)), (e.0 ∙ a.number, e.1, subst (λ (n : ℕ). Rose n z.faults) a.faults e.2))
sync_refused lines line job w v u z s k (OutOfTape drive) c a e = absurd e

-- the running archive's trailer has the index behind its pages
pub trailer_is : (job : Job) (k : ℕ) (t : Seen) (a : Running) → IsRunning t job k → option_map archive_in (Some a) ≡ archive_of t.machine 1 → bytes_of (end_block (formatted job.config).fixed trailer_kind (a.passed + 1) (archive_in a)) ≡ end_bytes trailer_kind (k + 1) job
trailer_is job k t a r running =
    end_block_is job k trailer_kind (a.passed + 1) t a _ r running refl ∙ ap (λ (n : ℕ). end_bytes trailer_kind (n + 1) job) (passed_is job k t a r running)

pub header_is : (lines : List Line) (line : Line) (job : Job) (t : Seen) (a : Running) → IsBegun lines line job t → option_map archive_in (Some a) ≡ archive_of t.machine 1 → bytes_of (end_block (formatted job.config).fixed header_kind 0 (archive_in a)) ≡ end_bytes header_kind 0 job
header_is lines line job t a b running = end_block_is job 0 header_kind 0 t a _ b.running running refl

pub header_ended : (lines : List Line) (line : Line) (job : Job) (w v : Written) (s : Seen) (end : PlayEnd) → IsBegun lines line job s → RefusesPut w (end_bytes header_kind 0 job) v end → Interrupts lines line job w s v end
header_ended lines line job w v s NoMemory b same = subst (λ (x : Written). Interrupts lines line job w s x NoMemory) (sym same) (header_starved lines line job w s b)
header_ended lines line job w v s (TapeStop end) b puts = header_refused lines line job w v s end b puts

pub every_block : (job : Job) → first_blocks (length (whole_archive job)) (whole_archive job) ≡ map bytes_of (whole_archive job)
every_block job = take_all (length (whole_archive job)) (map bytes_of (whole_archive job)) (omega (arith, length-map (whole_archive job) bytes_of))

-- the head of a running archive is that of its job
pub head_is : (job : Job) (k : ℕ) (t : Seen) (a : Running) → IsRunning t job k → option_map archive_in (Some a) ≡ archive_of t.machine 1 → head_at (formatted job.config).fixed (archive_in a) ≡ head_of_job job
head_is job k t a r running =
    let held : ◌≡◌ {A = Option Archive} (Some (archive_in a)) (Some (passing job k)) = running ∙ ap (λ (l : List (Option Archive)). slice_index_or l 0 None) r.archives in
    let same : archive_in a ≡ passing job k = cc in
    ap (λ (x : Archive). head_at (formatted job.config).fixed x) same

-- a page that passes is one fewer that is left
pub fewer_left : {s t : Seen} {by : By} (space page : ℕ) → Takes s by ArchiveTurn (PageIs space page) t → by.actor ≡ Archiver 1 → pages_ahead t < pages_ahead s
fewer_left {s = s} {t = t} {by = by} space page takes who =
    by_archives s.machine s.machine.archives refl (takes.step ∙ ap (λ (a : Actor). turn (given_by (PageIs space page)) s.machine a ArchiveTurn) who)
  where
    by_left : (m : Machine) (a : Archive) (rest : List (Option Archive)) (left : List (ℕ × ℕ)) → m.archives ≡ Some a ∷ rest → left_of m a ≡ left → ◌≡◌ {A = Reply × Machine} (PageIs space page, t.machine) (take_page m 1 a left)
        → length (unwrap_or (option_map (left_of t.machine) (archive_of t.machine 1)) []) < length left
    by_left m a rest [] held is step = absurd (let e : PageIs space page ≡ AllTaken = ap (λ (r : Reply × Machine). r.0) step in cc)
    by_left m a rest (p ∷ left) held is step =
        let after : t.machine ≡ with_archive 1 (Some (record a { passed = a.passed + 1 })) m = ap (λ (r : Reply × Machine). r.1) step in
        let n = length (pages_of m a) in
        let was : n - a.passed ≡ suc (length left) = sym (length-drop a.passed (pages_of m a)) ∙ ap length is in
        let now : length (left_of m (record a { passed = a.passed + 1 })) ≡ n - (a.passed + 1) = length-drop (a.passed + 1) (pages_of m a) in
        let kept : ◌≡◌ {A = Option Archive} (archive_of (with_archive 1 (Some (record a { passed = a.passed + 1 })) m) 1) (Some (record a { passed = a.passed + 1 })) =
        ap (λ (l : List (Option Archive)). slice_index_or (slice_set l 0 (Some (record a { passed = a.passed + 1 }))) 0 None) held in
        let short : length (unwrap_or (option_map (left_of t.machine) (archive_of t.machine 1)) []) ≡ n - (a.passed + 1) =
        ap (λ (x : Machine). length (unwrap_or (option_map (left_of x) (archive_of x 1)) [])) after
        ∙ ap (λ (x : Option Archive). length (unwrap_or (option_map (left_of m) x) [])) kept ∙ now in
        omega (arith, short, was)

    by_archives : (m : Machine) (archives : List (Option Archive)) → m.archives ≡ archives → ◌≡◌ {A = Reply × Machine} (PageIs space page, t.machine) (take_turn m 1)
        → length (unwrap_or (option_map (left_of t.machine) (archive_of t.machine 1)) []) < length (unwrap_or (option_map (left_of m) (archive_of m 1)) [])
    by_archives m [] held step =
        absurd (let f : ◌≡◌ {A = Reply × Machine} (PageIs space page, t.machine) (NoArchive, m) = step ∙ ap (λ (l : List (Option Archive)). take_at m 1 (slice_index_or l 0 None)) held in
        let e : PageIs space page ≡ NoArchive = ap (λ (r : Reply × Machine). r.0) f in cc)
    by_archives m (None ∷ rest) held step =
        absurd (let f : ◌≡◌ {A = Reply × Machine} (PageIs space page, t.machine) (NoArchive, m) = step ∙ ap (λ (l : List (Option Archive)). take_at m 1 (slice_index_or l 0 None)) held in
        let e : PageIs space page ≡ NoArchive = ap (λ (r : Reply × Machine). r.0) f in cc)
    by_archives m (Some a ∷ rest) held step =
        let f : ◌≡◌ {A = Reply × Machine} (PageIs space page, t.machine) (take_page m 1 a (left_of m a)) = step ∙ ap (λ (l : List (Option Archive)). take_at m 1 (slice_index_or l 0 None)) held in
        subst (λ (l : List (Option Archive)). length (unwrap_or (option_map (left_of t.machine) (archive_of t.machine 1)) []) < length (unwrap_or (option_map (left_of m) (slice_index_or l 0 None)) [])) (sym held)
        (by_left m a rest (left_of m a) held refl f)
