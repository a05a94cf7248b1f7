-- How a command ends: its output in two pieces, and its status.
use Rattle.std.specs.Prelude.{Err, IfErr, List, Ok, OnErr, OnOk, Option, Result, Some, length, refl, take, ℕ, ◌++◌, ◌+◌, ◌≡◌}
use Rattle.std.proofs.Common.{ap, append_assoc, arith, drop, inl, subst, sym, ◌∙◌}
use Rattle.std.proofs.lemmas.List.{take-append-drop, take_all}
use Rattle.std.proofs.Math.Seq.{take-append-add, take-append_seam}
use Rattle.std.specs.Io.KnownBytes.{Appends}
use Rattle.ol_chunks.proofs.AgainLaws.{read_again}
use Rattle.ol_chunks.specs.Limits.{IsConfig}
use Rattle.ol_chunks.specs.Reading.{config_in_text}
use Rattle.ol_chunks.specs.declared.parse.ConfigFault.{ConfigFault}
use Rattle.ol_chunks.specs.declared.parse.ConfigFault.TheVariants.{BadConfig}
use Rattle.ol_values.specs.Config.{Config, config_text}
use Rattle.ol_ports.proofs.Moves.{appends_both}
use Rattle.ol_volume.specs.Written.{Written}
use Rattle.ol_online.specs.declared.told.Told.TheVariants.{Nothing}
use Rattle.ol_online.specs.declared.status.Status.{Status}
use Rattle.ol_online.specs.declared.words.Verb.{Verb}
use Rattle.ol_online.specs.declared.words.Verb.TheVariants.{Play}
use Rattle.ol_values.specs.declared.history.Entry.{Entry}
use Rattle.ol_values.specs.declared.line.Line.{Line}
use Rattle.ol_ports.specs.Drive.{Tape}
use Rattle.ol_volume.specs.declared.writer.TapeEnd.TheVariants.{OutOfTape as OutEnd, TapeFault as FaultEnd}
use Rattle.ol_online.specs.declared.archive.PlayEnd.{PlayEnd}
use Rattle.ol_online.specs.declared.archive.PlayEnd.TheVariants.{NoMemory as Starved, Tape as TapeStop}
use Rattle.ol_online.specs.Command.{EndsUnplayed, EndsWork, PlayedTo, status_of_play}
use Rattle.ol_online.specs.Playing.{PlaysShort, PlaysWell}
use Rattle.ol_online.specs.Views.{Change, DiskView, SourceView, bytes_on, drive_1}

-- ---- the output

pub both_part : {T E : Type 0} (old middle new : Option (List ℕ)) (front back : List ℕ) (r : Result T E) → Appends old middle front
    → OnErr r ((n : ℕ) × Appends middle new (take n back)) → OnErr r ((n : ℕ) × Appends old new (take n (front ++ back)))
both_part old middle new front back (Ok x) first p = p
both_part old middle new front back (Err x) first p =
    (length front + p.0, appends_both old middle new front (take p.0 back) (take (length front + p.0) (front ++ back)) (take-append-add front back p.0) first p.1)

pub front_part : (old new : Option (List ℕ)) (front back : List ℕ) → (n : ℕ) × Appends old new (take n front) → (n : ℕ) × Appends old new (take n (front ++ back))
front_part old new front back p =
    let f : List ℕ = take p.0 front in
    let rest : List ℕ = drop p.0 front ++ back in
    let cut : front ++ back ≡ f ++ rest = ap (λ (l : List ℕ). l ++ back) (sym (take-append-drop p.0 front)) ∙ append_assoc f (drop p.0 front) back in
    let part : take (length f) (front ++ back) ≡ f = ap (λ (l : List ℕ). take (length f) l) cut ∙ take-append_seam f rest in
    (length f, subst (λ (l : List ℕ). Appends old new l) (sym part) p.1)

pub whole_part : (old new : Option (List ℕ)) (whole : List ℕ) → Appends old new whole → (n : ℕ) × Appends old new (take n whole)
whole_part old new whole a = (length whole, subst (λ (l : List ℕ). Appends old new l) (sym (take_all (length whole) whole (omega (arith)))) a)

-- ---- the work

-- the text of a table, of which the first bytes are read again
pub text_again : (c : Config) (n : ℕ) (buf rest : List ℕ) → IsConfig c → n ≡ length (config_text c) → buf ≡ config_text c ++ rest → config_in_text (take n buf) ≡ Ok c
text_again c n buf rest config count is =
    let front : take n buf ≡ config_text c = subst (λ (k : ℕ). take k buf ≡ config_text c) (sym count) (ap (λ (l : List ℕ). take (length (config_text c)) l) is ∙ take-append_seam (config_text c) rest) in
    ap (λ (l : List ℕ). config_in_text l) front ∙ read_again c config

-- a text that is a configuration is not refused
pub not_bad : (c : Config) (l : List ℕ) (fault : ConfigFault) → config_in_text l ≡ Ok c → ((n : ℕ) → (let r : Result Config ConfigFault = Err fault in r) ≡ Err (BadConfig n) → config_in_text l ≡ Err n) → ⊥
not_bad c l (BadConfig n) read bad = let told = bad n refl in cc

-- a play of which nothing was played
pub ends_unplayed : (verb : Option Verb) (tells : Type 0) (reads : Change SourceView) (disk : Change DiskView) (tape : Change Written) (status : Status)
    → verb ≡ Some Play → tape.new ≡ tape.old → EndsUnplayed reads.old.left reads.old.faults reads.new.faults tells (bytes_on disk.old) disk.old.sizes status → EndsWork verb tells reads disk tape Nothing status
ends_unplayed verb tells reads disk tape status is same e =
    subst (λ (v : Option Verb). EndsWork v tells reads disk tape Nothing status) (sym is) (inl ((refl, same), e))

-- ---- the play

written_is : (w : Written) (tape : Tape) (faults : ℕ) → w.tape ≡ tape → w.faults ≡ faults → w.number ≡ 1 → w ≡ drive_1 tape faults
written_is w tape faults t f n = λ i. record { tape = t i; faults = f i; number = n i }

-- how a play ended early says nothing of the drive's number
short_by : (c : Config) (lines : List Line) (archive : Option Line) (w v : Written) (h : List Entry) (tape : Tape) (faults : ℕ) (end : PlayEnd)
    → v.tape ≡ tape → v.faults ≡ faults → PlaysShort c lines archive w h v end → PlaysShort c lines archive w h (drive_1 tape faults) end
short_by c lines archive w v h tape faults Starved t f s =
    subst (λ (x : Tape). PlaysShort c lines archive w h (drive_1 x faults) Starved) t s
short_by c lines archive w v h tape faults (TapeStop (FaultEnd drive count)) t f s =
    subst (λ (x : Tape). PlaysShort c lines archive w h (drive_1 x faults) (TapeStop (FaultEnd drive count))) t
    (subst (λ (n : ℕ). PlaysShort c lines archive w h (drive_1 v.tape n) (TapeStop (FaultEnd drive count))) f s)
short_by c lines archive w v h tape faults (TapeStop (OutEnd drive)) t f s =
    subst (λ (x : Tape). PlaysShort c lines archive w h (drive_1 x faults) (TapeStop (OutEnd drive))) t
    (subst (λ (n : ℕ). PlaysShort c lines archive w h (drive_1 v.tape n) (TapeStop (OutEnd drive))) f s)

ended_play : (c : Config) (lines : List Line) (archive : Option Line) (w v : Written) (h : List Entry) (tape : Tape) (faults : ℕ) (end : Result Unit PlayEnd)
    → w.number ≡ 1 → v.tape ≡ tape → v.faults ≡ faults → OnOk end (PlaysWell c lines archive w h v) → IfErr end (PlaysShort c lines archive w h v)
    → PlayedTo c lines archive w h (drive_1 tape faults) (status_of_play end)
ended_play c lines archive w v h tape faults (Ok u) n t f well short =
    subst (λ (x : Written). PlaysWell c lines archive w h x) (written_is v tape faults t f (well.wrote.number ∙ n)) well
ended_play c lines archive w v h tape faults (Err Starved) n t f well short = short_by c lines archive w v h tape faults Starved t f short
ended_play c lines archive w v h tape faults (Err (TapeStop (FaultEnd drive count))) n t f well short =
    (count, short_by c lines archive w v h tape faults (TapeStop (FaultEnd drive count)) t f short)
ended_play c lines archive w v h tape faults (Err (TapeStop (OutEnd drive))) n t f well short =
    short_by c lines archive w v h tape faults (TapeStop (OutEnd drive)) t f short

-- the play of lines that are given in two parts, on a drive that is lent to a writer
pub played_on : (c : Config) (given lines : List Line) (told archive : Option Line) (w v : Written) (h : List Entry) (before after : Tape) (faults_before faults_after : ℕ) (end : Result Unit PlayEnd)
    → given ≡ lines → told ≡ archive → w.tape ≡ before → w.faults ≡ faults_before → w.number ≡ 1 → v.tape ≡ after → v.faults ≡ faults_after
    → OnOk end (PlaysWell c given told w h v) → IfErr end (PlaysShort c given told w h v)
    → PlayedTo c lines archive (drive_1 before faults_before) h (drive_1 after faults_after) (status_of_play end)
played_on c given lines told archive w v h before after faults_before faults_after end whole line t f n vt vf well short =
    subst (λ (l : List Line). PlayedTo c l archive (drive_1 before faults_before) h (drive_1 after faults_after) (status_of_play end)) whole
    (subst (λ (o : Option Line). PlayedTo c given o (drive_1 before faults_before) h (drive_1 after faults_after) (status_of_play end)) line
    (subst (λ (x : Written). PlayedTo c given told x h (drive_1 after faults_after) (status_of_play end)) (written_is w before faults_before t f n)
    (ended_play c given told w v h after faults_after end n vt vf well short)))
