-- How a command ends of which no count of faults rose: well, or for want of memory.
use Rattle.std.specs.Prelude.{Err, List, Ok, Option, Result, Some, [], length, refl, take, ℕ, ◌∷◌, ◌≡◌, ◌≤◌}
use Rattle.std.proofs.Common.{arith, inl, inr, subst, sym, ◌∙◌}
use Rattle.ol_anchor_opening.specs.Opening.{IsOpenable, IsReadOf}
use Rattle.ol_anchor_opening.specs.declared.anchor.AnchorFault.{AnchorFault}
use Rattle.ol_anchor_opening.specs.declared.anchor.AnchorFault.TheVariants.{BadDisk as Damaged, Blank as BlankPair, DiskFault as AnchorDisk, Restoring as BeingRestored, TooSmall as SmallChunk}
use Rattle.ol_chunks.specs.Reading.{config_in_text}
use Rattle.ol_format.specs.First.{AreLarge, IsFirstSmall, chunks_of}
use Rattle.ol_values.specs.Config.{Config}
use Rattle.ol_values.specs.declared.history.Entry.{Entry}
use Rattle.ol_values.specs.declared.line.Line.{Line}
use Rattle.ol_ports.specs.Causes.{IsCalm, Rose}
use Rattle.ol_ports.specs.Disk.{Past}
use Rattle.ol_ports.specs.Drive.{capacity}
use Rattle.ol_reserve.specs.declared.anchor.Anchor.{Anchor}
use Rattle.ol_script.specs.Script.{script_of}
use Rattle.ol_volume.specs.Written.{Written}
use Rattle.ol_online.specs.declared.status.Status.{Status}
use Rattle.ol_online.specs.declared.status.Status.TheVariants.{BadConfig, BadDisk, BadScript, BadWords, DiskFault, NoMemory, NotReady, Ok as Done, OutOfTape, ReadFault, TapeFault, TooSmall, WriteFault}
use Rattle.ol_online.specs.declared.told.Told.{Told}
use Rattle.ol_online.specs.declared.words.Verb.{Verb}
use Rattle.ol_online.specs.declared.words.Verb.TheVariants.{Init, Play}
use Rattle.ol_online.specs.Calm.{FormatsCalmly, HasTape, IsSoundPlay, IsWell, PlaysCalmly}
use Rattle.ol_online.specs.Command.{EndsPlayed, EndsScript, EndsUnplayed, EndsWork, IsInit, IsPlayed, IsPrepared, IsReported, PlayedTo, archive_line_in, history_in, status_of_init}
use Rattle.ol_online.specs.Initing.{EndsInit, config_limit}
use Rattle.ol_online.specs.Opening.{HasStatusCause, opened_of}
use Rattle.ol_online.specs.Playing.{due, journal_after}
use Rattle.ol_online.specs.Views.{Change, DiskView, SinkView, SourceView, bytes_on}

no_fault : (before after : ℕ) → Rose before after → IsCalm before after → ⊥
no_fault before after rose calm = omega (arith, rose, calm)

-- a chunk is not both as large as a configuration says and smaller
no_small : (sizes : ℕ → ℕ) (c : Config) (chunk : ℕ) → AreLarge sizes c (chunks_of c) → IsFirstSmall sizes c chunk → ⊥
no_small sizes c chunk large first = let enough = large chunk first.there in omega (arith, enough, first.small)

-- the status is no fault of the disk where none of its counts rose
no_disk_fault : (before now : ℕ → ℕ) (status : Status) → HasStatusCause before now status → ((chunk : ℕ) → IsCalm (before chunk) (now chunk)) → (chunk : ℕ) → status ≡ DiskFault chunk → ⊥
no_disk_fault before now status cause calm chunk is = no_fault (before chunk) (now chunk) (cause.fault chunk is).rose (calm chunk)

-- the status of the work is reported where no write failed
told_as_ended : (before after : ℕ) (ended status : Status) → IsCalm before after → IsReported before after ended status → status ≡ ended
told_as_ended before after ended status calm (inl is) = is
told_as_ended before after ended status calm (inr is) = absurd (no_fault before after is.2 calm)

-- ---- a play

calm_script : (left : Option (List ℕ)) (bytes : List ℕ) (lines : List Line) (before after : ℕ) (status : Status) → left ≡ Some bytes → script_of bytes ≡ Ok lines → IsCalm before after
    → EndsScript left before after (Err status) → status ≡ NoMemory
calm_script left bytes lines before after (BadScript line) is reads calm e = let bad = e bytes is in cc
calm_script left bytes lines before after ReadFault is reads calm e = absurd (no_fault before after e calm)
calm_script left bytes lines before after NoMemory is reads calm e = refl
calm_script left bytes lines before after Done is reads calm e = absurd e
calm_script left bytes lines before after BadWords is reads calm e = absurd e
calm_script left bytes lines before after (BadConfig line) is reads calm e = absurd e
calm_script left bytes lines before after (NotReady state) is reads calm e = absurd e
calm_script left bytes lines before after (BadDisk chunk page) is reads calm e = absurd e
calm_script left bytes lines before after (TooSmall chunk) is reads calm e = absurd e
calm_script left bytes lines before after (DiskFault chunk) is reads calm e = absurd e
calm_script left bytes lines before after WriteFault is reads calm e = absurd e
calm_script left bytes lines before after (TapeFault drive) is reads calm e = absurd e
calm_script left bytes lines before after (OutOfTape drive) is reads calm e = absurd e

-- a disk that may be opened is refused for a fault alone
calm_opening : (sizes : ℕ → ℕ) (a : Anchor) (c : Config) (status : Status) (read : Result (Anchor × Config) AnchorFault) → IsOpenable sizes a c → ((chunk : ℕ) → status ≡ DiskFault chunk → ⊥)
    → (let r : Result Config Status = Err status in r) ≡ opened_of read → IsReadOf sizes a read → ⊥
calm_opening sizes a c status (Ok r) good no_disk is o = cc
calm_opening sizes a c status (Err (SmallChunk chunk)) (on_line, reads, large) no_disk is (other, state, text, first) =
    let same : other ≡ c = cc in no_small sizes c chunk large (subst (λ (x : Config). IsFirstSmall sizes x chunk) same first)
calm_opening sizes a c status (Err BeingRestored) good no_disk is o = omega (arith, good.0, o)
calm_opening sizes a c status (Err BlankPair) good no_disk is o = o
calm_opening sizes a c status (Err (Damaged chunk page)) good no_disk is o = o
calm_opening sizes a c status (Err (AnchorDisk chunk)) good no_disk is o = no_disk chunk cc

-- what is opened is the configuration of the anchor
calm_opened : (sizes : ℕ → ℕ) (a : Anchor) (c found : Config) (read : Result (Anchor × Config) AnchorFault) → IsOpenable sizes a c
    → (let r : Result Config Status = Ok found in r) ≡ opened_of read → IsReadOf sizes a read → found ≡ c
calm_opened sizes a c found (Ok r) good is o = (let one = o.1.1 in let two = good.1 in cc)
calm_opened sizes a c found (Err fault) good is o = cc

-- what was read, opened and planned is that script, configuration and plan
prepared_is : (source : SourceView) (tells : Type 0) (disk : DiskView) (lines : List Line) (c : Config) (n : ℕ) (given : List Line) (found : Config) (plan : Result ℕ ℕ)
    → IsSoundPlay source tells disk lines c n → IsPrepared source.left tells (bytes_on disk) disk.sizes given found plan → (given ≡ lines) × (found ≡ c) × (plan ≡ Ok n)
prepared_is source tells disk lines c n given found plan p q =
    let read : given ≡ lines = (let first = q.says p.bytes p.left in let second = p.script in cc) in
    let opened : found ≡ c = calm_opened disk.sizes p.anchor c found q.opens.read p.opens q.opens.answer (q.opens.ended.only p.told p.low p.anchor p.newest) in
    (read, opened, (let first = q.plans in let second = p.plans in cc))

calm_unplayed : (reads : Change SourceView) (tells : Type 0) (disk : DiskView) (lines : List Line) (c : Config) (n : ℕ) (status : Status)
    → IsSoundPlay reads.old tells disk lines c n → IsCalm reads.old.faults reads.new.faults → ((chunk : ℕ) → status ≡ DiskFault chunk → ⊥)
    → EndsUnplayed reads.old.left reads.old.faults reads.new.faults tells (bytes_on disk) disk.sizes status → status ≡ NoMemory
calm_unplayed reads tells disk lines c n status p calm no_disk (inl e) =
    calm_script reads.old.left p.bytes lines reads.old.faults reads.new.faults status p.left p.script calm e
calm_unplayed reads tells disk lines c n status p calm no_disk (inr (inl (given, says, opens))) =
    absurd (calm_opening disk.sizes p.anchor c status opens.read p.opens no_disk opens.answer (opens.ended.only p.told p.low p.anchor p.newest))
calm_unplayed reads tells disk lines c n status p calm no_disk (inr (inr (given, found, bad, prepared, is))) =
    let same = (prepared_is reads.old tells disk lines c n given found (Err bad) p prepared).2 in cc

calm_play : (c : Config) (lines : List Line) (archive : Option Line) (w v : Written) (h : List Entry) (status : Status) → IsCalm w.faults v.faults → length (due c archive (journal_after c h)) ≤ capacity w.tape
    → PlayedTo c lines archive w h v status → IsWell status
calm_play c lines archive w v h Done calm enough p = inl refl
calm_play c lines archive w v h NoMemory calm enough p = inr refl
calm_play c lines archive w v h (TapeFault drive) calm enough (count, (legal, part, (drive_is, count_is, rose), tells)) = absurd (no_fault w.faults v.faults rose calm)
calm_play c lines archive w v h (OutOfTape drive) calm enough (legal, part, (drive_is, few, room, rooms, faults), tells) = absurd (omega (arith, few, enough))
calm_play c lines archive w v h WriteFault calm enough p = absurd p
calm_play c lines archive w v h BadWords calm enough p = absurd p
calm_play c lines archive w v h (BadScript line) calm enough p = absurd p
calm_play c lines archive w v h (BadConfig line) calm enough p = absurd p
calm_play c lines archive w v h (NotReady state) calm enough p = absurd p
calm_play c lines archive w v h (BadDisk chunk page) calm enough p = absurd p
calm_play c lines archive w v h (TooSmall chunk) calm enough p = absurd p
calm_play c lines archive w v h ReadFault calm enough p = absurd p
calm_play c lines archive w v h (DiskFault chunk) calm enough p = absurd p

-- the same of the lines, configuration and history that a play tells
calm_played : (c : Config) (lines : List Line) (n : ℕ) (tape : Change Written) (told : Told) (status : Status) → IsCalm tape.old.faults tape.new.faults
    → length (due c (archive_line_in n lines) (journal_after c (history_in told))) ≤ capacity tape.old.tape → IsPlayed c lines n tape told status → IsWell status
calm_played c lines n tape told status calm enough p =
    let told_history : history_in told ≡ p.history = subst (λ (t : Told). history_in t ≡ p.history) (sym p.told_is) refl in
    calm_play c lines (archive_line_in n lines) tape.old tape.new p.history status calm (subst (λ (h : List Entry). length (due c (archive_line_in n lines) (journal_after c h)) ≤ capacity tape.old.tape) told_history enough) p.played

calm_work : (tells : Type 0) (reads : Change SourceView) (disk : DiskView) (tape : Change Written) (lines : List Line) (c : Config) (n : ℕ) (told : Told) (status : Status)
    → IsSoundPlay reads.old tells disk lines c n → IsCalm reads.old.faults reads.new.faults → ((chunk : ℕ) → status ≡ DiskFault chunk → ⊥)
    → HasTape tape lines c n (history_in told) → EndsPlayed tells reads disk tape told status → IsWell status
calm_work tells reads disk tape lines c n told status p calm no_disk enough (inl (unplayed, e)) =
    inr (calm_unplayed reads tells disk lines c n status p calm no_disk e)
calm_work tells reads disk tape lines c n told status p calm no_disk enough (inr (given, found, count, prepared, played)) =
    let same = prepared_is reads.old tells disk lines c n given found (Ok count) p prepared in
    let counted : count ≡ n = (let plan = same.2 in cc) in
    let there : IsPlayed c lines n tape told status =
    subst (λ (x : Config). IsPlayed x lines n tape told status) same.1
    (subst (λ (l : List Line). IsPlayed found l n tape told status) same.0
    (subst (λ (k : ℕ). IsPlayed found given k tape told status) counted played)) in
    calm_played c lines n tape told status enough.calm enough.room there

-- where no count rose, a play over a sound disk, with tape enough, was played to its end, or memory was wanted
pub calm_command : (verb : Option Verb) (tells : Type 0) (reads : Change SourceView) (disk : Change DiskView) (tape : Change Written) (writes : Change SinkView) (told : Told) (h : List Entry) (ended status : Status)
    → EndsWork verb tells reads disk tape told ended → HasStatusCause disk.old.faults disk.new.faults ended → IsReported writes.old.faults writes.new.faults ended status → h ≡ history_in told
    → verb ≡ Some Play → PlaysCalmly tells reads disk tape writes h status
calm_command verb tells reads disk tape writes told h ended status ends cause reported history play lines c n sound calm enough =
    let work : EndsPlayed tells reads disk.old tape told ended = subst (λ (x : Option Verb). EndsWork x tells reads disk tape told ended) play ends in
    let tape_enough = subst (λ (x : List Entry). HasTape tape lines c n x) history enough in
    let no_disk = no_disk_fault disk.old.faults disk.new.faults ended cause calm.chunks in
    subst IsWell (sym (told_as_ended writes.old.faults writes.new.faults ended status calm.sink reported))
    (calm_work tells reads disk.old tape lines c n told ended sound calm.source no_disk tape_enough work)

-- ---- a formatting

calm_format : (left : Option (List ℕ)) (bytes : List ℕ) (c : Config) (before after : ℕ) (tells : Type 0) (sizes : ℕ → ℕ) (past : Past) (result : Result Unit Status)
    → left ≡ Some bytes → config_in_text (take config_limit bytes) ≡ Ok c → AreLarge sizes c (chunks_of c) → IsCalm before after → ((chunk : ℕ) → status_of_init result ≡ DiskFault chunk → ⊥)
    → EndsInit left before after tells sizes past result → IsWell (status_of_init result)
calm_format left bytes c before after tells sizes past (Ok u) is reads large calm no_disk e = inl refl
calm_format left bytes c before after tells sizes past (Err NoMemory) is reads large calm no_disk e = inr refl
calm_format left bytes c before after tells sizes past (Err (BadConfig line)) is reads large calm no_disk e = let bad = e bytes is in cc
calm_format left bytes c before after tells sizes past (Err ReadFault) is reads large calm no_disk e = absurd (no_fault before after e calm)
calm_format left bytes c before after tells sizes past (Err (DiskFault chunk)) is reads large calm no_disk e = absurd (no_disk chunk refl)
calm_format left bytes c before after tells sizes past (Err (TooSmall chunk)) is reads large calm no_disk (other, says, first) =
    let same : other ≡ c = (let told = says bytes is in cc) in absurd (no_small sizes c chunk large (subst (λ (x : Config). IsFirstSmall sizes x chunk) same first))
calm_format left bytes c before after tells sizes past (Err Done) is reads large calm no_disk e = absurd e.2
calm_format left bytes c before after tells sizes past (Err BadWords) is reads large calm no_disk e = absurd e.2
calm_format left bytes c before after tells sizes past (Err (BadScript line)) is reads large calm no_disk e = absurd e.2
calm_format left bytes c before after tells sizes past (Err (NotReady state)) is reads large calm no_disk e = absurd e.2
calm_format left bytes c before after tells sizes past (Err (BadDisk chunk page)) is reads large calm no_disk e = absurd e.2
calm_format left bytes c before after tells sizes past (Err WriteFault) is reads large calm no_disk e = absurd e.2
calm_format left bytes c before after tells sizes past (Err (TapeFault drive)) is reads large calm no_disk e = absurd e.2
calm_format left bytes c before after tells sizes past (Err (OutOfTape drive)) is reads large calm no_disk e = absurd e.2

-- one of the items of a list of five
pub some_item : {T : Type 0} (items : List T) → length items ≡ 5 → T
some_item [] five = absurd (omega (arith, five))
some_item (item ∷ items) five = item

-- where no count rose, a disk with large chunks was formatted, or memory was wanted
pub calm_init : (verb : Option Verb) (tells : Type 0) (reads : Change SourceView) (disk : Change DiskView) (tape : Change Written) (writes : Change SinkView) (told : Told) (ended status : Status)
    → EndsWork verb tells reads disk tape told ended → HasStatusCause disk.old.faults disk.new.faults ended → IsReported writes.old.faults writes.new.faults ended status
    → verb ≡ Some Init → FormatsCalmly reads disk writes status
calm_init verb tells reads disk tape writes told ended status ends cause reported init c sound calm =
    let work : IsInit tells reads disk told ended × (tape.new ≡ tape.old) = subst (λ (x : Option Verb). EndsWork x tells reads disk tape told ended) init ends in
    let r = work.0.result in
    let none : (chunk : ℕ) → status_of_init r ≡ DiskFault chunk → ⊥ = λ chunk is. no_disk_fault disk.old.faults disk.new.faults ended cause calm.chunks chunk (work.0.status_is ∙ is) in
    subst IsWell (sym (told_as_ended writes.old.faults writes.new.faults ended status calm.sink reported ∙ work.0.status_is))
    (calm_format reads.old.left sound.bytes c reads.old.faults reads.new.faults tells disk.old.sizes disk.new.past r sound.left sound.config sound.large calm.source none work.0.ends)
