use Rattle.std.specs.Prelude.{Err, List, Option, Some, length, slice_index, ℕ, ◌==◌, ◌≡◌}
use Rattle.std.proofs.Common.{ap, inl, subst, sym, ◌∙◌}
use Rattle.ol_values.specs.declared.event.Reply.TheVariants.{Started}
use Rattle.ol_cursor.specs.declared.cursor.Cursor.{Cursor}
use Rattle.ol_ports.proofs.StopLaws.{stops_none}
use Rattle.ol_ports.specs.Disk.{Past}
use Rattle.ol_ports.specs.Stops.{Stops}
use Rattle.ol_running.specs.declared.running.Running.{Running}
use Rattle.ol_running.specs.Running.{begun, with_running}
use Rattle.ol_storage.specs.declared.storage.StorageFault.TheVariants.{Bad, Failed, NoMemory, Stopped}
use Rattle.ol_storage.specs.Behind.{pages_of}
use Rattle.ol_storage.specs.Installation.{Installation, config_of}
use Rattle.ol_engine.specs.Parts.{behind_of}
use Rattle.ol_engine.specs.Turns.{StandsWithinEither}
use Rattle.ol_free_slots.proofs.Reading.{other_answer, read_shows}
use Rattle.ol_archive_turns.specs.Turns.{AreAllUp, Tells}
use Rattle.ol_archive_turns.proofs.Ends.{either_rest}
use Rattle.ol_archive_start.specs.Starting.{AreThere, anchor_started, changed_of, cursor_begun}
use Rattle.ol_archive_start.proofs.Followed.{begun_there, begun_up}
use Rattle.ol_archive_start.proofs.Read.{not_failed, read_stops, read_tells, read_turns}
use Rattle.ol_archive_start.proofs.Refused.{all_up}
use Rattle.ol_archive_start.proofs.Started.{begin_fails, begin_tells, up_put}
use Rattle.ol_engine.proofs.Going.{goes_beside, goes_both}
use Rattle.ol_archive_start.proofs.archive.begin.Goals as goal

pub count_pages-requires-clause-there : goal.count_pages-requires-clause-there
count_pages-requires-clause-there g c =
    let v = c.args.storage.now.now in
    subst (λ (x : Cursor). AreThere v x) (sym c.cursor_of-cursor.ensures)
    (begun_there v c.args.locks.now c.args.level 0 c.args.spaces.now c.requires.spaces c.is_stopped-stands.ensures.ring.config.few (all_up v.anchor c.args.archives.now c.args.level c.args.spaces.now c.requires.free))

-- ---- the count failed

pub returns-in-Err-clause-answer : goal.returns-in-Err-clause-answer
returns-in-Err-clause-answer g c tells opened m registers before told regular stored =
    let v = c.args.storage.now.now in
    let w = c.count_pages.new.storage.now in
    begin_fails opened v c.args.locks.now registers c.args.archives.now m c.args.archiver c.args.level c.args.spaces.now told c.requires.spaces c.requires.free (Tells opened w c.args.locks.now registers c.args.archives.now) c.in-Err.fault
    (λ e. read_tells opened v w c.args.locks.now registers c.args.archives.now m (c.in-Err.ensures.still (not_failed c.in-Err.fault e)) told) (λ e. c.in-Err.ensures.only (ap (λ f. Err f) e))

pub returns-in-Err-clause-turns : goal.returns-in-Err-clause-turns
returns-in-Err-clause-turns g c opened turns never =
    read_turns opened c.args.storage.now.now c.count_pages.new.storage.now c.args.locks.now (c.in-Err.ensures.still (λ e. never (other_answer c.in-Err.fault Failed e))) turns

pub returns-in-Err-clause-stops : goal.returns-in-Err-clause-stops
returns-in-Err-clause-stops g c tells opened m registers before shows regular is =
    let v = c.args.storage.now.now in
    subst (λ (p : Past). Stops (g.D.Disk.past c.args.storage.now.disk) p (StandsWithinEither v (anchor_started v c.args.locks.now) before m)) (sym (c.count_pages.ensures.past tells))
    (stops_none _ _ (λ d rest. either_rest v _ before m d is.next (inl (c.is_stopped-stands.ensures.stands tells (behind_of before m) is d rest))))

pub returns-in-Err-clause-good : goal.returns-in-Err-clause-good
returns-in-Err-clause-good g c tells b stored chunk at e = c.in-Err.ensures.good tells b stored chunk at (other_answer c.in-Err.fault (Bad chunk at) e)

pub returns-in-Err-clause-bad : goal.returns-in-Err-clause-bad
returns-in-Err-clause-bad g c chunk at e = c.in-Err.ensures.bad chunk at (other_answer c.in-Err.fault (Bad chunk at) e)

-- ---- the pages are counted

pub mark_start-requires-clause-turns : goal.mark_start-requires-clause-turns
mark_start-requires-clause-turns g c =
    (c.requires.turns.0, read_turns c.requires.turns.0 c.args.storage.now.now c.count_pages.new.storage.now c.args.locks.now (c.in-Ok.ensures.still (λ e. absurd cc)) c.requires.turns.1)

pub returns-in-Ok-mark_start-clause-answer : goal.returns-in-Ok-mark_start-clause-answer
returns-in-Ok-mark_start-clause-answer g c tells opened m registers before told regular stored =
    let v = c.args.storage.now.now in
    let w = c.count_pages.new.storage.now in
    let u = c.mark_start.new.storage.now in
    let l = c.args.archives.now in
    let pages = c.in-Ok.pages in
    let read = c.in-Ok.ensures.still (λ e. absurd cc) in
    let b = behind_of before m in
    let counted : pages ≡ changed_of (pages_of v.anchor b) (config_of v) (cursor_begun v c.args.locks.now c.args.level c.args.spaces.now 0) (length (config_of v).spaces) =
    subst (λ (x : Cursor). pages ≡ changed_of (pages_of v.anchor b) (config_of v) x (length (config_of v).spaces)) c.cursor_of-cursor.ensures (c.in-Ok.ensures.value tells b stored) in
    let shows = c.in-Ok-mark_start.ensures.shows opened m registers (read_shows opened v w c.args.locks.now registers m read told.0) regular in
    let turn = begin_tells opened v c.args.locks.now registers l m c.args.archiver c.args.level c.args.spaces.now told c.requires.spaces c.requires.free u c.put.new.archives pages before c.requires.archiver.0 c.requires.archiver.1 c.requires.idle
    c.is_stopped-stands.ensures.ring.config.few regular c.in-Ok.ensures.limit counted shows (ap (λ (x : Installation). x.store.before) c.in-Ok-mark_start.ensures.step ∙ read.before)
    (c.put.ensures ∙ ap (λ (x : Cursor). with_running c.args.archiver (Some (begun (record x { left = pages }))) l) c.cursor_of-cursor.ensures) in
    (ap (λ (x : Cursor). Started x.number x.cut pages) c.cursor_of-cursor.ensures ∙ turn.0, turn.1)

pub returns-in-Ok-mark_start-clause-turns : goal.returns-in-Ok-mark_start-clause-turns
returns-in-Ok-mark_start-clause-turns g c opened turns never =
    c.in-Ok-mark_start.ensures.turns opened (read_turns opened c.args.storage.now.now c.count_pages.new.storage.now c.args.locks.now (c.in-Ok.ensures.still (λ e. absurd cc)) turns)

pub returns-in-Ok-mark_start-clause-up : goal.returns-in-Ok-mark_start-clause-up
returns-in-Ok-mark_start-clause-up g c up =
    let v = c.args.storage.now.now in
    let u = c.mark_start.new.storage.now in
    let l = c.args.archives.now in
    let k = c.args.archiver in
    let pages = c.in-Ok.pages in
    let read = c.in-Ok.ensures.still (λ e. absurd cc) in
    let states : u.anchor.states ≡ v.anchor.states = ap (λ (x : Installation). x.anchor.states) c.in-Ok-mark_start.ensures.step ∙ ap (λ (x : Installation). x.anchor.states) read.step in
    let put : c.put.new.archives ≡ with_running k (Some (begun (cursor_begun v c.args.locks.now c.args.level c.args.spaces.now pages))) l =
    c.put.ensures ∙ ap (λ (x : Cursor). with_running k (Some (begun (record x { left = pages }))) l) c.cursor_of-cursor.ensures in
    let before : AreAllUp v.anchor c.put.new.archives =
    subst (λ (x : List (Option Running)). AreAllUp v.anchor x) (sym put)
    (up_put v.anchor l k _
    (λ space has. begun_up v c.args.locks.now c.args.level pages c.args.spaces.now c.requires.spaces c.is_stopped-stands.ensures.ring.config.few (all_up v.anchor l c.args.level c.args.spaces.now c.requires.free) space has) up) in
    λ j space has. ap (λ (x : List ℕ). slice_index x space == 1) states ∙ before j space has

pub returns-in-Ok-mark_start-clause-stops : goal.returns-in-Ok-mark_start-clause-stops
returns-in-Ok-mark_start-clause-stops g c tells opened m registers before shows regular is =
    let v = c.args.storage.now.now in
    let w = c.count_pages.new.storage.now in
    let read = c.in-Ok.ensures.still (λ e. absurd cc) in
    subst (λ (p : Past). Stops p (g.D.Disk.past c.mark_start.new.storage.disk) (StandsWithinEither v (anchor_started v c.args.locks.now) before m)) (c.count_pages.ensures.past tells)
    (read_stops v w c.args.locks.now before m _ _ read
    (c.mark_start.ensures.stops tells opened m registers before (read_shows opened v w c.args.locks.now registers m read shows) regular (c.in-Ok.ensures.stored tells (behind_of before m) is (λ e. absurd cc))))

pub returns-in-Ok-mark_start-clause-stored : goal.returns-in-Ok-mark_start-clause-stored
returns-in-Ok-mark_start-clause-stored g c tells opened m registers before shows regular is never =
    let read = c.in-Ok.ensures.still (λ e. absurd cc) in
    c.in-Ok-mark_start.ensures.stored tells opened m registers before (read_shows opened c.args.storage.now.now c.count_pages.new.storage.now c.args.locks.now registers m read shows) regular (c.in-Ok.ensures.stored tells (behind_of before m) is (λ e. absurd cc))

-- ---- the checkpoint failed

pub returns-in-Err-mark_start-clause-answer : goal.returns-in-Err-mark_start-clause-answer
returns-in-Err-mark_start-clause-answer g c tells opened m registers before told regular stored =
    let failed : c.in-Err-mark_start.fault ≡ Failed = c.in-Err-mark_start.ensures.only in
    begin_fails opened c.args.storage.now.now c.args.locks.now registers c.args.archives.now m c.args.archiver c.args.level c.args.spaces.now told c.requires.spaces c.requires.free
    (Tells opened c.mark_start.new.storage.now c.args.locks.now registers c.args.archives.now) c.in-Err-mark_start.fault (λ e. absurd (let clash : Failed ≡ NoMemory = sym failed ∙ e in cc)) (λ e. absurd (let clash : Failed ≡ Stopped = sym failed ∙ e in cc))

pub returns-in-Err-mark_start-clause-stops : goal.returns-in-Err-mark_start-clause-stops
returns-in-Err-mark_start-clause-stops g c tells opened m registers before shows regular is =
    let v = c.args.storage.now.now in
    let w = c.count_pages.new.storage.now in
    let read = c.in-Ok.ensures.still (λ e. absurd cc) in
    subst (λ (p : Past). Stops p (g.D.Disk.past c.mark_start.new.storage.disk) (StandsWithinEither v (anchor_started v c.args.locks.now) before m)) (c.count_pages.ensures.past tells)
    (read_stops v w c.args.locks.now before m _ _ read
    (c.mark_start.ensures.stops tells opened m registers before (read_shows opened v w c.args.locks.now registers m read shows) regular (c.in-Ok.ensures.stored tells (behind_of before m) is (λ e. absurd cc))))

pub returns-in-Ok-mark_start-clause-goes : goal.returns-in-Ok-mark_start-clause-goes
returns-in-Ok-mark_start-clause-goes g c =
    let v = c.args.storage.now.now in
    let w = c.count_pages.new.storage.now in
    let read = goes_beside v w c.requires.going (c.in-Ok.ensures.still (λ e. absurd cc)).step in
    let step = c.in-Ok-mark_start.ensures.step in
    goes_both v w c.mark_start.new.storage.now read (record {
      going = ap (λ (x : Installation). x.stopped) step ∙ read.going;
      config = ap (λ (x : Installation). x.ring.config) step;
      states = ap (λ (x : Installation). x.anchor.states) step;
    })
