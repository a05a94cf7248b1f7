use Rattle.std.specs.Prelude.{Option}
use Rattle.std.proofs.Common.{ap, arith, inl, subst, sym}
use Rattle.ol_ports.proofs.StopLaws.{stops_none, stops_weaker}
use Rattle.ol_ports.specs.Disk.{Past}
use Rattle.ol_ports.specs.Stops.{Stops}
use Rattle.ol_running.specs.declared.running.Running.{Running}
use Rattle.ol_engine.specs.Parts.{behind_of}
use Rattle.ol_engine.specs.Turns.{StandsWithinEither}
use Rattle.ol_archive_turns.specs.Ending.{anchor_ended, known_at}
use Rattle.ol_archive_turns.proofs.Ends.{either_rest, end_tells, known_goes, known_turns}
use Rattle.ol_archive_turns.proofs.Shown.{store_turns}
use Rattle.ol_engine.proofs.Going.{goes_both, goes_same, goes_store}
use Rattle.ol_archive_turns.proofs.archived.end_whole.Goals as goal

pub returns-then-running-gt0-clause-stops : goal.returns-then-running-gt0-clause-stops
returns-then-running-gt0-clause-stops g c tells m before is =
    stops_none _ _ (λ d rest. either_rest c.args.storage.now.now _ before m d is.next (inl (c.is_stopped-stands.ensures.stands tells (behind_of before m) is d rest)))

pub returns-in-Ok-clause-answer : goal.returns-in-Ok-clause-answer
returns-in-Ok-clause-answer g c opened seats registers m tells =
    end_tells opened c.args.storage.now.now c.make_known.new.storage.now c.put_away.new.storage.now seats registers c.args.archives.now c.put_away.new.archives m c.args.archiver c.args.running c.requires.archiver.0 c.requires.archiver.1 c.is_stopped-stands.ensures.ring.config.few tells
    c.requires.held c.requires.whole (omega (arith, c.if-running-gt0.false)) c.in-Ok.ensures.step c.put_away.ensures.step c.put_away.ensures.archives

pub returns-in-Ok-clause-turns : goal.returns-in-Ok-clause-turns
returns-in-Ok-clause-turns g c opened seats is =
    store_turns opened c.make_known.new.storage.now c.put_away.new.storage.now seats _ c.put_away.ensures.step (known_turns opened c.args.storage.now.now c.make_known.new.storage.now seats c.args.running.cursor c.in-Ok.ensures.step is)

pub returns-in-Ok-clause-stops : goal.returns-in-Ok-clause-stops
returns-in-Ok-clause-stops g c tells m before is =
    let v = c.args.storage.now.now in
    let r = c.args.running in
    subst (λ (o : Option Running). Stops (g.D.Disk.past c.args.storage.now.disk) (g.D.Disk.past c.put_away.new.storage.disk) (StandsWithinEither v (anchor_ended v o) before m)) (sym c.requires.held)
    (subst (λ (p : Past). Stops (g.D.Disk.past c.args.storage.now.disk) p (StandsWithinEither v (known_at v r.cursor r.cursor.level).anchor before m)) (sym (ap g.D.Disk.past c.put_away.ensures.disk))
    (stops_weaker _ _ _ _ (λ d s. either_rest v (known_at v r.cursor r.cursor.level).anchor before m d is.next s) (c.make_known.ensures.stops tells (behind_of before m) is)))

pub returns-in-Err-clause-stops : goal.returns-in-Err-clause-stops
returns-in-Err-clause-stops g c tells m before is =
    let v = c.args.storage.now.now in
    let r = c.args.running in
    subst (λ (o : Option Running). Stops (g.D.Disk.past c.args.storage.now.disk) (g.D.Disk.past c.make_known.new.storage.disk) (StandsWithinEither v (anchor_ended v o) before m)) (sym c.requires.held)
    (stops_weaker _ _ _ _ (λ d s. either_rest v (known_at v r.cursor r.cursor.level).anchor before m d is.next s) (c.make_known.ensures.stops tells (behind_of before m) is))

pub returns-then-running-gt0-clause-goes : goal.returns-then-running-gt0-clause-goes
returns-then-running-gt0-clause-goes g c = goes_same c.args.storage.now.now c.requires.going

pub returns-in-Ok-clause-goes : goal.returns-in-Ok-clause-goes
returns-in-Ok-clause-goes g c =
    let v = c.args.storage.now.now in
    let w = c.make_known.new.storage.now in
    let known = known_goes v w c.args.running.cursor c.args.running.cursor.level c.requires.going c.in-Ok.ensures.step in
    goes_both v w c.put_away.new.storage.now known (goes_store w c.put_away.new.storage.now _ known.going c.put_away.ensures.step)
