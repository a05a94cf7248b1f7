use Rattle.std.proofs.Common.{ap, inl, subst, sym, ◌∙◌}
use Rattle.ol_values.specs.declared.event.Reply.TheVariants.{BeforeFull}
use Rattle.ol_ports.proofs.StopLaws.{stops_none}
use Rattle.ol_ports.specs.Disk.{Past}
use Rattle.ol_ports.specs.Stops.{Stops}
use Rattle.ol_running.specs.Running.{running_of}
use Rattle.ol_running.proofs.TurnLaws.{end_broken}
use Rattle.ol_engine.specs.Parts.{behind_of}
use Rattle.ol_engine.specs.Turns.{StandsWithinEither}
use Rattle.ol_archive_turns.specs.Ending.{anchor_ended}
use Rattle.ol_archive_turns.specs.Turns.{end_turn}
use Rattle.ol_archive_turns.proofs.Ends.{broken_shows, either_rest}
use Rattle.ol_archive_turns.proofs.Shown.{away_tells, store_turns}
use Rattle.ol_engine.proofs.Going.{goes_same, goes_store}
use Rattle.ol_archive_turns.proofs.archived.end.Goals as goal

pub returns-in-Some-broken-clause-answer : goal.returns-in-Some-broken-clause-answer
returns-in-Some-broken-clause-answer g c opened seats registers m tells =
    let v = c.args.storage.now.now in
    let l = c.args.archives.now in
    let k = c.args.archiver in
    let r = c.in-Some.running in
    away_tells opened v c.put_away.new.storage.now seats registers l c.put_away.new.archives k r (BeforeFull c.in-Some-broken.entry) (end_turn m k) c.put_away.ensures.step c.put_away.ensures.archives
    (broken_shows opened v seats registers l m k r c.in-Some-broken.entry c.requires.archiver.0 tells (sym c.held.ensures ∙ c.in-Some.is) c.in-Some-broken.is)
    (end_broken l v.store.before m k r c.in-Some-broken.entry c.requires.archiver.0 c.requires.archiver.1 tells.1 (sym c.held.ensures ∙ c.in-Some.is) c.in-Some-broken.is)

pub returns-in-Some-broken-clause-turns : goal.returns-in-Some-broken-clause-turns
returns-in-Some-broken-clause-turns g c opened seats is = store_turns opened c.args.storage.now.now c.put_away.new.storage.now seats _ c.put_away.ensures.step is

pub returns-in-Some-broken-clause-stops : goal.returns-in-Some-broken-clause-stops
returns-in-Some-broken-clause-stops g c tells m before is =
    let v = c.args.storage.now.now in
    subst (λ (p : Past). Stops (g.D.Disk.past c.args.storage.now.disk) p (StandsWithinEither v (anchor_ended v (running_of c.args.archives.now c.args.archiver)) before m)) (sym (ap g.D.Disk.past c.put_away.ensures.disk))
    (stops_none _ _ (λ d rest. either_rest v _ before m d is.next (inl (c.is_stopped-stands.ensures.stands tells (behind_of before m) is d rest))))

pub returns-in-None-clause-stops : goal.returns-in-None-clause-stops
returns-in-None-clause-stops g c tells m before is =
    stops_none _ _ (λ d rest. either_rest c.args.storage.now.now _ before m d is.next (inl (c.is_stopped-stands.ensures.stands tells (behind_of before m) is d rest)))

pub returns-in-Some-broken-clause-goes : goal.returns-in-Some-broken-clause-goes
returns-in-Some-broken-clause-goes g c = goes_store c.args.storage.now.now c.put_away.new.storage.now _ c.requires.going c.put_away.ensures.step

pub returns-in-None-clause-goes : goal.returns-in-None-clause-goes
returns-in-None-clause-goes g c = goes_same c.args.storage.now.now c.requires.going
