use Rattle.std.proofs.Common.{sym, ◌∙◌}
use Rattle.ol_values.specs.declared.event.Reply.TheVariants.{BeforeFull}
use Rattle.ol_model.specs.Machine.{archive_of}
use Rattle.ol_running.proofs.TurnLaws.{take_broken}
use Rattle.ol_archive_turns.specs.Turns.{take_turn}
use Rattle.ol_archive_turns.proofs.Shown.{away_tells, take_shows}
use Rattle.ol_archive_turns.proofs.take.turn.Goals as goal

pub returns-in-Some-broken-clause-answer : goal.returns-in-Some-broken-clause-answer
returns-in-Some-broken-clause-answer g c t opened seats registers m before tells up stored =
    let v = c.args.storage.now.now in
    let l = c.args.archives.now in
    let k = c.args.archiver in
    let r = c.in-Some.running in
    away_tells opened v c.put_away.new.storage.now seats registers l c.put_away.new.archives k r (BeforeFull c.in-Some-broken.entry) (take_turn m k) c.put_away.ensures.step c.put_away.ensures.archives
    (take_shows opened v seats registers m tells.0 k (archive_of m k))
    (take_broken l v.store.before m k r c.in-Some-broken.entry c.requires.archiver.0 c.requires.archiver.1 tells.1 (sym c.held.ensures ∙ c.in-Some.is) c.in-Some-broken.is)
