use Rattle.std.proofs.Common.{sym, ◌∙◌}
use Rattle.ol_model.specs.ArchiveTurns.{given_up}
use Rattle.ol_model.specs.Machine.{archive_of}
use Rattle.ol_running.proofs.TurnLaws.{cancel_shown}
use Rattle.ol_archive_turns.specs.Turns.{cancel_turn}
use Rattle.ol_archive_turns.proofs.Shown.{away_tells, cancel_shows}
use Rattle.ol_archive_turns.proofs.put_away.cancel.Goals as goal

pub returns-in-Some-clause-answer : goal.returns-in-Some-clause-answer
returns-in-Some-clause-answer g c opened seats registers m tells =
    let v = c.args.storage.now.now in
    let l = c.args.archives.now in
    let k = c.args.archiver in
    let r = c.in-Some.running in
    let told = away_tells opened v c.put_away.new.storage.now seats registers l c.put_away.new.archives k r (given_up k c.args.count r.cursor.number c.args.why) (cancel_turn c.args.count m k c.args.why) c.put_away.ensures.step c.put_away.ensures.archives
    (cancel_shows opened v seats registers m tells.0 c.args.count k c.args.why (archive_of m k))
    (cancel_shown l v.store.before m k r c.args.count c.args.why c.requires.archiver.0 c.requires.archiver.1 tells.1 (sym c.held.ensures ∙ c.in-Some.is)) in
    (◌∙◌ {b = given_up k c.args.count r.cursor.number c.args.why} c.given_up.ensures told.0, told.1)
