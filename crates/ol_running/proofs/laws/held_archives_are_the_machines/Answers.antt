use Rattle.ol_running.proofs.TurnLaws.{archive_there, no_archive}
use Rattle.ol_running.proofs.laws.held_archives_are_the_machines.Goals as goal

pub returns-clause-some : goal.returns-clause-some
returns-clause-some q = λ l b m k r from s is. archive_there l b m k r from s is

pub returns-clause-none : goal.returns-clause-none
returns-clause-none q = λ l b m k from s is. no_archive l b m k from s is
