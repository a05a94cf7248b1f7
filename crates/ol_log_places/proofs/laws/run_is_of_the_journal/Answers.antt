use Rattle.ol_values.specs.Config.{log_pages}
use Rattle.ol_log_places.proofs.Journals.{logged_run}
use Rattle.ol_log_places.proofs.Runs.{run_found, run_is, run_or_none, value_run}
use Rattle.ol_log_places.proofs.laws.run_is_of_the_journal.Goals as goal

pub returns-clause-run : goal.returns-clause-run
returns-clause-run a c r j need upto lt log = logged_run c r j need upto lt log

pub returns-clause-one : goal.returns-clause-one
returns-clause-one g c r run a b orderly is = run_found c r (log_pages c) orderly run a b is

pub returns-clause-value : goal.returns-clause-value
returns-clause-value a d = value_run d

pub returns-clause-found : goal.returns-clause-found
returns-clause-found a c r orderly = run_or_none c r (log_pages c) orderly

pub returns-clause-covered : goal.returns-clause-covered
returns-clause-covered a c r need upto lt orderly covers = run_is c r (log_pages c) orderly need upto lt covers
