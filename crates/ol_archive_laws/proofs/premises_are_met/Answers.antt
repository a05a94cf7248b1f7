use Rattle.ol_archive_laws.proofs.ExampleLaws.{example_may, example_taken}
use Rattle.ol_archive_laws.proofs.premises_are_met.Goals as goal

pub returns-clause-may : goal.returns-clause-may
returns-clause-may c = example_may

pub returns-clause-taken : goal.returns-clause-taken
returns-clause-taken c = example_taken
