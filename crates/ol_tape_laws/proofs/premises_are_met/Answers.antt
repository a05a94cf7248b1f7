use Rattle.ol_tape_laws.proofs.ExampleLaws.{example_begins, example_runs, example_steps}
use Rattle.ol_tape_laws.proofs.premises_are_met.Goals as goal

pub returns-clause-begins : goal.returns-clause-begins
returns-clause-begins c = example_begins

pub returns-clause-steps : goal.returns-clause-steps
returns-clause-steps c = example_steps

pub returns-clause-runs : goal.returns-clause-runs
returns-clause-runs c = example_runs
