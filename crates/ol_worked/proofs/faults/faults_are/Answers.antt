use Rattle.ol_worked.proofs.FaultsPlayed.{commit_mended, commit_settles, commit_steps, settled_after, settled_before, tape_carries, tape_steps}
use Rattle.ol_worked.proofs.faults.faults_are.Goals as goal

pub returns-clause-commit_steps : goal.returns-clause-commit_steps
returns-clause-commit_steps c = commit_steps

pub returns-clause-commit_mended : goal.returns-clause-commit_mended
returns-clause-commit_mended c = commit_mended

pub returns-clause-commit_settles : goal.returns-clause-commit_settles
returns-clause-commit_settles c = commit_settles

pub returns-clause-tape_steps : goal.returns-clause-tape_steps
returns-clause-tape_steps c = tape_steps

pub returns-clause-tape_carries : goal.returns-clause-tape_carries
returns-clause-tape_carries c = tape_carries

pub returns-clause-settled_before : goal.returns-clause-settled_before
returns-clause-settled_before c = settled_before

pub returns-clause-settled_after : goal.returns-clause-settled_after
returns-clause-settled_after c = settled_after
