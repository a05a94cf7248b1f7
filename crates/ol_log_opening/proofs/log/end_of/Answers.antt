use Rattle.std.proofs.Common.{arith}
use Rattle.ol_log_opening.proofs.Ends.{end_of_last}
use Rattle.ol_log_opening.proofs.log.end_of.Goals as goal

pub returns-clause-value : goal.returns-clause-value
returns-clause-value c = let last = end_of_last c.args.run.now c.requires.some in omega (arith, last, c.from.ensures)
