use Rattle.std.proofs.Common.{arith}
use Rattle.ol_core.proofs.Kept.{few_rows}
use Rattle.ol_core.proofs.Turns.{takes_end, takes_left}
use Rattle.ol_core.proofs.core_turns.Core.archive_end.Goals as goal

pub count-requires-clause-few : goal.count-requires-clause-few
count-requires-clause-few c = few_rows c.self.invariant

pub returns-then-count-gt0-clause-ok : goal.returns-then-count-gt0-clause-ok
returns-then-count-gt0-clause-ok c =
    takes_left c.self.inside.registers c.in-Some.archive _ c.in-Some.is c.self.invariant c.self.view_is c.requires.actor (omega (arith, c.count.ensures.value)) (omega arith) c.in_ok-answer-2.ensures.ok

pub returns-clause-ok : goal.returns-clause-ok
returns-clause-ok c =
    takes_end c.self.inside.registers c.in-Some.archive c.in-Some.is c.self.invariant c.self.view_is c.requires.actor (omega (arith, c.count.ensures.value)) c.in_ok-answer-3.ensures.ok
