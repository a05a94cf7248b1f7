use Rattle.std.proofs.Common.{arith}
use Rattle.ol_turn_laws.proofs.RoomLaws.{value_fits}
use Rattle.ol_turn_laws.proofs.records_fit_a_page.Goals as goal

pub returns-clause-begin : goal.returns-clause-begin
returns-clause-begin k = λ n. omega arith

pub returns-clause-change : goal.returns-clause-change
returns-clause-change k = λ n rid before after b a. omega (arith, value_fits before b, value_fits after a)

pub returns-clause-undo : goal.returns-clause-undo
returns-clause-undo k = λ n rid value v. omega (arith, value_fits value v)

pub returns-clause-commit : goal.returns-clause-commit
returns-clause-commit k = λ n. omega arith

pub returns-clause-rolled : goal.returns-clause-rolled
returns-clause-rolled k = λ n. omega arith
