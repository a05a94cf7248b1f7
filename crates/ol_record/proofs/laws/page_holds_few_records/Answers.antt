use Rattle.std.proofs.Common.{arith}
use Rattle.ol_record.proofs.Counts.{few_touch}
use Rattle.ol_record.proofs.Pages.{filling_from}
use Rattle.ol_record.proofs.Several.{few_in}
use Rattle.ol_record.proofs.laws.page_holds_few_records.Goals as goal

pub returns-clause-touching : goal.returns-clause-touching
returns-clause-touching c = λ p is. few_touch p (filling_from p is)

pub returns-clause-touching_filling : goal.returns-clause-touching_filling
returns-clause-touching_filling c = λ p is. few_touch p is

pub returns-clause-all : goal.returns-clause-all
returns-clause-all c = λ p is. omega (arith, few_in p.records, is.room)
