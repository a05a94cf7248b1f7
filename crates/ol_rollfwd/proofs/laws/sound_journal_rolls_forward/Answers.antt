use Rattle.std.proofs.Common.{ap, List, ◌++◌, ◌∙◌}
use Rattle.ol_rules.specs.Transactions.{open_at}
use Rattle.ol_rollfwd.specs.Losers.{Loser, owed_of}
use Rattle.ol_rollfwd.proofs.TxnSteps.{owed_same}
use Rattle.ol_rollfwd.proofs.JournalLaws.{all_in_place, losers_are, pages_are}
use Rattle.ol_rollfwd.proofs.laws.sound_journal_rolls_forward.Goals as goal

pub returns-clause-place : goal.returns-clause-place
returns-clause-place k = λ c past read cuts pages is. all_in_place c past read cuts pages is

pub returns-clause-losers : goal.returns-clause-losers
returns-clause-losers k = λ c past read cuts pages is. losers_are c past read cuts pages is

pub returns-clause-pages : goal.returns-clause-pages
returns-clause-pages k = λ c past read cuts pages is space page cut has at. pages_are c past read cuts pages is space page cut has at

pub returns-clause-owed : goal.returns-clause-owed
returns-clause-owed k = λ c past read cuts pages is. ap (λ (l : List Loser). owed_of l) (losers_are c past read cuts pages is) ∙ owed_same (open_at (past ++ read))
