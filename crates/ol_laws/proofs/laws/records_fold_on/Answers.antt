use Rattle.std.specs.Prelude.{None, []}
use Rattle.std.proofs.Common.{arith, sym, ◌∙◌}
use Rattle.std.proofs.lemmas.List.Sums.{fold-append}
use Rattle.ol_values.specs.Pages.{blank}
use Rattle.ol_rules.specs.Journal.{row_after}
use Rattle.ol_rules.specs.Sound.{start}
use Rattle.ol_rules.specs.Transactions.{txns_after}
use Rattle.ol_laws.proofs.PageLaws.{page_from-append}
use Rattle.ol_laws.proofs.SoundLaws.{last_after, rows_of, txns_of}
use Rattle.ol_laws.proofs.laws.records_fold_on.Goals as goal

pub returns-clause-rows : goal.returns-clause-rows
returns-clause-rows c = λ journal more place. fold-append (row_after place) None journal more

pub returns-clause-pages : goal.returns-clause-pages
returns-clause-pages c = λ journal more space page. sym (page_from-append blank 1 journal more space page)

pub returns-clause-transactions : goal.returns-clause-transactions
returns-clause-transactions c = λ journal more. fold-append txns_after [] journal more

pub returns-clause-state_rows : goal.returns-clause-state_rows
returns-clause-state_rows c = λ journal place. rows_of start journal place

pub returns-clause-state_transactions : goal.returns-clause-state_transactions
returns-clause-state_transactions c = λ journal. txns_of start journal

pub returns-clause-state_last : goal.returns-clause-state_last
returns-clause-state_last c = λ journal. last_after start journal ∙ omega arith
