use Rattle.std.specs.Option.{unwrap_or}
use Rattle.std.proofs.Common.{Option, ap, ℕ, ◌+◌, ◌∙◌}
use Rattle.ol_txn.proofs.TellingLaws.{first_low, told_closed, told_low, told_owed}
use Rattle.ol_txn.proofs.TellingSeats.{open_ascending, told_free, told_open}
use Rattle.ol_txn.proofs.laws.table_answers_for_transactions.Goals as goal

pub returns-clause-order : goal.returns-clause-order
returns-clause-order c = λ k journal s. open_ascending k journal s

pub returns-clause-owed : goal.returns-clause-owed
returns-clause-owed c = λ txns table told. told_owed txns table told

pub returns-clause-closed : goal.returns-clause-closed
returns-clause-closed c = λ txns table told nothing. told_closed txns table told nothing

pub returns-clause-first : goal.returns-clause-first
returns-clause-first c = λ txns table order told. told_low txns table order told

pub returns-clause-low : goal.returns-clause-low
returns-clause-low c = λ txns table last order told. ap (λ (o : Option ℕ). unwrap_or o (last + 1)) (told_low txns table order told) ∙ first_low txns last

pub returns-clause-holds : goal.returns-clause-holds
returns-clause-holds c = λ txns seats k h order e told. told_open txns seats k h order e told

pub returns-clause-free : goal.returns-clause-free
returns-clause-free c = λ b seats k n h rid long e is none told. told_free b seats k n h rid long e is none told
