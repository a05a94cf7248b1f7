use Rattle.std.specs.Prelude.{[]}
use Rattle.std.proofs.lemmas.List.Sums.{fold-append}
use Rattle.ol_rules.specs.Transactions.{open_at, txns_after}
use Rattle.ol_laws.proofs.BackLaws.{back_rest, owed_is}
use Rattle.ol_laws.proofs.SoundLaws.{distinct_open, sound_with_back}
use Rattle.ol_laws.proofs.laws.rest_of_rollback_is_owed.Goals as goal

pub returns-clause-rest : goal.returns-clause-rest
returns-clause-rest c = λ k journal first rest s e. rw (fold-append txns_after [] journal first) (back_rest first rest (open_at journal) (distinct_open k journal s) e)

pub returns-clause-sound : goal.returns-clause-sound
returns-clause-sound c = λ k journal first rest s e. sound_with_back k journal first rest s e

pub returns-clause-owed : goal.returns-clause-owed
returns-clause-owed c = λ txns. owed_is txns
