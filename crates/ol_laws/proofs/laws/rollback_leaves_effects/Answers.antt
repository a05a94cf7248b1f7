use Rattle.std.specs.Prelude.{[], refl}
use Rattle.std.proofs.Common.{append-nil, ◌∙◌}
use Rattle.std.proofs.lemmas.List.Sums.{fold-append}
use Rattle.ol_rules.specs.Transactions.{back, open_at, txns_after}
use Rattle.ol_laws.proofs.BackLaws.{all_back}
use Rattle.ol_laws.proofs.EffectLaws.{rows_are_effects}
use Rattle.ol_laws.proofs.SoundLaws.{distinct_open, sound_with_back}
use Rattle.ol_laws.proofs.laws.rollback_leaves_effects.Goals as goal

pub returns-clause-sound : goal.returns-clause-sound
returns-clause-sound c = λ k journal s. sound_with_back k journal (back (open_at journal)) [] s (rw (append-nil) refl)

pub returns-clause-effects : goal.returns-clause-effects
returns-clause-effects c = λ k journal s place. rows_are_effects k journal s place

pub returns-clause-closed : goal.returns-clause-closed
returns-clause-closed c = λ k journal s. fold-append txns_after [] journal (back (open_at journal)) ∙ all_back (open_at journal) (distinct_open k journal s)
