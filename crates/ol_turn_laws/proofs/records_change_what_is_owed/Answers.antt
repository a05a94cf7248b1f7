use Rattle.ol_turn_laws.proofs.OwedLaws.{after_begin, after_change, after_commit, after_rolled, after_undo, sound_begin, sound_change, sound_commit, sound_rolled, sound_undo}
use Rattle.ol_turn_laws.proofs.records_change_what_is_owed.Goals as goal

pub returns-clause-begin : goal.returns-clause-begin
returns-clause-begin c = λ txns n. after_begin txns n

pub returns-clause-change : goal.returns-clause-change
returns-clause-change c = λ txns n rid before after t order is. after_change txns n rid before after t order is

pub returns-clause-undo : goal.returns-clause-undo
returns-clause-undo c = λ txns n rid value t order is some. after_undo txns n rid value t order is some

pub returns-clause-commit : goal.returns-clause-commit
returns-clause-commit c = λ txns n t order is. after_commit txns n t order is

pub returns-clause-rolled : goal.returns-clause-rolled
returns-clause-rolled c = λ txns n t order is none. after_rolled txns n t order is none

pub returns-clause-sound_begin : goal.returns-clause-sound_begin
returns-clause-sound_begin k = λ c journal n s. sound_begin c journal n s

pub returns-clause-sound_change : goal.returns-clause-sound_change
returns-clause-sound_change k = λ c journal n rid before after s. sound_change c journal n rid before after s

pub returns-clause-sound_undo : goal.returns-clause-sound_undo
returns-clause-sound_undo k = λ c journal n rid value s. sound_undo c journal n rid value s

pub returns-clause-sound_commit : goal.returns-clause-sound_commit
returns-clause-sound_commit k = λ c journal n t s is. sound_commit c journal n t s is

pub returns-clause-sound_rolled : goal.returns-clause-sound_rolled
returns-clause-sound_rolled k = λ c journal n s. sound_rolled c journal n s
