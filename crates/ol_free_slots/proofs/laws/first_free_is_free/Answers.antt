use Rattle.ol_free_slots.proofs.FirstFree.{first_alone, first_empty, first_place, first_unlocked}
use Rattle.ol_free_slots.proofs.laws.first_free_is_free.Goals as goal

pub returns-clause-place : goal.returns-clause-place
returns-clause-place c = λ m space rid there e. first_place m space rid there e

pub returns-clause-empty : goal.returns-clause-empty
returns-clause-empty c = λ m space rid e. first_empty m space rid e

pub returns-clause-unlocked : goal.returns-clause-unlocked
returns-clause-unlocked c = λ m space rid e. first_unlocked m space rid e

pub returns-clause-alone : goal.returns-clause-alone
returns-clause-alone c = λ m space k own rid e. first_alone m space k own rid e
