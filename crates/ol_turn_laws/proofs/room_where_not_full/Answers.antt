use Rattle.std.proofs.Common.{inl, inr}
use Rattle.std.proofs.lemmas.Bool.{ltb-false, ltb-true, or_cases, or_parts}
use Rattle.ol_turn_laws.proofs.room_where_not_full.Goals as goal

pub returns-clause-log : goal.returns-clause-log
returns-clause-log c = λ m not_full. ltb-false _ _ not_full

pub returns-clause-full_log : goal.returns-clause-full_log
returns-clause-full_log c = λ m full. ltb-true _ _ full

pub returns-clause-journal : goal.returns-clause-journal
returns-clause-journal c = λ m not_full. let parts = or_parts _ _ not_full in (ltb-false _ _ parts.0, ltb-false _ _ parts.1)

pub returns-clause-full_journal : goal.returns-clause-full_journal
returns-clause-full_journal c = λ m full. elim (or_cases _ _ full) [ inl h ↦ inl (ltb-true _ _ h) | inr h ↦ inr (ltb-true _ _ h) ]
