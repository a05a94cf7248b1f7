use Rattle.ol_turn_laws.proofs.ValueLaws.{sound_ascending, sound_pending, sound_records, sound_rows}
use Rattle.ol_turn_laws.proofs.sound_journals_hold_short_rows.Goals as goal

pub returns-clause-rows : goal.returns-clause-rows
returns-clause-rows k = λ c journal rid s. sound_rows c journal rid s

pub returns-clause-pending : goal.returns-clause-pending
returns-clause-pending k = λ c journal s. sound_pending c journal s

pub returns-clause-ascending : goal.returns-clause-ascending
returns-clause-ascending k = λ c journal s. sound_ascending c journal s

pub returns-clause-records : goal.returns-clause-records
returns-clause-records k = λ c journal s. sound_records c journal s
