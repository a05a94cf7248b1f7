use Rattle.ol_stand_laws.proofs.SoundBehind.{sound_behind_journal, sound_behind_start}
use Rattle.ol_stand_laws.proofs.sound_behind_its_start.Goals as goal

pub returns-clause-journal : goal.returns-clause-journal
returns-clause-journal k = λ c up journal records s is sound changes behind. sound_behind_journal c up journal records s is sound changes behind

pub returns-clause-start : goal.returns-clause-start
returns-clause-start k = λ c up journal records s is changes sound. sound_behind_start c up journal records s is changes sound
