use Rattle.ol_turn_laws.proofs.OpenedLaws.{sound_found}
use Rattle.ol_turn_laws.proofs.sound_journals_are_found_well.Goals as goal

pub returns : goal.returns
returns k = λ c up journal f is sound pages. sound_found c up journal f is sound pages
