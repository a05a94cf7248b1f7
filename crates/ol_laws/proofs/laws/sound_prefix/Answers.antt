use Rattle.ol_rules.specs.Sound.{start}
use Rattle.ol_laws.proofs.SoundLaws.{sound_join, sound_split}
use Rattle.ol_laws.proofs.laws.sound_prefix.Goals as goal

pub returns-clause-first : goal.returns-clause-first
returns-clause-first c = λ k journal more s. (sound_split k start journal more s).0

pub returns-clause-rest : goal.returns-clause-rest
returns-clause-rest c = λ k journal more s. (sound_split k start journal more s).1

pub returns-clause-whole : goal.returns-clause-whole
returns-clause-whole c = λ k journal more s t. sound_join k start journal more s t
