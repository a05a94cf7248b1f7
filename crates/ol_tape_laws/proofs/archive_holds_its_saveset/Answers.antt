use Rattle.std.proofs.Common.{refl}
use Rattle.ol_model.specs.Machine.{config_of}
use Rattle.ol_tape_laws.proofs.SavesetLaws.{saveset_is}
use Rattle.ol_tape_laws.proofs.archive_holds_its_saveset.Goals as goal

pub returns : goal.returns
returns c = λ up journal m a is on from. saveset_is (config_of m) up journal m a is refl on from
