use Rattle.std.proofs.Common.{refl}
use Rattle.ol_archive_turns.proofs.known.lasting_with.Goals as goal

pub returns : goal.returns
returns c = refl
