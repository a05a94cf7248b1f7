use Rattle.ol_turn_laws.proofs.ApartLaws.{start_free}
use Rattle.ol_turn_laws.proofs.archives_start_apart.Goals as goal

pub returns : goal.returns
returns k = λ m j level names b within none is. start_free m j level names b within none is
