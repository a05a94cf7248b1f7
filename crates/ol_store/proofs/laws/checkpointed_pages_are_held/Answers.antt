use Rattle.ol_store.proofs.ApartLaws.{later_holds}
use Rattle.ol_store.proofs.laws.checkpointed_pages_are_held.Goals as goal

pub returns : goal.returns
returns c = λ past s v generation is_part is apart h clean unmarked newer small d framed. later_holds s.config is.config is_part apart s.pool s.log s.written v is.area past generation h clean unmarked newer small d framed
