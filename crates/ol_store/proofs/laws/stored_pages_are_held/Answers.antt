use Rattle.ol_store.proofs.ApartLaws.{framed_holds}
use Rattle.ol_store.proofs.HoldLaws.{stored_holds}
use Rattle.ol_store.proofs.laws.stored_pages_are_held.Goals as goal

pub returns-clause-rest : goal.returns-clause-rest
returns-clause-rest c = λ past s v is h d rest. stored_holds s.config is.config s.pool s.log s.written v is.area past h d rest

pub returns-clause-framed : goal.returns-clause-framed
returns-clause-framed c = λ past s v is_part is apart h d framed. framed_holds s.config is.config is_part apart s.pool s.log s.written v is.area past h d framed
