use Rattle.ol_store.proofs.ApartLaws.{stored_apart}
use Rattle.ol_store.proofs.laws.other_parts_leave_pages.Goals as goal

pub returns : goal.returns
returns c = λ old new s v is_part is apart frame reads h. stored_apart s.config is.config is_part apart s.pool s.log s.written v is.area old new frame reads h
