use Rattle.ol_physlog.proofs.ReadLaws.{read_failed}
use Rattle.ol_physlog.proofs.reading.take_image.Goals as goal

pub returns-in-Err-clause-cause : goal.returns-in-Err-clause-cause
returns-in-Err-clause-cause g c = read_failed c.args.table.now c.area_of-area.result c.area_of-area.ensures.value _ _ c.in-Err.field-0 c.in-Err.ensures.cause
