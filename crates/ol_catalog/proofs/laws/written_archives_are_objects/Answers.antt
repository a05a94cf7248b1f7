use Rattle.ol_catalog.proofs.WrittenLaws.{object_alone, object_whole}
use Rattle.ol_catalog.proofs.laws.written_archives_are_objects.Goals as goal

pub returns-clause-object : goal.returns-clause-object
returns-clause-object c = λ tapes drive x is on. object_alone tapes drive x is on

pub returns-clause-whole : goal.returns-clause-whole
returns-clause-whole c = λ tapes drive x is on. object_whole tapes drive x is on
