use Rattle.ol_archive_laws.proofs.ArchivedLaws.{journal_is_archived}
use Rattle.ol_archive_laws.proofs.savesets_are_archives.Goals as goal

pub returns : goal.returns
returns c = λ config journal x is sound of. journal_is_archived config journal x is sound of
