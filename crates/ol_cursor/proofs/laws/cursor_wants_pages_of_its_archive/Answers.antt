use Rattle.ol_cursor.proofs.WantLaws.{cut_within, image_is, left_is, wants_is}
use Rattle.ol_cursor.proofs.laws.cursor_wants_pages_of_its_archive.Goals as goal

pub returns-clause-stamp : goal.returns-clause-stamp
returns-clause-stamp k = λ m a space page behind. cut_within m a space page behind

pub returns-clause-pages : goal.returns-clause-pages
returns-clause-pages k = λ c m a space page of_it behind. wants_is c m a space page of_it behind

pub returns-clause-left : goal.returns-clause-left
returns-clause-left k = λ c m a space page f behind. left_is c m a space page f behind

pub returns-clause-now : goal.returns-clause-now
returns-clause-now k = λ c m a space page f behind whole within. image_is c m a space page f behind whole within
