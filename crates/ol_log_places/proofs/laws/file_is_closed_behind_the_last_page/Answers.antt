use Rattle.ol_log_places.proofs.Files.{closed_behind}
use Rattle.ol_log_places.proofs.laws.file_is_closed_behind_the_last_page.Goals as goal

pub returns : goal.returns
returns a c r j need upto p log stand s end place below in_it behind = closed_behind c r j need upto p log stand s end place below in_it behind
