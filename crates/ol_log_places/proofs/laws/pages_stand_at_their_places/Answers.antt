use Rattle.ol_values.specs.Config.{log_pages}
use Rattle.ol_log_places.proofs.Files.{file_there, places_stand, there_file}
use Rattle.ol_log_places.proofs.Logs.{logs_same}
use Rattle.ol_log_places.proofs.PlaceLaws.{page_there}
use Rattle.ol_log_places.proofs.laws.pages_stand_at_their_places.Goals as goal

pub returns-clause-place : goal.returns-clause-place
returns-clause-place a c d = places_stand c d

pub returns-clause-file : goal.returns-clause-file
returns-clause-file a c r stand place file p lt is = let at = stand place p lt is in (λ in_it. there_file c place file p at.0 at.1 in_it, λ same. file_there c place file p at.0 at.1 same)

pub returns-clause-same : goal.returns-clause-same
returns-clause-same a c r s same = logs_same c r s (log_pages c) same

pub returns-clause-bytes : goal.returns-clause-bytes
returns-clause-bytes a c d place p is = page_there c d place p is
