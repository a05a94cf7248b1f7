use Rattle.std.proofs.Common.{refl}
use Rattle.ol_log_places.proofs.Journals.{either_run}
use Rattle.ol_log_places.proofs.laws.next_page_is_put_or_not.Goals as goal

pub returns : goal.returns
returns a c r place p need d within shut some orderly covers reach may = either_run c r place p within shut some orderly need p.first covers refl d reach may
