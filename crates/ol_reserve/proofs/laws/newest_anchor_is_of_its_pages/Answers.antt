use Rattle.ol_reserve.proofs.PairLaws.{newest_kept, newest_one, newest_seen, ready_kept}
use Rattle.ol_reserve.proofs.laws.newest_anchor_is_of_its_pages.Goals as goal

pub returns-clause-one : goal.returns-clause-one
returns-clause-one c d a b p q = newest_one d a b p q

pub returns-clause-pages : goal.returns-clause-pages
returns-clause-pages c d e now same newest = newest_kept d e now same newest

pub returns-clause-stop : goal.returns-clause-stop
returns-clause-stop c past now ready d rest = newest_seen past now d ready rest

pub returns-clause-elsewhere : goal.returns-clause-elsewhere
returns-clause-elsewhere c old new is_in now apart stops ready = ready_kept old new is_in now apart stops.behind ready
