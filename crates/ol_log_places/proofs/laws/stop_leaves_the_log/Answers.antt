use Rattle.ol_log_places.proofs.Files.{free_thinned, holds_file, holds_lower, holds_none, holds_page}
use Rattle.ol_log_places.proofs.laws.stop_leaves_the_log.Goals as goal

pub returns-clause-none : goal.returns-clause-none
returns-clause-none a c j need upto uniq r d log near shows = holds_none c r j need upto uniq d log near shows

pub returns-clause-page : goal.returns-clause-page
returns-clause-page a c j need uniq r place p d next log near low may = holds_page c r j need place p uniq d next log near low may

pub returns-clause-file : goal.returns-clause-file
returns-clause-file a c j need upto uniq file r d free log near may = holds_file c r j need upto uniq file d free log near may

pub returns-clause-lower : goal.returns-clause-lower
returns-clause-lower a c j need flushed total uniq lower d le holds = holds_lower c j need flushed total uniq lower d le holds

pub returns-clause-thinned : goal.returns-clause-thinned
returns-clause-thinned a c need file r free = free_thinned c need file r free
