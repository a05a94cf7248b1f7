use Rattle.ol_log_places.proofs.Files.{gates_file, gates_page}
use Rattle.ol_log_places.proofs.laws.gates_are_kept.Goals as goal

pub returns-clause-page : goal.returns-clause-page
returns-clause-page a gates now r place p are size here others = gates_page gates now r place p are size here others

pub returns-clause-file : goal.returns-clause-file
returns-clause-file a c file gates now r are size shut others = gates_file c file gates now r are size shut others
