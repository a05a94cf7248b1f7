use Rattle.ol_log_places.proofs.Files.{gates_file}
use Rattle.ol_loglog.proofs.pages.close_file.Goals as goal

pub returns-in-Ok-clause-gates : goal.returns-in-Ok-clause-gates
returns-in-Ok-clause-gates g c r are k lt = gates_file c.args.table.now c.args.file c.args.gates.now.items c.note_shut.new.gates.items r are c.note_shut.ensures.count c.note_shut.ensures.shut c.note_shut.ensures.others k lt
