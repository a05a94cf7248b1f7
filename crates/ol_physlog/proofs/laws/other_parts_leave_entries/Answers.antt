use Rattle.ol_physlog.proofs.KeptLaws.{held_kept, laid_kept, settled_kept}
use Rattle.ol_physlog.proofs.laws.other_parts_leave_entries.Goals as goal

pub returns-clause-held : goal.returns-clause-held
returns-clause-held c config s images is_part e d is apart same holds = held_kept s is is_part apart config images e d same holds

pub returns-clause-laid : goal.returns-clause-laid
returns-clause-laid c config s images is_part old new apart from reads laid = laid_kept s laid.is is_part apart config old new images from laid reads

pub returns-clause-settled : goal.returns-clause-settled
returns-clause-settled c config s images is_part old new apart from all laid = settled_kept s laid.is is_part apart config old new images from laid all
