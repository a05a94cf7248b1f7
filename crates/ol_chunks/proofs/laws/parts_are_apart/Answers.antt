use Rattle.ol_chunks.proofs.PartLaws.{image_inside, part_inside, parts_apart}
use Rattle.ol_chunks.proofs.laws.parts_are_apart.Goals as goal

pub returns-clause-apart : goal.returns-clause-apart
returns-clause-apart c = λ config is one other two chunk page a. parts_apart config is one other two chunk page a

pub returns-clause-inside : goal.returns-clause-inside
returns-clause-inside c = λ config is part other chunk page a. part_inside config is part other chunk page a

pub returns-clause-images : goal.returns-clause-images
returns-clause-images c = λ config is chunk page a. image_inside config chunk page a
