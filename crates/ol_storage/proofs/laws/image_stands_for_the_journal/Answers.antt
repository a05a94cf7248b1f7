use Rattle.ol_storage.proofs.Lifting.{lifted}
use Rattle.ol_storage.proofs.laws.image_stands_for_the_journal.Goals as goal

pub returns : goal.returns
returns c = λ k up journal records start reached last a d is sound ups within stands. lifted k up journal records start is reached last a d sound ups within stands
