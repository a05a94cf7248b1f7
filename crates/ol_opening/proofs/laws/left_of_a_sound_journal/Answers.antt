use Rattle.ol_opening.proofs.Journals.{sound_left, stop_left}
use Rattle.ol_opening.proofs.laws.left_of_a_sound_journal.Goals as goal

pub returns-clause-all : goal.returns-clause-all
returns-clause-all c = λ k up journal records start reached a d config is sound ups same stands. sound_left k up journal records start is sound reached a d config ups same stands

pub returns-clause-stop : goal.returns-clause-stop
returns-clause-stop c = λ k up journal records start reached last a d config is sound ups within stands. stop_left k up journal records start is reached last a d stands within config sound ups
