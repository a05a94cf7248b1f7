use Rattle.ol_turn_laws.proofs.CaptureLaws.{left_appended, left_changed, waiting_appended, waiting_changed}
use Rattle.ol_turn_laws.proofs.changes_add_their_page.Goals as goal

pub returns-clause-left : goal.returns-clause-left
returns-clause-left k = λ r m a cut. left_appended r m a cut

pub returns-clause-waiting : goal.returns-clause-waiting
returns-clause-waiting k = λ r m a cut. waiting_appended r m a cut

pub returns-clause-change_left : goal.returns-clause-change_left
returns-clause-change_left k = λ n rid r m a cut. left_changed n rid r m a cut

pub returns-clause-change : goal.returns-clause-change
returns-clause-change k = λ n rid r m a cut. waiting_changed n rid r m a cut
