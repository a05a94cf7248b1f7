use Rattle.ol_turn_laws.proofs.KnowsLaws.{formatted_knows, history_knows, opened_knows, turn_knows}
use Rattle.ol_turn_laws.proofs.spaces_stay_known.Goals as goal

pub returns-clause-formatted : goal.returns-clause-formatted
returns-clause-formatted c = λ k. formatted_knows k

pub returns-clause-opened : goal.returns-clause-opened
returns-clause-opened c = λ k f. opened_knows k f

pub returns-clause-turn : goal.returns-clause-turn
returns-clause-turn c = λ shelf g m n actor event h. turn_knows shelf g m n actor event h

pub returns-clause-history : goal.returns-clause-history
returns-clause-history c = λ shelf m h knows. history_knows shelf m h knows
