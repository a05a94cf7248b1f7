use Rattle.ol_turn_laws.proofs.SpaceLaws.{formatted_apart, history_apart, opened_apart, turn_apart}
use Rattle.ol_turn_laws.proofs.archives_stay_apart.Goals as goal

pub returns-clause-formatted : goal.returns-clause-formatted
returns-clause-formatted k = λ c. formatted_apart c

pub returns-clause-opened : goal.returns-clause-opened
returns-clause-opened k = λ c f. opened_apart c f

pub returns-clause-turn : goal.returns-clause-turn
returns-clause-turn k = λ shelf g m n actor event apart. turn_apart shelf g m n actor event apart

pub returns-clause-history : goal.returns-clause-history
returns-clause-history k = λ shelf m h apart. history_apart shelf m h apart
