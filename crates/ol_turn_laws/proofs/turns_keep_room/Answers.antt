use Rattle.ol_turn_laws.proofs.OpenedLaws.{opened_regular}
use Rattle.ol_turn_laws.proofs.RegularLaws.{formatted_regular}
use Rattle.ol_turn_laws.proofs.RegularTurns.{history_both, turn_both}
use Rattle.ol_turn_laws.proofs.RoomyLaws.{turn_roomy}
use Rattle.ol_turn_laws.proofs.StepLaws.{formatted_roomy, has_room}
use Rattle.ol_turn_laws.proofs.turns_keep_room.Goals as goal

pub returns-clause-formatted : goal.returns-clause-formatted
returns-clause-formatted k = λ c. formatted_roomy c

pub returns-clause-turn : goal.returns-clause-turn
returns-clause-turn k = λ shelf g m n actor event h o short. turn_roomy shelf g m n actor event h o short

pub returns-clause-sound : goal.returns-clause-sound
returns-clause-sound k = λ m r some h. has_room m r some h

pub returns-clause-regular : goal.returns-clause-regular
returns-clause-regular k = λ c. formatted_regular c

pub returns-clause-kept : goal.returns-clause-kept
returns-clause-kept k = λ shelf g m n actor event sound short h r. turn_both shelf g m n actor event sound short (h, r)

pub returns-clause-opened : goal.returns-clause-opened
returns-clause-opened k = λ c f w. opened_regular c f w

pub returns-clause-history : goal.returns-clause-history
returns-clause-history k = λ shelf m h sound short roomy regular. history_both shelf m h sound short (roomy, regular)
