use Rattle.ol_turn_laws.proofs.KeptLaws.{other_seat, own_seat}
use Rattle.ol_turn_laws.proofs.SeatLaws.{turn_sits}
use Rattle.ol_turn_laws.proofs.sessions_keep_their_seats.Goals as goal

pub returns-clause-turn : goal.returns-clause-turn
returns-clause-turn c = λ shelf g m n k j event from_k from_j differ. turn_sits shelf g m n k j event from_k from_j differ

pub returns-clause-other : goal.returns-clause-other
returns-clause-other c = λ m k j s from_k from_j differ. other_seat m k j s from_j from_k differ

pub returns-clause-own : goal.returns-clause-own
returns-clause-own c = λ m k s within. own_seat m k s within
