use Rattle.ol_txn.proofs.TellingSeats.{seat_again, seat_read}
use Rattle.ol_txn.proofs.laws.steps_of_session_join.Goals as goal

pub returns-clause-read : goal.returns-clause-read
returns-clause-read c = λ seats k s long is. seat_read seats k s long is

pub returns-clause-again : goal.returns-clause-again
returns-clause-again c = λ seats k first second. seat_again seats k first second
