use Rattle.ol_loglog.proofs.Kept.{order_not_last, reusable_free, room_free}
use Rattle.ol_loglog.proofs.laws.reusable_file_is_free.Goals as goal

pub returns-clause-reusable : goal.returns-clause-reusable
returns-clause-reusable a past v r floor j ready low not_last reusable = reusable_free past v r floor j ready low not_last reusable

pub returns-clause-room : goal.returns-clause-room
returns-clause-room a past v r floor j ready low is order some = room_free past v r floor j ready low is order some

pub returns-clause-not_last : goal.returns-clause-not_last
returns-clause-not_last a v is order enters = order_not_last v is order enters
