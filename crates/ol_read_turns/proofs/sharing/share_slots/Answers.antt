use Rattle.ol_txn.specs.Seats.{reserved_seat, seat_of}
use Rattle.ol_read_turns.specs.PageSlots.{full_among, is_set}
use Rattle.ol_read_turns.proofs.PageSharings.{reserved_owner, reserved_shared}
use Rattle.ol_read_turns.proofs.sharing.share_slots.Goals as goal

pub share_all-requires-clause-alone : goal.share_all-requires-clause-alone
share_all-requires-clause-alone c = reserved_owner c.args.locks.now c.reserve.new.self c.args.session 31 c.args.space c.args.page c.in-Ok.ensures.ok c.requires.alone

pub returns-in-Ok-clause-ok : goal.returns-in-Ok-clause-ok
returns-in-Ok-clause-ok c =
    reserved_shared c.args.locks.now c.reserve.new.self c.share_all.new.locks c.args.session (reserved_seat 31 (seat_of c.args.locks.now c.args.session)) (full_among (is_set c.args.bits) c.args.space c.args.page 31) c.is_open-sessions.ensures.sessions c.requires.session c.in-Ok.ensures.ok c.share_all.ensures.shared
