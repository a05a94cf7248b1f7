use Rattle.std.proofs.Common.{arith}
use Rattle.ol_txn.proofs.SeatLaws.{owed_result, sound_set}
use Rattle.ol_txn.proofs.locks.Locks.reserve.Goals as goal

pub invariant_of-self : goal.invariant_of-self
invariant_of-self c =
    let owes = owed_result c.reserve.result 0 _ _ _ c.reserve.ensures.ok c.reserve.ensures.unchanged (omega arith) in
    sound_set c.self.inside.seats c.args.session 0 c.index-self-session.result _ c.self.invariant c.requires owes (omega arith)
