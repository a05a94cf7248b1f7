use Rattle.std.proofs.Common.{arith}
use Rattle.ol_txn.proofs.SeatLaws.{owed_result, owed_shared, sound_set}
use Rattle.ol_txn.proofs.locks.Locks.try_share.Goals as goal

pub invariant_of-self : goal.invariant_of-self
invariant_of-self c =
    let owes = owed_result c.share.result 0 _ _ _ c.share.ensures.ok c.share.ensures.unchanged (omega (arith, owed_shared)) in
    sound_set c.self.inside.seats c.args.session 0 c.index-self-session.result _ c.self.invariant c.requires.session owes (omega arith)
