use Rattle.std.proofs.Common.{arith}
use Rattle.ol_txn.proofs.SeatLaws.{owed_result, owed_owned, sound_set}
use Rattle.ol_txn.proofs.locks.Locks.try_own.Goals as goal

pub invariant_of-self : goal.invariant_of-self
invariant_of-self c =
    let owes = owed_result c.own.result 0 _ _ _ c.own.ensures.ok c.own.ensures.unchanged (omega (arith, owed_owned)) in
    sound_set c.self.inside.seats c.args.session 0 c.index-self-session.result _ c.self.invariant c.requires.session owes (omega arith)
