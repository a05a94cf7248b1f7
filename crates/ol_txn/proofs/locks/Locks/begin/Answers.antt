use Rattle.std.proofs.Common.{ap, arith}
use Rattle.ol_rules.specs.Locks.{owed_by_holding}
use Rattle.ol_txn.specs.Seats.{Seat}
use Rattle.ol_txn.proofs.SeatLaws.{one_more, sound_set}
use Rattle.ol_txn.proofs.locks.Locks.begin.Goals as goal

pub invariant_of-self : goal.invariant_of-self
invariant_of-self c =
    let owes = ap (λ (s : Seat). owed_by_holding s.holding) c.begin.ensures in
    sound_set c.self.inside.seats c.args.session 1 c.index-self-session.result _ c.self.invariant c.requires.session (omega arith) (one_more _ _ c.self.view_is c.requires.owed)
