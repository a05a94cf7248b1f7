use Rattle.std.proofs.Common.{ap, arith}
use Rattle.ol_rules.specs.Locks.{owed_by_holding}
use Rattle.ol_txn.specs.Seats.{Seat}
use Rattle.ol_txn.proofs.SeatLaws.{owed_undone, sound_set}
use Rattle.ol_txn.proofs.locks.Locks.undone.Goals as goal

pub invariant_of-self : goal.invariant_of-self
invariant_of-self c =
    let owes = ap (λ (s : Seat). owed_by_holding s.holding) c.undone.ensures in
    sound_set c.self.inside.seats c.args.session 0 c.index-self-session.result _ c.self.invariant c.requires.session (omega (arith, owed_undone)) (omega arith)
