use Rattle.std.proofs.Common.{ap, arith, ◌-◌}
use Rattle.ol_rules.specs.Locks.{owed_by_holding}
use Rattle.ol_txn.specs.Seats.{Seat}
use Rattle.ol_txn.proofs.SeatLaws.{owed_part}
use Rattle.ol_txn.proofs.locks.Locks.seat.Goals as goal

pub returns-clause-owed : goal.returns-clause-owed
returns-clause-owed c =
    let part = owed_part c.self.inside.seats (c.args.session - 1) c.index-self-session.result (omega (arith, c.self.told)) in
    let is = ap (λ (s : Seat). owed_by_holding s.holding) c.index-self-session.is in
    omega (arith, part, is, c.self.invariant.1)
