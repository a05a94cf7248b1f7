use Rattle.std.proofs.Common.{◌≡◌}
use Rattle.ol_rules.specs.Locks.{holder_of}
use Rattle.ol_txn.specs.Seats.{table_of}
use Rattle.ol_txn.proofs.SeatLaws.{is_met, least_from}
use Rattle.ol_txn.proofs.locks.Locks.holder.Given as goal

abbrev pub invariant-loop-other : goal.invariant-loop-other
invariant-loop-other l = holder_of (table_of l.self) l.session l.rid l.own ≡ least_from (is_met l.self l.session l.rid l.own) l.other
