use Rattle.std.proofs.Common.{drop, fold, ◌≡◌}
use Rattle.ol_rules.specs.Locks.{lesser, low_in}
use Rattle.ol_txn.specs.Seats.{table_of}
use Rattle.ol_txn.proofs.locks.Locks.low.Given as goal

abbrev pub invariant-loop-seat : goal.invariant-loop-seat
invariant-loop-seat l = fold lesser l.low (table_of (drop l.seat-index l.seat-items)) ≡ low_in (table_of l.seat-items)
