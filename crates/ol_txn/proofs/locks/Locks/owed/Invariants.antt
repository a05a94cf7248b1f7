use Rattle.std.proofs.Common.{drop, ◌+◌, ◌≡◌, ◌≤◌, ◌^◌}
use Rattle.ol_rules.specs.Locks.{owed_in}
use Rattle.ol_txn.specs.Seats.{table_of}
use Rattle.ol_txn.proofs.locks.Locks.owed.Given as goal

abbrev pub invariant-loop-seat : goal.invariant-loop-seat
invariant-loop-seat l = (l.owed + owed_in (table_of (drop l.seat-index l.seat-items)) ≡ owed_in (table_of l.seat-items)) × (owed_in (table_of l.seat-items) ≤ 2 ^ 62)
