use Rattle.std.specs.Prelude.{◌≡◌}
use Rattle.ol_txn.specs.Seats.{table_of}
use Rattle.ol_read_turns.specs.PageSlots.{page_owner}
use Rattle.ol_read_turns.proofs.owners.page_owner.Given as goal

abbrev pub invariant-loop-slot : goal.invariant-loop-slot
invariant-loop-slot l = l.least ≡ page_owner (table_of l.locks) l.session l.space l.page l.slot
