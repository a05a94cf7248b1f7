use Rattle.ol_read_turns.specs.PageSlots.{is_set}
use Rattle.ol_read_turns.proofs.PageSharings.{IsShared}
use Rattle.ol_read_turns.proofs.sharing.share_all.Given as goal

abbrev pub invariant-loop-slot : goal.invariant-loop-slot
invariant-loop-slot l = IsShared l.fn.locks l.locks l.session l.space l.page l.slot (is_set l.bits)
