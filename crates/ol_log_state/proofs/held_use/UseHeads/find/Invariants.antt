use Rattle.std.proofs.Common.{drop, ◌≡◌}
use Rattle.std.specs.List.{find}
use Rattle.ol_log_state.specs.Uses.{head_holds}
use Rattle.ol_log_state.proofs.held_use.UseHeads.find.Given as goal

abbrev pub invariant-loop-head : goal.invariant-loop-head
invariant-loop-head l = find (head_holds l.position) (drop l.head-index l.head-items) ≡ find (head_holds l.position) l.head-items
