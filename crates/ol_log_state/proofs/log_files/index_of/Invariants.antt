use Rattle.std.proofs.Common.{drop, ◌==◌, ◌≡◌}
use Rattle.std.specs.List.{position_from}
use Rattle.ol_log_state.specs.Uses.{Stored}
use Rattle.ol_log_state.proofs.log_files.index_of.Given as goal

abbrev pub invariant-loop-i : goal.invariant-loop-i
invariant-loop-i l = position_from (λ (s : Stored). s.held.uniq == l.uniq) l.i (drop l.i l.uses) ≡ position_from (λ (s : Stored). s.held.uniq == l.uniq) 0 l.uses
