use Rattle.std.proofs.Common.{length, vec_capacity, ◌≡◌, ◌≤◌}
use Rattle.std.specs.List.{AllByRecursion}
use Rattle.ol_log_state.specs.StoredFiles.{IsSpare}
use Rattle.ol_log_state.proofs.log_files.spare_uses.Given as goal

abbrev pub invariant-loop : goal.invariant-loop
invariant-loop l = record {
  count : length l.spare.items ≡ l.counter;
  spares : AllByRecursion (IsSpare l.pages) l.spare.items;
  capacity : l.capacity ≤ vec_capacity l.spare;
}
