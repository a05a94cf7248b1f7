use Rattle.std.proofs.Common.{filter, not, vec_capacity, vec_len, ℕ, ◌%◌, ◌+◌, ◌-◌, ◌==◌, ◌≡◌, ◌≤◌}
use Rattle.std.specs.List.{AllByRecursion}
use Rattle.ol_log_state.specs.StoredFiles.{IsRoomy, IsSpare}
use Rattle.ol_log_state.specs.Uses.{Stored}
use Rattle.ol_log_state.proofs.log_files.clear_file.Given as goal

abbrev pub invariant-loop-i : goal.invariant-loop-i
invariant-loop-i l = record {
  uses : filter (λ (s : Stored). not (((s.held.uniq - 1) % l.files) == l.file)) l.uses.items ≡ filter (λ (s : Stored). not (((s.held.uniq - 1) % l.files) == l.file)) l.fn.uses.items;
  total : vec_len l.uses + vec_len l.spare ≡ vec_len l.fn.uses + vec_len l.fn.spare;
  for_uses : vec_capacity l.uses ≡ vec_capacity l.fn.uses;
  for_spare : vec_capacity l.fn.spare ≤ vec_capacity l.spare;
  spare : (pages : ℕ) → AllByRecursion (IsRoomy pages) l.fn.uses.items → AllByRecursion (IsSpare pages) l.fn.spare.items → AllByRecursion (IsRoomy pages) l.uses.items × AllByRecursion (IsSpare pages) l.spare.items;
}

abbrev pub decreases-loop-i : goal.decreases-loop-i
decreases-loop-i l = vec_len l.uses
