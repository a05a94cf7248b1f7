use Rattle.std.proofs.Common.{◌<◌, ◌≤◌, ◌+◌, ℕ}
use Rattle.ol_log_places.specs.Heads.{end_in, stood_at}
use Rattle.ol_log_places.proofs.heads.are_apart.Given as goal

abbrev pub invariant-loop-k : goal.invariant-loop-k
invariant-loop-k l = record {
  from : 1 ≤ l.k;
  apart : (i : ℕ) → i + 1 < l.k → end_in (stood_at l.heads i) ≤ (stood_at l.heads (i + 1)).head.first;
}
