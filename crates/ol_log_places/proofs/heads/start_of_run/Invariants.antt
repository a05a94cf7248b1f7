use Rattle.std.proofs.Common.{◌≡◌, ◌<◌, ◌≤◌, ◌+◌, ◌-◌, ℕ, length}
use Rattle.ol_log_places.specs.Heads.{end_in, stood_at}
use Rattle.ol_log_places.proofs.heads.start_of_run.Given as goal

abbrev pub invariant-loop-start : goal.invariant-loop-start
invariant-loop-start l = record {
  within : l.start ≤ length l.heads - 1;
  chain : (k : ℕ) → l.start ≤ k → k + 1 < length l.heads → end_in (stood_at l.heads k) ≡ (stood_at l.heads (k + 1)).head.first;
}

abbrev pub decreases-loop-start : goal.decreases-loop-start
decreases-loop-start l = l.start
