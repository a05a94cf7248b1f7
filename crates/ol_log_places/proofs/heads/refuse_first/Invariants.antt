use Rattle.std.proofs.Common.{◌<◌, ◌-◌, ℕ, length}
use Rattle.ol_log_places.specs.Heads.{SharesAt}
use Rattle.ol_log_places.proofs.heads.refuse_first.Given as goal

abbrev pub invariant-loop-k : goal.invariant-loop-k
invariant-loop-k l = record {
  within : l.k < length l.heads;
  none : (i : ℕ) → i < l.k → SharesAt l.heads i → ⊥;
}

abbrev pub decreases-loop-k : goal.decreases-loop-k
decreases-loop-k l = length l.heads - l.k
