use Rattle.std.proofs.Common.{◌<◌, ℕ}
use Rattle.ol_log_places.specs.Heads.{Overlap, stood_at}
use Rattle.ol_log_places.proofs.heads.shares_at.Given as goal

abbrev pub invariant-loop-earlier : goal.invariant-loop-earlier
invariant-loop-earlier l = record {
  none : (i : ℕ) → i < l.earlier → Overlap (stood_at l.heads i) (stood_at l.heads l.k) → ⊥;
}
