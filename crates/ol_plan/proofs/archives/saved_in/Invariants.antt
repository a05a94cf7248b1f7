use Rattle.std.proofs.Common.{◌≡◌, ℕ, drop}
use Rattle.std.specs.Prelude.{find, ◌==◌}
use Rattle.ol_plan.proofs.archives.saved_in.Given as goal

abbrev pub invariant-loop-saved : goal.invariant-loop-saved
invariant-loop-saved l = find (λ (s : ℕ × ℕ × ℕ). s.0 == l.space) (drop l.saved-index l.spaces) ≡ find (λ (s : ℕ × ℕ × ℕ). s.0 == l.space) l.spaces
