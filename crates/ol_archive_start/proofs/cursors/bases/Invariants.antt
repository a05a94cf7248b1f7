use Rattle.std.proofs.Common.{get_or, length, ℕ, ◌<◌, ◌≡◌}
use Rattle.ol_archive_start.specs.Refusing.{parent_of}
use Rattle.ol_archive_start.proofs.cursors.bases.Given as goal

abbrev pub invariant-loop-space : goal.invariant-loop-space
invariant-loop-space l = (length l.bases ≡ 16) × ((i : ℕ) → i < l.space → get_or l.bases i 0 ≡ (parent_of l.anchor l.level i).1)
