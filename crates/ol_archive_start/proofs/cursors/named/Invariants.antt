use Rattle.std.specs.List.{list_any}
use Rattle.std.proofs.Common.{get_or, length, ℕ, false, ◌<◌, ◌==◌, ◌≡◌}
use Rattle.ol_archive_start.proofs.cursors.named.Given as goal

abbrev pub invariant-loop-space : goal.invariant-loop-space
invariant-loop-space l = (length l.named ≡ 16) × ((i : ℕ) → i < l.space → get_or l.named i false ≡ list_any (λ s. s == i) l.spaces)
