use Rattle.std.proofs.Common.{◌≡◌, ◌+◌, ◌*◌, ◌<◌, get_or, length, ℕ}
use Rattle.ol_reserve.proofs.anchor.levels.Given as goal

-- the spaces before this one have their level
abbrev pub invariant-loop-space : goal.invariant-loop-space
invariant-loop-space l = record {
  whole : length l.levels ≡ 16;
  each : (k : ℕ) → k < l.space → ◌≡◌ {A = ℕ × ℕ} (get_or l.levels k (0, 0)) (get_or l.known (4 * k + l.place) 0, get_or l.known (4 * k + l.place + 1) 0);
}
