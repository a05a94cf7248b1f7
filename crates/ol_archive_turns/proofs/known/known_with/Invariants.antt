use Rattle.std.proofs.Common.{get_or, length, ℕ, ◌<◌, ◌≡◌}
use Rattle.ol_archive_turns.specs.Ending.{known_in}
use Rattle.ol_archive_turns.proofs.known.known_with.Given as goal

abbrev pub invariant-loop-space : goal.invariant-loop-space
invariant-loop-space l =
    (length l.after ≡ 16) × ((i : ℕ) → i < l.space → get_or l.after i (0, 0) ≡ known_in l.cursor l.kept l.known i)
