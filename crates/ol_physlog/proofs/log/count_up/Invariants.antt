use Rattle.std.proofs.Common.{get_or, ◌<◌, ◌≡◌, ℕ}
use Rattle.ol_physlog.proofs.log.count_up.Given as goal

-- the places before this one have their numbers
abbrev pub invariant-loop-k : goal.invariant-loop-k
invariant-loop-k l = (i : ℕ) → i < l.k → get_or l.numbers i 0 ≡ i
