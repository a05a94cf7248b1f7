use Rattle.std.proofs.Common.{length, ◌*◌, ◌+◌, ◌≡◌, ◌≤◌}
use Rattle.ol_core.specs.Filled.{used_from}
use Rattle.ol_core.proofs.pages.Pages.count.Given as goal

abbrev pub invariant-loop-space : goal.invariant-loop-space
invariant-loop-space l =
    (l.count + length (used_from l.self l.marks l.space) ≡ length (used_from l.self l.marks 0)) × (l.count ≤ 65535 * l.space)
