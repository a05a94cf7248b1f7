use Rattle.std.proofs.Common.{drop, ◌≡◌}
use Rattle.ol_core.specs.Filled.{used_from}
use Rattle.ol_core.proofs.pages.Pages.page_behind.Given as goal

abbrev pub invariant-loop-space : goal.invariant-loop-space
invariant-loop-space l = drop l.left (used_from l.self l.marks l.space) ≡ drop l.passed (used_from l.self l.marks 0)
