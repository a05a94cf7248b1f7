use Rattle.std.proofs.Common.{replicate, ◌≡◌}
use Rattle.ol_core.specs.Filled.{no_rows}
use Rattle.ol_core.proofs.pages.Pages.new.Given as goal

abbrev pub invariant-loop : goal.invariant-loop
invariant-loop l = l.spaces.items ≡ replicate l.counter no_rows
