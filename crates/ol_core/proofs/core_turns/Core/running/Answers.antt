use Rattle.std.proofs.Common.{subst}
use Rattle.std.specs.Prelude.{IfSome}
use Rattle.ol_core.specs.Core.{IsWithin, Seen}
use Rattle.ol_core.proofs.Kept.{few_passed}
use Rattle.ol_core.proofs.Places.{within-kept}
use Rattle.ol_core.proofs.core_turns.Core.running.Goals as goal

pub returns-clause-few : goal.returns-clause-few
returns-clause-few c =
    subst (λ (s : Seen). IfSome c.self.inside.archive (IsWithin s.machine)) c.self.view_is (within-kept c.self.inside.registers c.self.inside.archive c.self.invariant)

pub returns-clause-limit : goal.returns-clause-limit
returns-clause-limit c = few_passed c.self.inside.archive c.self.invariant
