use Rattle.std.proofs.Common.{ap, ◌∙◌}
use Rattle.ol_rules.specs.Ring.{blocker}
use Rattle.ol_log_state.specs.RingState.{ring_of}
use Rattle.ol_loglog.specs.RingValue.{RingValue}
use Rattle.ol_loglog.proofs.Rules.{blocker_is}
use Rattle.ol_loglog.proofs.ring.LogRing.blocker.Goals as goal

pub returns : goal.returns
returns c = c.blocker.ensures ∙ blocker_is c.self.inside.table c.self.inside.state c.self.invariant.area ∙ ap (λ (v : RingValue). blocker v.config v.state.reuse (ring_of v.state)) c.self.view_is
