use Rattle.std.proofs.Common.{ap, ◌∙◌}
use Rattle.ol_rules.specs.Ring.{free_after_switch}
use Rattle.ol_log_state.specs.RingState.{ring_of}
use Rattle.ol_loglog.specs.RingValue.{RingValue}
use Rattle.ol_loglog.proofs.Rules.{following_is}
use Rattle.ol_loglog.proofs.ring.LogRing.free_after_switch.Goals as goal

pub returns : goal.returns
returns c =
    c.free_after_switch.ensures ∙ following_is c.self.inside.table c.self.inside.state c.self.invariant.area
    ∙ ap (λ (v : RingValue). free_after_switch v.config v.state.reuse (ring_of v.state)) c.self.view_is
