use Rattle.std.proofs.Common.{ap, subst, ◌∙◌}
use Rattle.ol_rules.specs.Ring.{free}
use Rattle.ol_log_state.specs.RingState.{ring_of}
use Rattle.ol_loglog.specs.RingValue.{HasRoom, RingValue, ring_value}
use Rattle.ol_loglog.specs.Ready.{IsFloor, IsInOrder, IsNextFree, IsReady}
use Rattle.ol_loglog.proofs.Kept.{room_free}
use Rattle.ol_loglog.proofs.Rules.{free_is}
use Rattle.ol_loglog.proofs.ring.LogRing.free_pages.Goals as goal

pub returns-clause-value : goal.returns-clause-value
returns-clause-value c =
    c.free_pages.ensures ∙ free_is c.self.inside.table c.self.inside.state c.self.invariant.area
    ∙ ap (λ (v : RingValue). free v.config v.state.reuse (ring_of v.state)) c.self.view_is

pub returns-clause-entry : goal.returns-clause-entry
returns-clause-entry c past r floor j ready low order some =
    subst (λ (v : RingValue). IsReady past v r floor j → IsFloor v.state floor → IsInOrder v.config v.state → HasRoom v.config v.state → IsNextFree v r floor) c.self.view_is
    (λ is floor_is ordered there. room_free past (ring_value c.self.inside.table c.self.inside.state c.self.inside.gates.items) r floor j is floor_is c.self.invariant ordered there) ready low order some
