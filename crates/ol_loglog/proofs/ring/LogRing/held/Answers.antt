use Rattle.std.proofs.Common.{ap, is_some, slice_get, ◌∙◌}
use Rattle.ol_loglog.specs.RingValue.{RingValue}
use Rattle.ol_loglog.proofs.Told.{held_false}
use Rattle.ol_loglog.proofs.ring.LogRing.held.Goals as goal

pub returns-clause-none : goal.returns-clause-none
returns-clause-none c = held_false c.held.result c.args.self.now.state.buffer (c.held.ensures ∙ ap (λ (v : RingValue). is_some (slice_get v.state.buffer 0)) c.self.view_is)
