use Rattle.std.proofs.Common.{ap, ◌-◌, ◌∙◌}
use Rattle.ol_rules.specs.Ring.{held, room}
use Rattle.ol_log_state.specs.RingState.{RingState, config_of, ring_of}
use Rattle.ol_log_state.proofs.RingLaws.{byte_is}
use Rattle.ol_log_state.proofs.ring.LogState.free_pages.Goals as goal
use mir.Val.{bool_byte}

pub returns : goal.returns
returns c =
    c.saturating_sub.ensures
    ∙ ap (λ n. c.room-room.result - n) (c.from.ensures ∙ ap bool_byte c.held.ensures ∙ byte_is c.args.self.now.buffer)
    ∙ ap (λ n. n - held (ring_of c.args.self.now)) (c.room-room.ensures.value ∙ ap (λ (s : RingState). room (config_of s) s.reuse (ring_of s)) c.self.view_is)
