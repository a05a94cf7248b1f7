use Rattle.std.proofs.Common.{subst, true, ◌≡◌, ◌≤◌}
use Rattle.ol_rules.specs.Ring.{file_of, is_reusable, room}
use Rattle.ol_log_state.specs.Files.{next_page}
use Rattle.ol_log_state.specs.RingState.{RingState, config_of, ring_of}
use Rattle.ol_log_state.proofs.ring.LogState.next_page.Goals as goal

pub returns-clause-reuse : goal.returns-clause-reuse
returns-clause-reuse c =
    subst (λ (s : RingState). 1 ≤ room (config_of s) s.reuse (ring_of s) → (next_page s.files).enters ≡ true → is_reusable (config_of s) s.reuse (ring_of s) (file_of (config_of s) (next_page s.files).uniq) ≡ true) c.self.view_is
    (λ some enters. c.next_page.ensures.reuse (record { backed = c.self.inside.backed; need = c.self.inside.need }) some enters)
