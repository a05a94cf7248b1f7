use Rattle.std.proofs.Common.{IfSome, subst, ◌<◌}
use Rattle.ol_log_state.specs.Files.{next_page}
use Rattle.ol_log_state.specs.RingState.{RingState}
use Rattle.ol_log_state.proofs.NextLaws.{told_below}
use Rattle.ol_log_state.proofs.ring.LogState.unbacked.Goals as goal

pub returns-clause-below : goal.returns-clause-below
returns-clause-below c =
    subst (λ (s : RingState). IfSome c.unbacked.result (λ u. u.uniq < (next_page s.files).uniq)) c.self.view_is
    (told_below c.self.inside.files (record { backed = c.self.inside.backed; need = 0 }) (next_page c.self.inside.files).uniq c.unbacked.result c.next_page-place.ensures.closed c.unbacked.ensures)
