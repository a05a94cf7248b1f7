use Rattle.std.proofs.Common.{Some, ap, sym, ◌∙◌}
use Rattle.std.specs.Option.{option_map}
use Rattle.ol_rules.specs.Ring.{page_of}
use Rattle.ol_log_places.specs.declared.heads.Stood.{Stood}
use Rattle.ol_log_state.specs.RingState.{RingState, ring_of}
use Rattle.ol_log_state.specs.Uses.{range_of_head}
use Rattle.ol_log_state.proofs.RingLaws.{page_found}
use Rattle.ol_log_state.proofs.ring.LogState.stood.Goals as goal

pub returns-in_err-head-clause-page : goal.returns-in_err-head-clause-page
returns-in_err-head-clause-page c =
    ap (λ o. option_map (λ (s : Stood). range_of_head s.head) o) c.from_residual.ensures
    ∙ ap (λ o. option_map range_of_head o) (sym c.in_err-head.was ∙ c.find.ensures.value)
    ∙ page_found c.args.position c.self.inside.files.uses
    ∙ ap (λ (s : RingState). page_of (ring_of s) c.args.position) c.self.view_is

pub returns-clause-page : goal.returns-clause-page
returns-clause-page c =
    ap (λ (s : Stood). Some (range_of_head s.head)) c.stood_in.ensures.value
    ∙ ap (λ o. option_map range_of_head o) (sym c.in_ok-head.was ∙ c.find.ensures.value)
    ∙ page_found c.args.position c.self.inside.files.uses
    ∙ ap (λ (s : RingState). page_of (ring_of s) c.args.position) c.self.view_is
