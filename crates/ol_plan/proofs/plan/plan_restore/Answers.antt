use Rattle.std.proofs.Common.{◌∙◌, ap, sym}
use Rattle.std.proofs.lemmas.Result.{err_from_is_err_and}
use Rattle.std.specs.Prelude.{is_some, unwrap_or}
use Rattle.ol_plan.specs.Drafts.{draft_of, fault_in}
use Rattle.ol_plan.proofs.CountingLaws.{end_told}
use Rattle.ol_plan.proofs.PlanLaws.{has_fault, has_plan, is_refused, none_test}
use Rattle.ol_plan.proofs.plan.plan_restore.Goals as goal

pub returns-in_err-draft : goal.returns-in_err-draft
returns-in_err-draft c shelf is =
    let p = err_from_is_err_and c.from_residual.result c.from_residual.ensures.1 in
    rw (p.1, p.2) (
    is_refused shelf c.args.spaces.now c.args.end c.as_slice.result.now c.last_position-last.result c.in_err-draft.field-0.0 (c.as_slice.ensures ∙ is)
    (c.last_position-last.ensures ∙ ap (unwrap_or c.args.end) (end_told shelf _ is)) c.in_err-draft.ensures
    )

pub returns-in-Some : goal.returns-in-Some
returns-in-Some c shelf is =
    has_fault shelf c.args.spaces.now c.args.end c.as_slice.result.now c.last_position-last.result (draft_of c.in_ok-draft.draft) c.in-Some.fault (c.as_slice.ensures ∙ is)
    (c.last_position-last.ensures ∙ ap (unwrap_or c.args.end) (end_told shelf _ is)) c.in_ok-draft.ensures
    (sym (ap (λ b. fault_in b (draft_of c.in_ok-draft.draft)) (none_test c.is_none.result (is_some c.args.end) c.is_none.ensures)) ∙ sym c.fault_in.ensures ∙ c.in-Some.is)

pub returns : goal.returns
returns c shelf is =
    has_plan shelf c.args.spaces.now c.args.end c.as_slice.result.now c.last_position-last.result (draft_of c.in_ok-draft.draft) c.in_ok-plan.plan (c.as_slice.ensures ∙ is)
    (c.last_position-last.ensures ∙ ap (unwrap_or c.args.end) (end_told shelf _ is)) c.in_ok-draft.ensures
    (sym (ap (λ b. fault_in b (draft_of c.in_ok-draft.draft)) (none_test c.is_none.result (is_some c.args.end) c.is_none.ensures)) ∙ sym c.fault_in.ensures ∙ c.in_default.is) c.in_ok-plan.ensures
