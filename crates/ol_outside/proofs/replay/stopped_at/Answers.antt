use Rattle.std.proofs.Common.{◌≡◌, ◌+◌, ◌-◌, ◌^◌, min, length, take, sym, ap, ◌∙◌, subst, arith}
use Rattle.std.proofs.lemmas.List.{take_all}
use Rattle.ol_outside.specs.Images.{stopped_within, SameImages}
use Rattle.ol_outside.specs.KeptCalls.{call_of, kept_calls, calls_of}
use Rattle.ol_outside.proofs.KeptLaws.{kept_calls-more}
use Rattle.ol_outside.proofs.StopLaws.{ComeTo, come-more, stopped-last, stopped-before}
use Rattle.ol_outside.proofs.replay.stopped_at.Goals as goal

pub returns-then-is_after_stop-clause-same : goal.returns-then-is_after_stop-clause-same
returns-then-is_after_stop-clause-same c passed le =
    let counted = c.saturating_add-number.ensures ∙ ap (λ n. min (n + 1) (2 ^ 64 - 1)) c.saturating_add.ensures in
    stopped-before c.args.kept.now c.loop-index.index c.index-kept-index.result passed c.loop-index.number c.saturating_add-number.result c.args.moment (omega arith) c.index-kept-index.is c.requires c.loop-index.invariant counted (sym c.is_after_stop.ensures ∙ c.if-is_after_stop.true)

pub loop-index-preserved : goal.loop-index-preserved
loop-index-preserved c =
    let k = c.index-kept-index.result in
    let calls = kept_calls (take c.loop-index.index c.args.kept.now) in
    let next = c.saturating_add-number.result in
    let counted = c.saturating_add-number.ensures ∙ ap (λ n. min (n + 1) (2 ^ 64 - 1)) c.saturating_add.ensures in
    let come = come-more (call_of k.order) k.passed calls c.loop-index.number next c.args.moment c.requires c.loop-index.invariant counted (sym c.is_after_stop.ensures ∙ c.if-is_after_stop.false) in
    subst (λ l. ComeTo l next c.args.moment) (sym (kept_calls-more c.args.kept.now c.loop-index.index k (omega arith) c.index-kept-index.is)) come

pub returns-clause-same : goal.returns-clause-same
returns-clause-same c passed le =
    let kept = c.args.kept.now in
    let m = c.args.moment in
    let whole = take_all (length kept) kept (omega arith) in
    let all : take c.loop-index.index kept ≡ kept = take_all c.loop-index.index kept (omega arith) in
    let come = subst (λ l. ComeTo (kept_calls l) c.loop-index.number m) all c.loop-index.invariant in
    subst (λ l. SameImages (kept_calls l) (stopped_within (calls_of kept passed) m)) (sym whole) (stopped-last kept passed c.loop-index.number m come le)
