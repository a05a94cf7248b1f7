use Rattle.std.proofs.Common.{inl, false, ◌≡◌, ◌∙◌, Err, Result, ap, subst, sym}
use Rattle.ol_reserve.specs.Anchor.{is_low}
use Rattle.ol_reserve.specs.Pair.{IsDamaged}
use Rattle.ol_reserve.specs.declared.anchor.Anchor.{Anchor}
use Rattle.ol_reserve.specs.declared.anchor.AnchorFault.{AnchorFault}
use Rattle.ol_reserve.proofs.Answering.{spoilt}
use Rattle.ol_reserve.proofs.Results.{only_bad}
use Rattle.ol_reserve.proofs.Targets.{gate_is}
use Rattle.ol_reserve.proofs.pair.test_page.Goals as goal

pub returns-then-bytes-ne-OPEN-clause-told : goal.returns-then-bytes-ne-OPEN-clause-told
returns-then-bytes-ne-OPEN-clause-told c d shows opened = c.if-bytes-ne-OPEN.true (gate_is d c.args.page c.args.bytes.now shows ∙ opened)

pub returns-else-is_low-clause-bad : goal.returns-else-is_low-clause-bad
returns-else-is_low-clause-bad c d shows chunk at is =
    let same : c.args.page ≡ at = cc in
    subst (λ n. IsDamaged d n) same
    (inl (spoilt d c.args.page c.args.bytes.now shows c.if-bytes-ne-OPEN.false (λ a is_anchor e. sym (ap is_low (c.in-Ok.ensures.only 1 a is_anchor e)) ∙ sym c.is_low.ensures ∙ c.if-is_low.false)))

pub returns-in-Err-BadAnchor-clause-bad : goal.returns-in-Err-BadAnchor-clause-bad
returns-in-Err-BadAnchor-clause-bad c d shows chunk at is =
    let same : c.args.page ≡ at = cc in
    subst (λ n. IsDamaged d n) same
    (inl (spoilt d c.args.page c.args.bytes.now shows c.if-bytes-ne-OPEN.false (λ a is_anchor e. absurd (c.in-Err-BadAnchor.ensures.bad (ap (λ f. let r : Result Anchor AnchorFault = Err f in r) (only_bad c.in-Err-BadAnchor.field-0)) 1 a is_anchor e))))
