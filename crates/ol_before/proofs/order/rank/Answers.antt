use Rattle.std.proofs.Common.{ap, arith, sym, true, false, ◌≡◌, ◌∙◌, ◌<◌, ◌+◌, ◌-◌, ◌/◌, length, get_or}
use Rattle.ol_before.specs.Images.{Image, is_before}
use Rattle.ol_before.proofs.OrderLaws.{below_rank, from_rank, rank_within}
use Rattle.ol_before.proofs.order.rank.Goals as goal

pub loop-low-init : goal.loop-low-init
loop-low-init c = (omega arith, rank_within c.args.space c.args.page c.args.held.now, omega arith)

pub loop-low-preserved-then-is_before : goal.loop-low-preserved-then-is_before
loop-low-preserved-then-is_before c =
    let middle = c.loop-low.low + (c.loop-low.high - c.loop-low.low) / 2 in
    let i = c.index-held-middle.result in
    let within : middle < length c.args.held.now = omega arith in
    let here : is_before c.args.space c.args.page (get_or c.args.held.now middle i) ≡ true =
    ap (λ (j : Image). is_before c.args.space c.args.page j) (sym c.index-held-middle.is) ∙ sym c.is_before.ensures ∙ c.if-is_before.true in
    (below_rank c.args.space c.args.page c.args.held.now middle i c.requires within here, c.loop-low.invariant.1, c.loop-low.invariant.2)

pub loop-low-preserved : goal.loop-low-preserved
loop-low-preserved c =
    let middle = c.loop-low.low + (c.loop-low.high - c.loop-low.low) / 2 in
    let i = c.index-held-middle.result in
    let within : middle < length c.args.held.now = omega arith in
    let behind : is_before c.args.space c.args.page (get_or c.args.held.now middle i) ≡ false =
    ap (λ (j : Image). is_before c.args.space c.args.page j) (sym c.index-held-middle.is) ∙ sym c.is_before.ensures ∙ c.if-is_before.false in
    (c.loop-low.invariant.0, from_rank c.args.space c.args.page c.args.held.now middle i within behind, omega arith)
