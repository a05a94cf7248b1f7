use Rattle.std.specs.Prelude.{if◌then◌else◌, true, ◌+◌, ◌<◌, ◌^◌}
use Rattle.std.proofs.Common.{ap, subst, sym, ◌∙◌}
use Rattle.ol_read_turns.proofs.PageBits.{one_more, or_bit}
use Rattle.ol_read_turns.proofs.page.with_slot.Goals as goal

pub returns-then-full-clause-value : goal.returns-then-full-clause-value
returns-then-full-clause-value c = or_bit c.args.bits c.args.slot c.requires.below c.requires.slot ∙ ap (λ b. c.args.bits + (if b then 2 ^ c.args.slot else 0)) (sym c.if-full.true)

pub returns-then-full-clause-small : goal.returns-then-full-clause-small
returns-then-full-clause-small c = subst (λ k. k < 2 ^ (c.args.slot + 1)) (sym (or_bit c.args.bits c.args.slot c.requires.below c.requires.slot)) (one_more c.args.slot c.args.bits true c.requires.below)
