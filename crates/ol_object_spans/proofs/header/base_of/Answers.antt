use Rattle.std.proofs.Common.{◌∙◌, ap, arith, option_map, refl, sym}
use Rattle.ol_values.specs.Blocks.{Saved}
use Rattle.ol_rules.specs.Shelf.{saved_in}
use Rattle.ol_object_spans.proofs.CodeLaws.{base_first, base_none, base_passed}
use Rattle.ol_object_spans.proofs.header.base_of.Goals as goal

pub loop-saved-init : goal.loop-saved-init
loop-saved-init c = refl

pub returns-then-from-space : goal.returns-then-from-space
returns-then-from-space c =
    sym (base_first c.args.space c.spaces-saved-items.result.now c.loop-saved.saved-index c.loop-saved-test.true (sym c.from.ensures ∙ c.if-from-space.true))
    ∙ c.loop-saved.invariant
    ∙ ap (λ l. option_map (λ (s : Saved). s.base) (saved_in c.args.space l)) c.spaces-saved-items.ensures.value

pub loop-saved-preserved : goal.loop-saved-preserved
loop-saved-preserved c =
    sym (base_passed c.args.space c.spaces-saved-items.result.now c.loop-saved.saved-index c.loop-saved-test.true (λ e. c.if-from-space.false (c.from.ensures ∙ e)))
    ∙ c.loop-saved.invariant

pub returns : goal.returns
returns c =
    sym (base_none c.args.space c.spaces-saved-items.result.now c.loop-saved.saved-index (omega arith))
    ∙ c.loop-saved.invariant
    ∙ ap (λ l. option_map (λ (s : Saved). s.base) (saved_in c.args.space l)) c.spaces-saved-items.ensures.value
