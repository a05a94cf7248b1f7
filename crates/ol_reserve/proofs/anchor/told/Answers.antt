use Rattle.std.proofs.Common.{Option, Some, ap, refl, sym, ◌∙◌}
use Rattle.ol_reserve.specs.declared.anchor.Anchor.{Anchor}
use Rattle.ol_reserve.proofs.Fields.{fields_in, same_anchor}
use Rattle.ol_reserve.proofs.Results.{some_is}
use Rattle.ol_reserve.proofs.anchor.told.Goals as goal

pub returns : goal.returns
returns c gate a is e =
    ap (λ (x : Anchor). let o : Option Anchor = Some x in o)
    (same_anchor _ a c.numbers_of-numbers.result (c.numbers_of-numbers.ensures gate a is e) (fields_in gate a c.args.page.now is e).state refl refl refl refl refl refl refl refl
    (c.states_of.ensures gate a is e) (c.downs_of.ensures gate a is e) (c.levels_of.ensures.zero refl gate a is e) (c.levels_of-2.ensures.one refl gate a is e)
    (some_is c.in_ok-text.text a.text (sym c.in_ok-text.was ∙ c.text_of.ensures gate a is e)))
