use Rattle.std.proofs.Common.{ap, take, ◌∙◌}
use Rattle.std.proofs.lemmas.List.{take_at}
use Rattle.ol_reserve.proofs.Fields.{fields_in}
use Rattle.ol_reserve.proofs.anchor.states_of.Goals as goal

pub returns : goal.returns
returns c gate a is e =
    c.copy_from_slice.ensures.after ∙ c.split_at-2.ensures.front ∙ ap (take 16) (c.split_at.ensures.back ∙ (fields_in gate a c.args.page.now is e).states)
    ∙ take_at a.states _ 16 is.each.0
