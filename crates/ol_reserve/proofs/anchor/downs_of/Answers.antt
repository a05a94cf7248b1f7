use Rattle.std.proofs.Common.{sym, ◌∙◌}
use Rattle.ol_reserve.proofs.Fields.{behind_down, fields_in, numbers_back}
use Rattle.ol_reserve.proofs.anchor.downs_of.Goals as goal

pub returns : goal.returns
returns c gate a is e =
    numbers_back a.down_at (behind_down a) c.split_at.result.1.now c.read_numbers.new.numbers (c.split_at.ensures.back ∙ (fields_in gate a c.args.page.now is e).downs) is.downs (c.read_numbers.auto.numbers ∙ sym is.each.1) c.read_numbers.ensures
