use Rattle.std.proofs.Common.{◌∙◌}
use Rattle.ol_reserve.specs.Anchor.{anchor_numbers}
use Rattle.ol_reserve.proofs.Fields.{behind_numbers, fields_in, numbers_back}
use Rattle.ol_reserve.proofs.anchor.numbers_of.Goals as goal

pub returns : goal.returns
returns c gate a is e =
    numbers_back (anchor_numbers a) (behind_numbers a) c.split_at.result.1.now c.read_numbers.new.numbers (c.split_at.ensures.back ∙ (fields_in gate a c.args.page.now is e).numbers) is.numbers c.read_numbers.auto.numbers c.read_numbers.ensures
