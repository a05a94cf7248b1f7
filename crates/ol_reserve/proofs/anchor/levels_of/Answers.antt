use Rattle.std.proofs.Common.{ap, ◌∙◌}
use Rattle.ol_reserve.proofs.Fields.{known_back, one_back, pair_at, zero_back}
use Rattle.ol_reserve.proofs.anchor.levels_of.Goals as goal

pub returns-clause-zero : goal.returns-clause-zero
returns-clause-zero c place gate a is e =
    zero_back a c.read_numbers.new.numbers c.levels.result is (known_back gate a c.args.page.now c.split_at.result.1.now c.read_numbers.new.numbers is e c.split_at.ensures.back c.read_numbers.auto.numbers c.read_numbers.ensures) c.levels.ensures.whole (λ k lt. c.levels.ensures.each k lt ∙ ap (λ p. pair_at c.read_numbers.new.numbers p k) place)

pub returns-clause-one : goal.returns-clause-one
returns-clause-one c place gate a is e =
    one_back a c.read_numbers.new.numbers c.levels.result is (known_back gate a c.args.page.now c.split_at.result.1.now c.read_numbers.new.numbers is e c.split_at.ensures.back c.read_numbers.auto.numbers c.read_numbers.ensures) c.levels.ensures.whole (λ k lt. c.levels.ensures.each k lt ∙ ap (λ p. pair_at c.read_numbers.new.numbers p k) place)
