use Rattle.std.proofs.Common.{◌≡◌, arith, get_or, sym, true, ◌∙◌}
use Rattle.std.specs.Char.{is_ascii_digit}
use Rattle.ol_words.proofs.Decimals.{digits_more, no_digit, number_above, value_more}
use Rattle.ol_words.proofs.number.Goals as goal

pub returns-then-not-is_ascii_digit : goal.returns-then-not-is_ascii_digit
returns-then-not-is_ascii_digit c =
    no_digit c.args.most c.args.word.now c.loop-digit.digit-index c.loop-digit-test.true (sym c.is_ascii_digit.ensures.value ∙ c.if-not-is_ascii_digit.true)

pub returns-then-value-limit : goal.returns-then-value-limit
returns-then-value-limit c =
    number_above c.args.most c.args.word.now c.loop-digit.digit-index c.loop-digit.value c.loop-digit-test.true c.loop-digit.invariant.value
    (sym c.is_ascii_digit.ensures.value ∙ c.if-not-is_ascii_digit.false) (omega arith)

pub loop-digit-preserved : goal.loop-digit-preserved
loop-digit-preserved c =
    let at : is_ascii_digit (get_or c.args.word.now c.loop-digit.digit-index 0) ≡ true = sym c.is_ascii_digit.ensures.value ∙ c.if-not-is_ascii_digit.false in
    record {
      digits = digits_more c.args.word.now c.loop-digit.digit-index c.loop-digit-test.true c.loop-digit.invariant.digits at;
      value = rw c.from.ensures (value_more c.args.word.now c.loop-digit.digit-index c.loop-digit.value c.loop-digit-test.true c.loop-digit.invariant.value at);
      limit = omega arith;
    }
