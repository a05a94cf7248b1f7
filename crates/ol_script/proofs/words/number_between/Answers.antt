use Rattle.std.proofs.Common.{rules}
use Rattle.ol_script.proofs.NumberLaws.{long_is_large}
use Rattle.ol_script.specs.Words.{number_between}
use Rattle.ol_script.proofs.words.number_between.Goals as goal
use Rattle.ol_script.proofs.words.number_between.Goals.{then-word-gt-DIGITS_LIMIT-via-then-word-gt-DIGITS_LIMIT, then-word-gt-DIGITS_LIMIT-via-else-word-gt-DIGITS_LIMIT+then-not-is_decimal}

pub returns-then-word-gt-DIGITS_LIMIT-clause-value : goal.returns-then-word-gt-DIGITS_LIMIT-clause-value
unfolding number_between
returns-then-word-gt-DIGITS_LIMIT-clause-value c =
    elim c.then-word-gt-DIGITS_LIMIT.branch [
      | then-word-gt-DIGITS_LIMIT-via-then-word-gt-DIGITS_LIMIT w ↦ long_is_large c.args.least c.args.most c.args.word.now c.requires w.if-word-gt-DIGITS_LIMIT.true
      | then-word-gt-DIGITS_LIMIT-via-else-word-gt-DIGITS_LIMIT+then-not-is_decimal w ↦ search rules
    ]
