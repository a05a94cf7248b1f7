use Rattle.std.proofs.Common.{arith}
use Rattle.ol_script.proofs.NumberLaws.{value_of_front}
use Rattle.ol_script.proofs.words.value_of.Goals as goal

pub overflow_mul-value : goal.overflow_mul-value
overflow_mul-value c =
    omega (arith, value_of_front c.args.word.now c.loop-byte.byte-index c.requires.digits c.requires.limit, c.loop-byte.invariant)

pub overflow_add-value : goal.overflow_add-value
overflow_add-value c =
    omega (arith, value_of_front c.args.word.now c.loop-byte.byte-index c.requires.digits c.requires.limit, c.loop-byte.invariant, c.from.ensures, c.type_inv.word c.loop-byte.byte-index)
