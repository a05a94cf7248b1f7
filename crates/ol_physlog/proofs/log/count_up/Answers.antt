use Rattle.std.proofs.Common.{arith, sym, ◌∙◌, length, ◌≡◌}
use Rattle.std.proofs.lemmas.List.{ext_get_or}
use Rattle.std.proofs.lemmas.List.FromFn.{get_or-range_with_len, length-range_with_len}
use Rattle.ol_physlog.proofs.log.count_up.Goals as goal

pub returns : goal.returns
returns c =
    let size : length c.loop-k.numbers ≡ length c.args.numbers.now = c.loop-k.auto.numbers in
    ext_get_or 0 c.loop-k.numbers _ (size ∙ sym (length-range_with_len 0 (length c.args.numbers.now)))
    (λ i lt. omega (arith, c.loop-k.invariant i (omega (arith, lt, c.loop-k-test.false, size)), get_or-range_with_len 0 (length c.args.numbers.now) i 0 (omega (arith, lt, size))))
