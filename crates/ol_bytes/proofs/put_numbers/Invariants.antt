use Rattle.std.proofs.Common.{◌≡◌, ◌+◌, ◌*◌, ◌++◌, take}
use Rattle.ol_bytes.specs.Numbers.{numbers_bytes}
use Rattle.ol_bytes.proofs.put_numbers.Given as goal

-- the numbers before the index stand behind what was there
abbrev pub invariant-loop-number : goal.invariant-loop-number
invariant-loop-number l = record {
  next : l.end ≡ l.at + 8 * l.number-index;
  front : take l.end l.out ≡ take l.at l.initial.out ++ numbers_bytes (take l.number-index l.numbers);
}
