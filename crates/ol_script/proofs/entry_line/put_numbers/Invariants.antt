use Rattle.std.proofs.Common.{drop, length, take, ◌*◌, ◌++◌, ◌+◌, ◌≡◌, ◌≤◌}
use Rattle.ol_values.specs.Config.{number_words}
use Rattle.ol_script.proofs.entry_line.put_numbers.Given as goal

abbrev pub invariant-loop-number : goal.invariant-loop-number
invariant-loop-number l = record {
  room : l.end ≤ l.fn.at + 24 * l.number-index;
  length_kept : length l.buf ≡ length l.fn.buf;
  written : take l.end l.buf ++ number_words (drop l.number-index l.numbers) ≡ take l.fn.at l.fn.buf ++ number_words l.numbers;
}
