use Rattle.std.proofs.Common.{length, take, ◌*◌, ◌++◌, ◌+◌, ◌≡◌, ◌≤◌}
use Rattle.ol_values.specs.Config.{number_words}
use Rattle.ol_values.specs.Text.{slots_told}
use Rattle.ol_script.proofs.SlotLaws.{told_from}
use Rattle.ol_script.proofs.entry_line.put_slots.Given as goal

abbrev pub invariant-loop-slot : goal.invariant-loop-slot
invariant-loop-slot l = record {
  room : l.end ≤ l.fn.at + 3 * l.slot;
  length_kept : length l.buf ≡ length l.fn.buf;
  written : take l.end l.buf ++ told_from l.bits l.slot ≡ take l.fn.at l.fn.buf ++ number_words (slots_told l.bits);
}
