use Rattle.std.proofs.Common.{drop, flat_map, length, take, ◌*◌, ◌++◌, ◌+◌, ◌≡◌, ◌≤◌}
use Rattle.ol_values.specs.Text.{byte_text, row_text}
use Rattle.ol_script.proofs.entry_line.put_row.Given as goal

abbrev pub invariant-loop-byte : goal.invariant-loop-byte
invariant-loop-byte l = record {
  room : l.end ≤ l.fn.at + 1 + 3 * l.byte-index;
  length_kept : length l.buf ≡ length l.fn.buf;
  written : take l.end l.buf ++ flat_map byte_text (drop l.byte-index l.byte-items) ≡ take l.fn.at l.fn.buf ++ row_text l.row;
}
