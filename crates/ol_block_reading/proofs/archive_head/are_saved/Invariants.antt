use Rattle.std.proofs.Common.{◌≡◌, ◌*◌, ◌-◌, ◌≤◌, length}
use Rattle.ol_block_reading.specs.Testing.{are_saved}
use Rattle.ol_block_reading.proofs.archive_head.are_saved.Given as goal

-- so many spaces are left, and are good where all of them are
abbrev pub invariant-loop : goal.invariant-loop
invariant-loop l = record {
  room : 17 * (l.count - l.counter) ≤ length l.rest;
  whole : are_saved (l.count - l.counter) l.limit l.least l.rest ≡ are_saved l.count l.limit 0 l.bytes;
}
