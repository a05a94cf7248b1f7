use Rattle.std.proofs.Common.{◌≡◌, ◌*◌, ◌++◌, ◌-◌, ◌≤◌, length, map}
use Rattle.ol_object.specs.Spaces.{saved_of}
use Rattle.ol_block_reading.specs.Testing.{saved_list_in}
use Rattle.ol_block_reading.proofs.archive_head.saved_list_of.Given as goal

-- the spaces that were read, and those that are left
abbrev pub invariant-loop : goal.invariant-loop
invariant-loop l = record {
  room : 17 * (l.count - l.counter) ≤ length l.rest;
  whole : map saved_of l.spaces.items ++ saved_list_in (l.count - l.counter) l.rest ≡ saved_list_in l.count l.bytes;
}
