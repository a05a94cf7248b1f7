use Rattle.std.proofs.Common.{◌≡◌, ◌*◌, ◌-◌, ◌≤◌, length}
use Rattle.ol_page.specs.Testing.{are_slots}
use Rattle.ol_page.proofs.are_slots.Given as goal

-- so many slots are left, and are slots where all of them are
abbrev pub invariant-loop : goal.invariant-loop
invariant-loop l = record { room : 64 * (31 - l.counter) ≤ length l.rest; whole : are_slots (31 - l.counter) l.rest ≡ are_slots 31 l.bytes }
