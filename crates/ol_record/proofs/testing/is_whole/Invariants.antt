use Rattle.std.proofs.Common.{◌≡◌, ◌-◌}
use Rattle.ol_record.specs.Reading.{whole_in}
use Rattle.ol_record.proofs.testing.is_whole.Given as goal

-- what is left is whole where all of it is
abbrev pub invariant-loop : goal.invariant-loop
invariant-loop l = whole_in (l.count - l.counter) l.rest ≡ whole_in l.count l.bytes
