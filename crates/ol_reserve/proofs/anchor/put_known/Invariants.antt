use Rattle.std.proofs.Common.{◌≡◌, ◌+◌, ◌*◌, ◌++◌, take}
use Rattle.ol_bytes.specs.Numbers.{numbers_bytes}
use Rattle.ol_reserve.specs.Anchor.{known_of}
use Rattle.ol_reserve.proofs.anchor.put_known.Given as goal

-- the levels of the spaces before this one stand behind what was there
abbrev pub invariant-loop-space : goal.invariant-loop-space
invariant-loop-space l = record {
  next : l.end ≡ l.at + 32 * l.space;
  front : take l.end l.page ≡ take l.at l.initial.page ++ numbers_bytes (known_of (take l.space l.zero) (take l.space l.one));
}
