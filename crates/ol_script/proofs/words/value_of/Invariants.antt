use Rattle.std.proofs.Common.{take, ◌≡◌}
use Rattle.ol_script.specs.Words.{value_of}
use Rattle.ol_script.proofs.words.value_of.Given as goal

abbrev pub invariant-loop-byte : goal.invariant-loop-byte
invariant-loop-byte l = l.value ≡ value_of (take l.byte-index l.word)
