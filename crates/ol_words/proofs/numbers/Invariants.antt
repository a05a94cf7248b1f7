use Rattle.std.proofs.Common.{◌≡◌, ◌+◌, length}
use Rattle.std.specs.Option.{option_map_or}
use Rattle.ol_words.specs.Words.{numbers_up_to, pieces_behind}
use Rattle.ol_words.proofs.Decimals.{behind}
use Rattle.ol_words.proofs.numbers.Given as goal

abbrev pub invariant-loop-rest : goal.invariant-loop-rest
invariant-loop-rest l = behind l.numbers.items (numbers_up_to l.most (pieces_behind l.separator l.rest)) ≡ numbers_up_to l.most (pieces_behind l.separator l.text)

abbrev pub decreases-loop-rest : goal.decreases-loop-rest
decreases-loop-rest l = option_map_or (λ rest. 1 + length rest.now) l.rest 0
