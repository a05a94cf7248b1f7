use Rattle.std.proofs.Common.{◌≡◌, ◌+◌, length}
use Rattle.std.specs.Option.{option_map_or}
use Rattle.ol_words.proofs.Decimals.{behind}
use Rattle.ol_chunks.specs.Pieces.{words_behind}
use Rattle.ol_chunks.specs.Reading.{numbers_in_words}
use Rattle.ol_chunks.proofs.words.numbers_of.Given as goal

abbrev pub invariant-loop-rest : goal.invariant-loop-rest
invariant-loop-rest l = behind l.numbers.items (numbers_in_words (words_behind l.rest)) ≡ numbers_in_words (words_behind l.text)

abbrev pub decreases-loop-rest : goal.decreases-loop-rest
decreases-loop-rest l = option_map_or (λ rest. 1 + length rest.now) l.rest 0
