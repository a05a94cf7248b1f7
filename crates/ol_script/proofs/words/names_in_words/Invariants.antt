use Rattle.ol_script.specs.Pieces.{count_behind}
use Rattle.ol_words.specs.Words.{pieces_behind}
use Rattle.ol_script.proofs.NameLaws.{IsReading}
use Rattle.ol_script.proofs.words.names_in_words.Given as goal

abbrev pub invariant-loop-word : goal.invariant-loop-word
invariant-loop-word l = record { read : IsReading (pieces_behind 32 l.fn.behind) l.names (pieces_behind 32 l.rest) }

abbrev pub decreases-loop-word : goal.decreases-loop-word
decreases-loop-word l = count_behind l.rest
