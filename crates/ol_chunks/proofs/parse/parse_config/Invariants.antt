use Rattle.std.proofs.Common.{length}
use Rattle.ol_chunks.specs.Drafts.{reading_in}
use Rattle.ol_chunks.proofs.TextLaws.{IsLeft}
use Rattle.ol_chunks.proofs.parse.parse_config.Given as goal

abbrev pub invariant-loop-line : goal.invariant-loop-line
invariant-loop-line l = IsLeft l.bytes l.number (reading_in l.draft) l.rest

abbrev pub decreases-loop-line : goal.decreases-loop-line
decreases-loop-line l = length l.rest
