use Rattle.ol_record.proofs.Counts.{bytes_most}
use Rattle.ol_record.proofs.Several.{nine_at_least}
use Rattle.ol_record.proofs.laws.record_has_9_to_141_bytes.Goals as goal

pub returns-clause-least : goal.returns-clause-least
returns-clause-least c = λ r. nine_at_least r

pub returns-clause-most : goal.returns-clause-most
returns-clause-most c = λ r is. bytes_most r is
