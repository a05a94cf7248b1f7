use Rattle.ol_record.proofs.Counts.{rules_kept}
use Rattle.ol_record.proofs.laws.record_keeps_rules.Goals as goal

pub returns : goal.returns
returns c = λ r is. rules_kept r is
