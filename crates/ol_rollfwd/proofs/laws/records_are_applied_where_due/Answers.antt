use Rattle.std.proofs.Common.{ap, nat_lt, sym, Option, ◌∙◌}
use Rattle.std.proofs.lemmas.Bool.{and_parts, ltb-true}
use Rattle.ol_values.specs.declared.row.Row.{Row}
use Rattle.ol_values.specs.Config.{has_page}
use Rattle.ol_values.specs.Image.{with_slot}
use Rattle.ol_rollfwd.proofs.FrameLaws.{applied_at, moved_at, moves}
use Rattle.ol_rollfwd.proofs.JournalLaws.{moved_parts, rest_untouched}
use Rattle.ol_rollfwd.proofs.laws.records_are_applied_where_due.Goals as goal

pub returns-clause-place : goal.returns-clause-place
returns-clause-place k = λ s r rid row e. moved_parts s r rid (applied_at s r rid row (sym e)).0

pub returns-clause-row : goal.returns-clause-row
returns-clause-row k = λ s r rid row p e whole.
    let at = applied_at s r rid row (sym e) in
    let has = (moved_parts s r rid at.0).0 in
    let slot = ltb-true rid.slot 31 (and_parts (has_page s.config rid.space rid.page) (nat_lt rid.slot 31) has).1 in
    moves p s.next r rid (moved_at s r rid at.0) whole slot ∙ ap (λ (o : Option Row). with_slot p rid.slot o s.next) (sym at.1)

pub returns-clause-rest : goal.returns-clause-rest
returns-clause-rest k = λ s held r space page in_place none behind due. rest_untouched s held r space page in_place none behind due
