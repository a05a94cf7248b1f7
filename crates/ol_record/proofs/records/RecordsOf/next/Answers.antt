use Rattle.std.proofs.Common.{sym, ◌∙◌}
use Rattle.ol_record.proofs.Counts.{none_left, none_there, one_there}
use Rattle.ol_record.proofs.records.RecordsOf.next.Goals as goal

pub returns-then-self-eq0-clause-none : goal.returns-then-self-eq0-clause-none
returns-then-self-eq0-clause-none c = sym c.self.view_is ∙ none_left c.self.inside.left c.self.inside.rest.now c.if-self-eq0.true

pub returns-in_err-record-clause-none : goal.returns-in_err-record-clause-none
returns-in_err-record-clause-none c = rw c.from_residual.ensures (sym c.self.view_is ∙ none_there c.self.inside.left c.self.inside.rest.now c.in_err-record.ensures)

pub returns-clause-next : goal.returns-clause-next
returns-clause-next c =
    sym c.self.view_is ∙ one_there c.self.inside.left c.self.inside.rest.now (c.in_ok-record.record, c.in_ok-record.rest.now) c.if-self-eq0.false c.in_ok-record.ensures
