use Rattle.std.proofs.Common.{All, List, subst}
use Rattle.ol_values.specs.declared.line.Line.{Line}
use Rattle.ol_rules.specs.Scripts.{Ascends}
use Rattle.ol_script.proofs.LineLaws.{forms_from, rising_from}
use Rattle.ol_script.specs.Spelling.{IsLine}
use Rattle.ol_script.proofs.script.Script.as_slice.Goals as goal

pub returns-clause-rising : goal.returns-clause-rising
returns-clause-rising c = subst (λ (l : List Line). Ascends l) c.self.view_is (rising_from 1 c.self.inside.lines c.self.invariant)

pub returns-clause-forms : goal.returns-clause-forms
returns-clause-forms c = subst (λ (l : List Line). All IsLine l) c.self.view_is (forms_from 1 c.self.inside.lines c.self.invariant)
